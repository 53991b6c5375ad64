-- Entries that are put in a transaction, one after the other.
use Rattle.std.specs.Prelude.{not}
use Rattle.std.proofs.Common.{◌≡◌, ℕ, ◌+◌, ◌<◌, ◌≤◌, List, [], ◌∷◌, ◌++◌, length, take, drop, get_or, Bool, true, false, IsTrue, Ok, Err, Result, refl, sym, ap, subst, ◌∙◌, inl, inr, arith, take-append-drop, drop-cons, add-one}
use Rattle.sqlite_value.specs.Order.{Row}
use Rattle.sqlite_trees.specs.declared.store.Store.{Ghosts}
use Rattle.sqlite_trees.specs.View.{doubt}
use Rattle.sqlite.specs.Held.{Held, state}
use Rattle.std.proofs.lemmas.Bool.{both_ways}
use Rattle.sqlite.specs.declared.error.Error.{Error}
use Rattle.sqlite.specs.State.{HasCleanDisk, KeepsCommit, IsRolledBack}
use Rattle.sqlite.specs.Steps.{FailsToCommit}
use Rattle.sqlite.proofs.InsideLemmas.{keeps_then, inside_keeps}
use Rattle.member_keeper.specs.declared.stored.Stored.{Stored}
use Rattle.member_sqlite.specs.declared.causes.Refusal.{Refusal}
use Rattle.member_sqlite.specs.Statements.{ExecutesWithin, Ran, PutsOne, PutsEach, Keeps, StopsAt}

-- whether a transaction was under way, by what was told
pub was_inside : (told inside : Bool) → told ≡ not inside → told ≡ false → IsTrue inside
was_inside told true is untold = refl
was_inside told false is untold = absurd (let e : true ≡ false = sym is ∙ untold in cc)

module _ {S : Type 0} (g : Ghosts S) where
  -- what runs in a transaction commits nothing
  pub ran_keeps : (sql : List ℕ) (values : Row) (old new : Held S) (result : Result ℕ Refusal) → Ran g ExecutesWithin sql values old new result → KeepsCommit (state g old) (state g new)
  ran_keeps sql values old new (Ok count) ran = inside_keeps (state g old) (state g new) 0 false sql values (Ok count) ran
  ran_keeps sql values old new (Err why) ran = inside_keeps (state g old) (state g new) 0 false sql values (Err ran.0) ran.2

  -- a transaction goes on after an entry that was put in it
  pub one_stays : (entry : Stored) (old new : Held S) → PutsOne g ExecutesWithin entry old new (Ok tt) → IsTrue new.in_transaction
  one_stays entry old new (inl changed) = changed.2.1.mode
  one_stays entry old new (inr added) = added.2.1.1.mode

  pub each_stays : (entries : List Stored) (old new : Held S) → PutsEach g ExecutesWithin entries old new → IsTrue old.in_transaction → IsTrue new.in_transaction
  each_stays [] old new same inside = subst (λ (h : Held S). IsTrue h.in_transaction) (sym same) inside
  each_stays (entry ∷ rest) old new h inside = each_stays rest h.0 new h.2 (one_stays entry old h.0 h.1)

  pub each_more : (before : List Stored) (entry : Stored) (old mid new : Held S) → PutsEach g ExecutesWithin before old mid → PutsOne g ExecutesWithin entry mid new (Ok tt) → PutsEach g ExecutesWithin (before ++ entry ∷ []) old new
  each_more [] entry old mid new same put = (new, subst (λ (h : Held S). PutsOne g ExecutesWithin entry h new (Ok tt)) same put, refl)
  each_more (first ∷ rest) entry old mid new h put = (h.0, h.1, each_more rest entry h.0 mid new h.2 put)

  -- what a loop that puts entries has done: all this only while the disk is clean, as of any call
  pub record HasPut (entries : List Stored) (old now : Held S) : Type 0 where
    pub put : HasCleanDisk (state g now) → IsTrue old.in_transaction → PutsEach g ExecutesWithin entries old now
    pub kept : HasCleanDisk (state g now) → KeepsCommit (state g old) (state g now)
    pub clean : doubt (state g old).is_clean ≤ doubt (state g now).is_clean

  pub has_put_nothing : (old : Held S) → HasPut [] old old
  has_put_nothing old = record { put = λ _ _. refl; kept = λ _. record { was_open = λ h. h; committed = λ _. refl }; clean = omega arith }

  -- and what a call that puts one more does
  pub record Puts (entry : Stored) (old now : Held S) (outcome : Result (Unit {0}) Refusal) : Type 0 where
    pub put : HasCleanDisk (state g now) → IsTrue old.in_transaction → PutsOne g ExecutesWithin entry old now outcome
    pub kept : HasCleanDisk (state g now) → KeepsCommit (state g old) (state g now)
    pub clean : doubt (state g old).is_clean ≤ doubt (state g now).is_clean

  pub has_put_more : (before : List Stored) (entry : Stored) (old mid now : Held S) → HasPut before old mid → Puts entry mid now (Ok tt) → HasPut (before ++ entry ∷ []) old now
  has_put_more before entry old mid now so_far one =
      let was = λ (clean : HasCleanDisk (state g now)). let early : HasCleanDisk (state g mid) = omega (arith, one.clean) in early in
      record {
        put = λ clean inside.
            let each = so_far.put (was clean) inside in
            each_more before entry old mid now each (one.put clean (each_stays before old mid each inside));
        kept = λ clean. keeps_then (state g old) (state g mid) (state g now) (so_far.kept (was clean)) (one.kept clean);
        clean = omega (arith, so_far.clean, one.clean);
      }

  -- the loop ends at an entry that is refused
  pub stops_at : (entries : List Stored) (at : ℕ) (entry default : Stored) (old mid now : Held S) (why : Refusal) → at < length entries → entry ≡ get_or entries at default
      → HasPut (take at entries) old mid → Puts entry mid now (Err why) → HasCleanDisk (state g now) → IsTrue old.in_transaction → StopsAt g entries old now why
  stops_at entries at entry default old mid now why within is so_far one clean inside =
      let each = so_far.put (omega (arith, one.clean)) inside in
      record {
        before = take at entries;
        entry = entry;
        after = drop (at + 1) entries;
        are = sym (take-append-drop at entries) ∙ ap (λ rest. take at entries ++ rest) (drop-cons entries at default within ∙ ap (λ n. get_or entries at default ∷ drop n entries) (sym (add-one at)) ∙ ap (λ (e : Stored). e ∷ drop (at + 1) entries) (sym is));
        mid = mid;
        put = each;
        refused = one.put clean (each_stays (take at entries) old mid each inside);
      }

  -- a transaction that was rolled back leaves what there was before it
  pub keeps_undone : (old last new : Held S) → IsRolledBack (state g last) (state g new) → KeepsCommit (state g old) (state g last) → (IsTrue (state g old).is_open → (state g old).now ≡ (state g old).committed) → Keeps g old new
  keeps_undone old last new undone kept settled = record {
    now = λ shown. let was = undone.was_open shown in (undone.undone shown).0 ∙ kept.committed was ∙ sym (settled (kept.was_open was));
    committed = λ shown. (undone.undone shown).1 ∙ kept.committed (undone.was_open shown);
  }

  pub keeps_itself : (old : Held S) → Keeps g old old
  keeps_itself old = record { now = λ _. refl; committed = λ _. refl }

  -- so does a commit that fails, while the transaction is under way
  pub uncommitted : (last new : Held S) (error : Error) → FailsToCommit (state g last) (state g new) error → IsTrue last.in_transaction → IsRolledBack (state g last) (state g new)
  uncommitted last new error (inl failed) inside = failed.3
  uncommitted last new error (inr outside) inside = absurd (both_ways _ outside.1 inside)
