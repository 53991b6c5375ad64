-- What the calls say of the table that is told.
use Rattle.std.proofs.Common.{◌≡◌, [], ◌++◌, List, refl, ap, sym, ◌∙◌, subst, arith}
use Rattle.std.specs.Prelude.{Result, Ok, Err, None, Some, Bool, true, false, ℕ, nat_lt, nat_eq, ◌+◌, ◌<◌, ◌≤◌, Option, option_map, OnOk, OnErr, IfOk, MatchBool}
use Rattle.member_keeper.specs.declared.stored.Stored.{Stored}
use Rattle.member_keeper.specs.declared.keeper.Keeper.{Ghosts as Keeping}
use Rattle.member_keeper.specs.declared.keeper.KeeperError.{KeeperError}
use Rattle.member_keeper.specs.declared.keeper.KeeperError.TheVariants.{Failed, Memory}
use Rattle.member_keeper.specs.Tables.{Table, put_all, IsTable}
use Rattle.member_keeper.specs.Calls.{Becomes, Changes, Joins, IsCaused, Gives}
use Rattle.member_keeper.proofs.Orders.{table_put_all}
use Rattle.member_write_behind.specs.Gathering.{Gathered, IsGathering, table_of, Waits, HandsOn, StoresBehind, LoadsBehind, ClearsBehind}
use Rattle.member_write_behind.proofs.Puts.{puts_over, put_alone}

module _ {D : Type 0} (keeping : Keeping D) (old new : Gathered D) where
  -- what is told of the table is the change of what the inner keeper tells
  becomes_over : (told after : Option Table) (pending pending_new entries : Table) (change : Table → Table) → Becomes told after change → ((t : Table) → put_all (change t) pending_new ≡ put_all (put_all t pending) entries)
      → Becomes (option_map (λ t. put_all t pending) told) (option_map (λ t. put_all t pending_new) after) (λ t. put_all t entries)
  becomes_over None after pending pending_new entries change is same = tt
  becomes_over (Some t) after pending pending_new entries change is same = ap (option_map (λ y. put_all y pending_new)) is ∙ ap Some (same t)

  becomes_same : (told after : Option Table) (pending pending_new : Table) → Becomes told after (λ t. t) → pending_new ≡ pending → Becomes (option_map (λ t. put_all t pending) told) (option_map (λ t. put_all t pending_new) after) (λ t. t)
  becomes_same None after pending pending_new is same = tt
  becomes_same (Some t) after pending pending_new is same = ap (option_map (λ y. put_all y pending_new)) is ∙ ap (λ (p : Table). Some (put_all t p)) same

  becomes_none : (told after : Option Table) (pending pending_new : Table) → Becomes told after (λ t. []) → pending_new ≡ [] → Becomes (option_map (λ t. put_all t pending) told) (option_map (λ t. put_all t pending_new) after) (λ t. [])
  becomes_none None after pending pending_new is same = tt
  becomes_none (Some t) after pending pending_new is same = ap (option_map (λ y. put_all y pending_new)) is ∙ ap (λ (p : Table). Some (put_all [] p)) same

  pub stored : (entries : List Stored) (result : Result (Unit {0}) KeeperError) → IsTable old.pending → StoresBehind keeping old new entries result → Changes (table_of keeping old) (table_of keeping new) (λ t. put_all t entries) result
  stored entries result table = go (nat_lt (old.waiting + 1) old.period) result
    where
      unchanged : (told : Option Table) → Becomes told told (λ t. t)
      unchanged None = tt
      unchanged (Some t) = refl

      handed : (r : Result (Unit {0}) KeeperError) → HandsOn keeping old new entries r → Changes (table_of keeping old) (table_of keeping new) (λ t. put_all t entries) r
      handed (Ok x) h =
          becomes_over (keeping.table old.inner) (keeping.table new.inner) old.pending new.pending entries (λ t. put_all t (put_all old.pending entries)) h.inner
          (λ t. ap (λ (p : Table). put_all (put_all t (put_all old.pending entries)) p) h.ok.1 ∙ puts_over t old.pending entries table)
      handed (Err e) h = becomes_same (keeping.table old.inner) (keeping.table new.inner) old.pending new.pending h.inner h.err.1

      waited : (r : Result (Unit {0}) KeeperError) → Waits keeping old new entries r → Changes (table_of keeping old) (table_of keeping new) (λ t. put_all t entries) r
      waited (Ok x) h =
          becomes_over (keeping.table old.inner) (keeping.table new.inner) old.pending new.pending entries (λ t. t) (subst (λ (w : Gathered D). Becomes (keeping.table old.inner) (keeping.table w.inner) (λ t. t)) (sym h.ok) (unchanged (keeping.table old.inner)))
          (λ t. ap (λ (w : Gathered D). put_all t w.pending) h.ok ∙ puts_over t old.pending entries table)
      waited (Err e) h = subst (λ (w : Gathered D). Becomes (table_of keeping old) (table_of keeping w) (λ t. t)) (sym h.err.0) (unchanged (table_of keeping old))

      go : (b : Bool) (r : Result (Unit {0}) KeeperError) → MatchBool b (Waits keeping old new entries r) (HandsOn keeping old new entries r) → Changes (table_of keeping old) (table_of keeping new) (λ t. put_all t entries) r
      go true r h = waited r h
      go false r h = handed r h

  pub store_caused : (entries : List Stored) (result : Result (Unit {0}) KeeperError) → StoresBehind keeping old new entries result → IsCaused (keeping.faults old.inner) (keeping.faults new.inner) result
  store_caused entries result = go (nat_lt (old.waiting + 1) old.period) result
    where
      waited : (r : Result (Unit {0}) KeeperError) → Waits keeping old new entries r → IsCaused (keeping.faults old.inner) (keeping.faults new.inner) r
      waited (Ok x) h = let same = ap (λ (w : Gathered D). keeping.faults w.inner) h.ok in record { later = omega (arith, same); failed = tt }
      waited (Err e) h =
          let same = ap (λ (w : Gathered D). keeping.faults w.inner) h.err.0 in
          record { later = omega (arith, same); failed = λ is. let e = h.err.1 in absurd (cc (e, is)) }

      go : (b : Bool) (r : Result (Unit {0}) KeeperError) → MatchBool b (Waits keeping old new entries r) (HandsOn keeping old new entries r) → IsCaused (keeping.faults old.inner) (keeping.faults new.inner) r
      go true r h = waited r h
      go false r h = h.cause

  pub loaded_same : {T : Type 0} (items : T → List Stored) (result : Result T KeeperError) → LoadsBehind keeping old new items result → Becomes (table_of keeping old) (table_of keeping new) (λ t. t)
  loaded_same items result h = becomes_same (keeping.table old.inner) (keeping.table new.inner) old.pending new.pending h.table h.same.2

  pub cleared : (result : Result (Unit {0}) KeeperError) → ClearsBehind keeping old new result → Changes (table_of keeping old) (table_of keeping new) (λ t. []) result
  cleared (Ok x) h = becomes_none (keeping.table old.inner) (keeping.table new.inner) old.pending new.pending h.inner h.ok.1
  cleared (Err e) h = becomes_same (keeping.table old.inner) (keeping.table new.inner) old.pending new.pending h.inner h.err.1

-- what was loaded, with what is pending put over it, is the table that is told
pub gives_over : (told : Option Table) (pending loaded all : Table) → Gives told loaded → all ≡ put_all (put_all [] loaded) pending → Gives (option_map (λ t. put_all t pending) told) all
gives_over None pending loaded all given is = tt
gives_over (Some t) pending loaded all given is =
    let same = is ∙ ap (λ y. put_all y pending) (put_alone loaded given.1 ∙ given.0) in
    (same, subst IsTable (sym same) (table_put_all t pending (subst IsTable given.0 given.1)))

pub loads : {D T : Type 0} (keeping : Keeping D) (old : Gathered D) (after : D) (items : T → List Stored) (x : T) (loaded : Table) → Becomes (keeping.table old.inner) (keeping.table after) (λ t. t) → keeping.faults old.inner ≤ keeping.faults after
    → Gives (keeping.table old.inner) loaded → items x ≡ put_all (put_all [] loaded) old.pending → LoadsBehind keeping old (record old { inner = after }) items (Ok x)
loads keeping old after items x loaded table later given is = record {
  same = (refl, refl, refl);
  loaded = gives_over (keeping.table old.inner) old.pending loaded (items x) given is;
  table = table;
  cause = record { later = later; failed = tt };
}

-- one store more waits, where there is room for it
pub one_more_gathers : (period waiting : ℕ) (pending entries now : Table) → IsGathering period waiting pending → waiting + 1 < period → now ≡ put_all pending entries → IsGathering period (waiting + 1) now
one_more_gathers period waiting pending entries now before room is = record {
  fewest = before.fewest;
  most = before.most;
  waits = room;
  none = λ is. absurd (omega (arith, is));
  table = subst IsTable (sym is) (table_put_all pending entries before.table);
}

-- of answers that are not told nothing is said
pub joins_untold : {T : Type 0} (new : Option (List Bool)) (result : Result T KeeperError) → Joins None new result
joins_untold new (Ok value) = tt
joins_untold new (Err Failed) = tt
joins_untold new (Err Memory) = tt
