-- What is recorded grows with a history, is united with it, and is what all its records say.
use Rattle.std.proofs.Common.{◌≡◌, ◌≢◌, ℕ, zero, suc, ◌+◌, ◌<◌, ◌≤◌, List, [], ◌∷◌, Bool, true, false, ◌||◌, Some, refl, ap, sym, ◌∙◌, subst, arith, ⊎_elim}
use Rattle.std.specs.Prelude.{slice_get}
use Rattle.std.specs.List.{list_any}
use Rattle.std.proofs.lemmas.Bool.{cases_eq, cases_lt, or_cases, or_left, or_right}
use Rattle.std.proofs.lemmas.Map.Keys.{any_passes_from_place}
use mathlib.Core.Bool.{or-false}
use Rattle.model_history.specs.Table.{identities, with_at}
use Rattle.model_history.specs.Vector.{VersionVector, join}
use Rattle.model_history.specs.History.{Action, Record, Stamped, History, HasRecord, cut, stamped_from, all_records}
use Rattle.model_history.specs.History.Action.{Prune}
use Rattle.model_history.specs.Cuts.{action_of, IsConsistentCut, IsNext, grown}
use Rattle.model_history.proofs.HistoryLaws.{with_at_other}
use Rattle.model_history.proofs.PastLaws.{identity_of_record}
use Rattle.model_history.proofs.PruneLaws.{IsIn, in_flat_map, to_flat_map, in_stamped, at_identities}
use Rattle.model_history.proofs.CutLaws.{with_at_is, with_at-le, new_or_old}
use Rattle.model_history.proofs.Bridge.{cut_is_history, in_cut, of_cut}
use Rattle.model_meanings.specs.Growing.{is_operation, has_operation}
use Rattle.data_growing.specs.Bits.{same_bits}
use Rattle.data_growing.specs.Recorded.{IsRecorded, Tells, TellsBetween}

-- A TEST OF A LIST'S ELEMENTS

pub any_at : {X : Type 0} (p : X → Bool) (xs : List X) → list_any p xs ≡ true → (x : X) × IsIn xs x × (p x ≡ true)
any_at p [] e = absurd (cc e)
any_at p (x ∷ xs) e = ⊎_elim
    (λ (here : p x ≡ true). (x, (zero, refl), here))
    (λ (later : list_any p xs ≡ true). let h = any_at p xs later in (h.0, (suc h.1.0, h.1.1), h.2)) (or_cases (p x) (list_any p xs) e)

-- RECORDS WITH THEIR ORIGINS AND NUMBERS

module _ {Op : Type 0} where
  pub to_stamped : (i n : ℕ) (rs : List (Record Op)) (k : ℕ) (r : Record Op) → slice_get rs k ≡ Some r → IsIn (stamped_from i n rs) (record { origin = i; number = n + k; action = r.action; past = r.past })
  to_stamped i n [] k r e = absurd (cc e)
  to_stamped i n (s ∷ rs) zero r e =
      let same : s ≡ r = cc e in
      let here : n ≡ n + 0 = omega arith in
      (zero, λ j. Some (record { origin = i; number = here j; action = (same j).action; past = (same j).past }))
  to_stamped i n (s ∷ rs) (suc k) r e =
      let later : suc n + k ≡ n + suc k = omega arith in
      let h = to_stamped i (suc n) rs k r e in
      (suc h.0, h.1 ∙ λ j. Some (record { origin = i; number = later j; action = r.action; past = r.past }))

  -- a held record of a log, among all records of its cut
  pub belongs : (log : History Op) (held : VersionVector) → IsConsistentCut log held → (i k : ℕ) (r : Record Op) → HasRecord (cut log held) i k r
      → IsIn (all_records (cut log held)) (record { origin = i; number = 1 + k; action = r.action; past = r.past })
  belongs log held h i k r has =
      to_flat_map (λ i. stamped_from i 1 (cut log held i)) identities i _ (at_identities i (identity_of_record (cut log held) (cut_is_history log held h) i k r has)) (to_stamped i 1 (cut log held i) k r has)

  -- a record of a cut, by its origin and index
  pub placed : (log : History Op) (held : VersionVector) (x : Stamped Op) → IsIn (all_records (cut log held)) x
      → (i : ℕ) × (k : ℕ) × (x.origin ≡ i) × (k < held i) × HasRecord (cut log held) i k (record { action = x.action; past = x.past })
  placed log held x there =
      let row = in_flat_map (λ i. stamped_from i 1 (cut log held i)) identities x there in
      let here = in_stamped row.0 1 (cut log held row.0) x row.2 in
      (row.0, here.0, here.2, (of_cut log held row.0 here.0 _ here.1).0, here.1)

module _ {Op : Type 0} (test : Op → Bool) (log : History Op) where
  -- ONE RECORD MORE, TWO HISTORIES, A GROUP

  stays : (held more : VersionVector) → ((i : ℕ) → held i ≤ more i) → IsRecorded test log held → IsRecorded test log more
  stays held more grows r = record { origin = r.origin; index = r.index; within = (let w = r.within in let g = grows r.origin in omega arith); passes = r.passes }

  pub tells_none : (held : VersionVector) → ((i : ℕ) → held i ≡ 0) → Tells test log false held
  tells_none held none = record { only = λ e. absurd (cc e); all = λ r. absurd (let w = r.within in let z = none r.origin in omega arith) }

  pub tells_grown : (bit also : Bool) (held : VersionVector) (id : ℕ) (next : Action Op) → IsNext log held id next → is_operation test next ≡ also → Tells test log bit held → Tells test log (bit || also) (grown held id)
  tells_grown bit also held id next n passes t = record {
    only = λ e. ⊎_elim
        (λ (old : bit ≡ true). stays held (grown held id) (λ i. with_at-le held id (held id + 1) i (omega arith)) (t.only old))
        (λ (new : also ≡ true). record {
          origin = id;
          index = held id;
          within = (let w = with_at_is held id (held id + 1) id refl in omega arith);
          passes = ap (is_operation test) n.action ∙ passes ∙ new;
        }) (or_cases bit also e);
    all = λ r. ⊎_elim
        (λ (new : (r.origin ≡ id) × (r.index ≡ held id)). or_right bit also (
        let same : action_of log r.origin r.index ≡ next = ap (λ i. action_of log i r.index) new.0 ∙ ap (action_of log id) new.1 ∙ n.action in
        sym passes ∙ sym (ap (is_operation test) same) ∙ r.passes))
        (λ (old : r.index < held r.origin). or_left bit also (t.all (record { origin = r.origin; index = r.index; within = old; passes = r.passes })))
        (new_or_old log held id r.origin r.index r.within);
  }

  pub tells_pruned : (bit : Bool) (held : VersionVector) (id removed : ℕ) → IsNext log held id (Prune removed) → Tells test log bit held → Tells test log bit (grown held id)
  tells_pruned bit held id removed n t = subst (λ b. Tells test log b (grown held id)) (or-false bit) (tells_grown bit false held id (Prune removed) n refl t)

  -- the new record alone
  pub tells_new : (bit : Bool) (held : VersionVector) (id : ℕ) (next : Action Op) → IsNext log held id next → is_operation test next ≡ bit → TellsBetween test log bit id (held id) (held id + 1)
  tells_new bit held id next n passes = record {
    only = λ e. record { index = held id; from = omega arith; within = omega arith; passes = ap (is_operation test) n.action ∙ passes ∙ e };
    all = λ r.
        let f = r.from in
        let w = r.within in
        let here : r.index ≡ held id = omega arith in
        sym passes ∙ sym (ap (is_operation test) (ap (action_of log id) here ∙ n.action)) ∙ r.passes;
  }

  pub tells_joined : (bit also_bit : Bool) (held also : VersionVector) → Tells test log bit held → Tells test log also_bit also → Tells test log (bit || also_bit) (join held also)
  tells_joined bit also_bit held also t u = record {
    only = λ e. ⊎_elim
        (λ (mine : bit ≡ true). stays held (join held also) (λ i. omega arith) (t.only mine))
        (λ (theirs : also_bit ≡ true). stays also (join held also) (λ i. omega arith) (u.only theirs)) (or_cases bit also_bit e);
    all = λ r. ⊎_elim
        (λ (mine : r.index < held r.origin). or_left bit also_bit (t.all (record { origin = r.origin; index = r.index; within = mine; passes = r.passes })))
        (λ (theirs : held r.origin ≤ r.index). or_right bit also_bit (u.all (record { origin = r.origin; index = r.index; within = (let w = r.within in omega arith); passes = r.passes })))
        (cases_lt r.index (held r.origin));
  }

  pub tells_group : (bit more : Bool) (held : VersionVector) (origin after to : ℕ) → after ≤ held origin → held origin < to → Tells test log bit held → TellsBetween test log more origin after to → Tells test log (bit || more) (with_at held origin to)
  tells_group bit more held origin after to low high t u = record {
    only = λ e. ⊎_elim
        (λ (old : bit ≡ true). stays held (with_at held origin to) (λ i. with_at-le held origin to i (omega arith)) (t.only old))
        (λ (new : more ≡ true). let r = u.only new in record {
          origin = origin;
          index = r.index;
          within = (let w = r.within in let s = with_at_is held origin to origin refl in omega arith);
          passes = r.passes;
        }) (or_cases bit more e);
    all = λ r. ⊎_elim
        (λ (old : r.index < held r.origin). or_left bit more (t.all (record { origin = r.origin; index = r.index; within = old; passes = r.passes })))
        (λ (new : held r.origin ≤ r.index). or_right bit more (⊎_elim
        (λ (here : r.origin ≡ origin).
        let same : held r.origin ≡ held origin = ap held here in
        let upto : with_at held origin to r.origin ≡ to = with_at_is held origin to r.origin here in
        let w = r.within in
        u.all (record { index = r.index; from = omega arith; within = omega arith; passes = ap (λ i. is_operation test (action_of log i r.index)) (sym here) ∙ r.passes }))
        (λ (there : r.origin ≢ origin). absurd (let w = r.within in let s = with_at_other held origin to r.origin there in omega arith)) (cases_eq r.origin origin)))
        (cases_lt r.index (held r.origin));
  }

  -- two groups that follow each other
  pub tells_both : (bit more : Bool) (origin after mid to : ℕ) → after ≤ mid → mid ≤ to → TellsBetween test log bit origin after mid → TellsBetween test log more origin mid to → TellsBetween test log (bit || more) origin after to
  tells_both bit more origin after mid to low high t u = record {
    only = λ e. ⊎_elim
        (λ (first : bit ≡ true). let r = t.only first in record { index = r.index; from = r.from; within = (let w = r.within in omega arith); passes = r.passes })
        (λ (later : more ≡ true). let r = u.only later in record { index = r.index; from = (let f = r.from in omega arith); within = r.within; passes = r.passes }) (or_cases bit more e);
    all = λ r. ⊎_elim
        (λ (first : r.index < mid). or_left bit more (t.all (record { index = r.index; from = r.from; within = first; passes = r.passes })))
        (λ (later : mid ≤ r.index). or_right bit more (u.all (record { index = r.index; from = later; within = r.within; passes = r.passes })))
        (cases_lt r.index mid);
  }

  -- WHAT A BIT MEANS

  pub tells_once : (bit also : Bool) (held : VersionVector) → Tells test log bit held → Tells test log also held → bit ≡ also
  tells_once bit also held t u = same_bits bit also (λ e. u.all (t.only e)) (λ e. t.all (u.only e))

  -- it is what all records of the history say
  pub tells_means : (bit : Bool) (held : VersionVector) → IsConsistentCut log held → Tells test log bit held → bit ≡ has_operation test (cut log held)
  tells_means bit held h t = same_bits bit (has_operation test (cut log held)) there back
    where
      there : bit ≡ true → has_operation test (cut log held) ≡ true
      there e =
          let r = t.only e in
          let few = h.made r.origin in
          let w = r.within in
          let b = belongs log held h r.origin r.index _ (in_cut log held r.origin r.index r.within (omega arith)) in
          any_passes_from_place (λ (x : Stamped Op). is_operation test x.action) (all_records (cut log held)) b.0 _ b.1 r.passes

      back : has_operation test (cut log held) ≡ true → bit ≡ true
      back e =
          let x = any_at (λ (x : Stamped Op). is_operation test x.action) (all_records (cut log held)) e in
          let p = placed log held x.0 x.1 in
          let same = (of_cut log held p.0 p.1 _ p.4).1 in
          t.all (record { origin = p.0; index = p.1; within = p.3; passes = ap (λ (r : Record Op). is_operation test r.action) same ∙ x.2 })
