-- What the tests over a key's prunes and deletes say of a history: who is pruned in it, whether it is exactly pruned, whether it has a delete.
use Rattle.std.proofs.Common.{◌≡◌, ℕ, suc, ◌<◌, ◌≤◌, List, refl, sym, ap, ◌∙◌, arith, Bool, true, false}
use Rattle.std.specs.Prelude.{◌||◌, not, ◌==◌}
use Rattle.std.specs.List.{list_all}
use Rattle.std.proofs.lemmas.Bool.{le-leb, leb-true, eq-eqb, eqb-true}
use Rattle.std.proofs.lemmas.Map.Keys.{any_passes_from_place}
use Rattle.model_history.specs.Table.{identity_limit}
use Rattle.model_history.specs.History.{Record as Meant, History, at, versions, HasRecord, IsPartOf, IsHistory, is_pruned, IsExactlyPruned}
use Rattle.model_history.specs.History.Action.{Prune}
use Rattle.model_history.proofs.HistoryLaws.{slice_get-below}
use Rattle.model_history.proofs.PartLaws.{in_part, in_whole}
use Rattle.model_history.proofs.PastLaws.{identity_of_record}
use Rattle.model_history.proofs.PruneLaws.{at_identities, pruned_has, has_pruned}
use Rattle.model_meanings.specs.Growing.{has_operation}
use Rattle.model_meanings.proofs.Operations.{any_at, same_bits, operation_is, has_one}
use Rattle.model_kinds.specs.SixKinds.{is_delete}
use Rattle.model_kinds.specs.declared.operation.Op.{Op}
use Rattle.base_vectors.specs.declared.id.Dot.{Dot}
use Rattle.model_traces.specs.Traces.{is_exactly_pruned}
use Rattle.model_traces.specs.Meaning.{IsWithin}
use Rattle.model_traces.proofs.Tests.{first_true, second_true, both_true, all_pass, each_passes, exactly_pruned_holds, exactly_pruned_tells}
use Rattle.trace_checker.specs.declared.prunes.PruneMade.{PruneMade}
use Rattle.trace_checker.specs.Prunes.{is_counted, prunes_it, has_prune, is_same_prune, leaves_alone, is_exact_prune, are_exact, counts_dot, has_delete, IsPruneOf, ArePrunes, AreDeletes}

-- what a test says that one of two holds
or_must : (a b : Bool) → a ≡ true → (not a || b) ≡ true → b ≡ true
or_must true b e f = f
or_must false b e f = absurd (cc e)

or_if : (a b : Bool) → (a ≡ true → b ≡ true) → (not a || b) ≡ true
or_if true b h = h refl
or_if false b h = refl

module _ (made H : History Op) (history : IsHistory made) (part : IsPartOf H made) where
  small : (i k : ℕ) (x : Meant Op) → HasRecord H i k x → i < identity_limit
  small i k x has = identity_of_record made history i k x (in_whole H made part i k x has)

  module _ (prunes : List PruneMade) (are : ArePrunes prunes made) where
    -- a counted prune stands in the history
    counted_has : (p : PruneMade) (of : IsPruneOf made p) → is_counted (versions H) p ≡ true → HasRecord H p.origin of.index of.record_is
    counted_has p of counts =
        let number : p.number ≤ at H p.origin = leb-true p.number (at H p.origin) counts in
        in_part H made part p.origin of.index of.record_is (let e = of.number in omega (arith, number, e)) of.has

    -- and a prune that stands there is counted
    has_counted : (p : PruneMade) (i k : ℕ) (x : Meant Op) → HasRecord H i k x → p.origin ≡ i → p.number ≡ suc k → is_counted (versions H) p ≡ true
    has_counted p i k x has origin number =
        let below = slice_get-below (H i) x k has in
        let there : at H p.origin ≡ at H i = ap (at H) origin in
        le-leb p.number (at H p.origin) (omega (arith, number, below, there))

    pub prune_test : (q : ℕ) → has_prune prunes (versions H) q ≡ is_pruned H q
    prune_test q = same_bits (has_prune prunes (versions H) q) (is_pruned H q) there here
      where
        there : has_prune prunes (versions H) q ≡ true → is_pruned H q ≡ true
        there e =
            let p = any_at (prunes_it (versions H) q) prunes e in
            let of = are.only p.1.0 p.0 p.1.1 in
            let removed : p.0.removed ≡ q = eqb-true p.0.removed q (first_true (p.0.removed == q) (is_counted (versions H) p.0) p.2) in
            let has = counted_has p.0 of (second_true (p.0.removed == q) (is_counted (versions H) p.0) p.2) in
            has_pruned H q p.0.origin of.index of.record_is (at_identities p.0.origin (small p.0.origin of.index of.record_is has)) has (of.prunes ∙ ap Prune removed)

        here : is_pruned H q ≡ true → has_prune prunes (versions H) q ≡ true
        here e =
            let x = pruned_has H q e in
            let p = are.all x.0 x.1 q x.2 (in_whole H made part x.0 x.1 x.2 x.4) x.5 in
            any_passes_from_place (prunes_it (versions H) q) prunes p.0 p.1 p.2
            (both_true (p.1.removed == q) (is_counted (versions H) p.1) (eq-eqb p.1.removed q p.5) (has_counted p.1 x.0 x.1 x.2 x.4 p.3 p.4))

    module _ (within : IsWithin H) where
      exact_there : are_exact prunes (versions H) ≡ true → IsExactlyPruned H
      exact_there e =
          record {
            once = λ i k j m x y r hx hy ex ey.
                let p = are.all i k r x (in_whole H made part i k x hx) ex in
                let q = are.all j m r y (in_whole H made part j m y hy) ey in
                let alone = second_true (at H p.1.removed == p.1.seen) (list_all (leaves_alone (versions H) p.1) prunes)
                (or_must (is_counted (versions H) p.1) _ (has_counted p.1 i k x hx p.3 p.4) (each_passes (is_exact_prune prunes (versions H)) prunes e p.1 (p.0, p.2))) in
                let same = or_must (prunes_it (versions H) p.1.removed q.1) (is_same_prune p.1 q.1)
                (both_true (q.1.removed == p.1.removed) (is_counted (versions H) q.1) (eq-eqb q.1.removed p.1.removed (q.5 ∙ sym p.5)) (has_counted q.1 j m y hy q.3 q.4))
                (each_passes (leaves_alone (versions H) p.1) prunes alone q.1 (q.0, q.2)) in
                let origin : p.1.origin ≡ q.1.origin = eqb-true p.1.origin q.1.origin (first_true (p.1.origin == q.1.origin) (p.1.number == q.1.number) same) in
                let number : p.1.number ≡ q.1.number = eqb-true p.1.number q.1.number (second_true (p.1.origin == q.1.origin) (p.1.number == q.1.number) same) in
                let first = p.4 in
                let second = q.4 in
                (sym p.3 ∙ origin ∙ q.3, omega (arith, number, first, second));
            nothing_more = λ i k x r hx ex.
                let p = are.all i k r x (in_whole H made part i k x hx) ex in
                let same : at H p.1.removed ≡ p.1.seen = eqb-true (at H p.1.removed) p.1.seen
                (first_true (at H p.1.removed == p.1.seen) (list_all (leaves_alone (versions H) p.1) prunes)
                (or_must (is_counted (versions H) p.1) _ (has_counted p.1 i k x hx p.3 p.4) (each_passes (is_exact_prune prunes (versions H)) prunes e p.1 (p.0, p.2)))) in
                ap (at H) (sym p.5) ∙ same ∙ p.6;
          }

      exact_here : IsExactlyPruned H → are_exact prunes (versions H) ≡ true
      exact_here exact =
          all_pass (is_exact_prune prunes (versions H)) prunes (λ p m.
          let of = are.only m.0 p m.1 in
          or_if (is_counted (versions H) p) _ (λ counts.
          let has = counted_has p of counts in
          both_true (at H p.removed == p.seen) (list_all (leaves_alone (versions H) p) prunes)
          (eq-eqb (at H p.removed) p.seen (exact.nothing_more p.origin of.index of.record_is p.removed has of.prunes ∙ sym of.seen))
          (all_pass (leaves_alone (versions H) p) prunes (λ q n.
          let also = are.only n.0 q n.1 in
          or_if (prunes_it (versions H) p.removed q) (is_same_prune p q) (λ it.
          let removed : q.removed ≡ p.removed = eqb-true q.removed p.removed (first_true (q.removed == p.removed) (is_counted (versions H) q) it) in
          let there = counted_has q also (second_true (q.removed == p.removed) (is_counted (versions H) q) it) in
          let same = exact.once p.origin of.index q.origin also.index of.record_is also.record_is p.removed has there of.prunes (also.prunes ∙ ap Prune removed) in
          both_true (p.origin == q.origin) (p.number == q.number) (eq-eqb p.origin q.origin same.0) (eq-eqb p.number q.number (of.number ∙ ap suc same.1 ∙ sym also.number)))))))

      pub exact_test : are_exact prunes (versions H) ≡ is_exactly_pruned H
      exact_test = same_bits (are_exact prunes (versions H)) (is_exactly_pruned H) (λ e. exactly_pruned_holds H (exact_there e)) (λ e. exact_here (exactly_pruned_tells H within e))

  module _ (deletes : List Dot) (are : AreDeletes deletes made) where
    pub delete_test : has_delete deletes (versions H) ≡ has_operation is_delete H
    delete_test = same_bits (has_delete deletes (versions H)) (has_operation is_delete H) there here
      where
        there : has_delete deletes (versions H) ≡ true → has_operation is_delete H ≡ true
        there e =
            let d = any_at (counts_dot (versions H)) deletes e in
            let of = are.only d.1.0 d.0 d.1.1 in
            let number : d.0.seq ≤ at H d.0.origin = leb-true d.0.seq (at H d.0.origin) d.2 in
            let has = in_part H made part d.0.origin of.index of.record_is (let e' = of.number in omega (arith, number, e')) of.has in
            has_one is_delete H d.0.origin of.index of.record_is (small d.0.origin of.index of.record_is has) has of.deletes

        here : has_operation is_delete H ≡ true → has_delete deletes (versions H) ≡ true
        here e =
            let x = operation_is is_delete H e in
            let d = are.all x.0 x.1 x.2 (in_whole H made part x.0 x.1 x.2 x.4) x.5 in
            let below = slice_get-below (H x.0) x.2 x.1 x.4 in
            let number = d.4 in
            let there : at H d.1.origin ≡ at H x.0 = ap (at H) d.3 in
            any_passes_from_place (counts_dot (versions H)) deletes d.0 d.1 d.2 (le-leb d.1.seq (at H d.1.origin) (omega (arith, number, below, there)))
