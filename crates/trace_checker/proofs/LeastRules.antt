-- The least rule that an act breaks, by the tests over what the checker keeps.
use Rattle.std.proofs.Common.{◌≡◌, ◌≢◌, ℕ, ◌<◌, ◌≤◌, List, refl, sym, ap, ◌∙◌, Bool, true, false}
use Rattle.std.specs.Prelude.{◌&&◌, not, ◌==◌, nat_lt}
use Rattle.std.proofs.lemmas.Bool.{eq-eqb}
use Rattle.model_history.specs.Table.{identity_limit}
use Rattle.model_history.specs.Texts.{Text}
use Rattle.model_history.specs.Vector.{VersionVector}
use Rattle.model_history.specs.History.{History, at, versions, cut, IsPartOf, IsHistory, is_pruned, IsExactlyPruned}
use Rattle.model_history.specs.History.Action.{Operation, Prune}
use Rattle.model_kinds.specs.SixKinds.{six_kinds}
use Rattle.model_kinds.specs.ShownText.{shown_text}
use Rattle.model_kinds.specs.declared.kind.Kind.{Kind}
use Rattle.model_kinds.specs.declared.operation.Op.{Op}
use Rattle.base_vectors.specs.declared.id.Dot.{Dot}
use Rattle.model_traces.specs.Traces.{recorded, covers, is_closed, is_exactly_pruned, may_record, may_hold, may_show, broken_by}
use Rattle.model_traces.specs.Traces.Act.{Records, Holds, Shows}
use Rattle.model_traces.proofs.Consistency.{within_part}
use Rattle.model_traces.proofs.Tests.{first_true, second_true, exactly_pruned_holds}
use Rattle.trace_checker.specs.declared.prunes.PruneMade.{PruneMade}
use Rattle.trace_checker.specs.Holds.{first_broken}
use Rattle.trace_checker.specs.Prunes.{has_prune, are_exact, has_delete, ArePrunes, AreDeletes}
use Rattle.trace_checker.proofs.Cutting.{cut_part, cut_counts}
use Rattle.trace_checker.proofs.PruneTests.{prune_test, exact_test, delete_test}
use Rattle.trace_checker.proofs.RuleTests.{after_record}

-- a later test counts only where the one before it passes
first_and_third : (m m' x x' : Bool) → m ≡ m' → (m' ≡ true → x ≡ x') → first_broken m true x true ≡ first_broken m' true x' true
first_and_third m true x x' e f = ap (λ b. first_broken b true x true) e ∙ ap (λ b. first_broken true true b true) (f refl)
first_and_third m false x x' e f = ap (λ b. first_broken b true x true) e

second_and_third : (m m' x x' : Bool) → m ≡ m' → (m' ≡ true → x ≡ x') → first_broken true m x true ≡ first_broken true m' x' true
second_and_third m true x x' e f = ap (λ b. first_broken true b x true) e ∙ ap (λ b. first_broken true true b true) (f refl)
second_and_third m false x x' e f = ap (λ b. first_broken true b x true) e

module _ (prunes : List PruneMade) (deletes : List Dot) (made H : History Op) (are : ArePrunes prunes made) (delete : AreDeletes deletes made) (history : IsHistory made) (part : IsPartOf H made) (exact : IsExactlyPruned H)
    (kind : Kind) (i : ℕ) (small : i < identity_limit) (mine : VersionVector) (mine_is : mine ≡ versions H) where
  pruned_is : (q : ℕ) → has_prune prunes mine q ≡ is_pruned H q
  pruned_is q = ap (λ v. has_prune prunes v q) mine_is ∙ prune_test made H history part prunes are q

  -- an operation
  pub operation_breaks : (op : Op) → first_broken (six_kinds.fits kind op && not (has_delete deletes mine)) true (not (has_prune prunes mine i)) true ≡ broken_by six_kinds shown_text kind made i H (Records (Operation op))
  operation_breaks op =
      first_and_third _ (may_record six_kinds shown_text kind i H (Records (Operation op))) _ (is_exactly_pruned (recorded H i H (Operation op)))
      (ap (λ b. six_kinds.fits kind op && not b) (ap (has_delete deletes) mine_is ∙ delete_test made H history part deletes delete))
      (λ may. ap not (pruned_is i) ∙ sym (after_record H (within_part made H history part) exact i small (Operation op) (λ q e. absurd (cc e))))

  -- a prune of an identity
  pub prune_breaks : (r : ℕ) → first_broken (not (r == i) && nat_lt 0 (mine r) && not (has_prune prunes mine r)) true (not (has_prune prunes mine i)) true ≡ broken_by six_kinds shown_text kind made i H (Records (Prune r))
  prune_breaks r =
      first_and_third _ (may_record six_kinds shown_text kind i H (Records (Prune r))) _ (is_exactly_pruned (recorded H i H (Prune r)))
      (ap (λ (v : VersionVector). not (r == i) && nat_lt 0 (v r) && not (has_prune prunes mine r)) mine_is ∙ ap (λ b. not (r == i) && nat_lt 0 (at H r) && not b) (pruned_is r))
      (λ may. ap not (pruned_is i) ∙ sym (after_record H (within_part made H history part) exact i small (Prune r) (λ q e. let same : r ≡ q = cc e in (other may q same, fresh may q same))))
    where
      other : may_record six_kinds shown_text kind i H (Records (Prune r)) ≡ true → (q : ℕ) → r ≡ q → q ≢ i
      other may q same is =
          let tests = first_true (not (r == i)) (nat_lt 0 (at H r)) (first_true (not (r == i) && nat_lt 0 (at H r)) (not (is_pruned H r)) may) in
          clash (r == i) (eqb_same r i (same ∙ is)) tests
        where
          clash : (b : Bool) → b ≡ true → not b ≡ true → ⊥
          clash true e f = cc f
          clash false e f = cc e

          eqb_same : (a b : ℕ) → a ≡ b → (a == b) ≡ true
          eqb_same a b e = eq-eqb a b e

      fresh : may_record six_kinds shown_text kind i H (Records (Prune r)) ≡ true → (q : ℕ) → r ≡ q → is_pruned H q ≡ false
      fresh may q same = ap (is_pruned H) (sym same) ∙ none (is_pruned H r) (second_true (not (r == i) && nat_lt 0 (at H r)) (not (is_pruned H r)) may)
        where
          none : (b : Bool) → not b ≡ true → b ≡ false
          none false e = refl
          none true e = absurd (cc e)

  -- what is held
  pub hold_breaks : (known : VersionVector) (may : Bool) → ((l : ℕ) → identity_limit ≤ l → known l ≡ 0) → may ≡ may_hold six_kinds shown_text made H (Holds known) → first_broken true may (are_exact prunes known) true ≡ broken_by six_kinds shown_text kind made i H (Holds known)
  hold_breaks known may beyond same =
      second_and_third may (may_hold six_kinds shown_text made H (Holds known)) (are_exact prunes known) (is_exactly_pruned (cut made known)) same
      (λ yes.
      let few = second_true (covers known (versions H)) (covers (versions made) known) (first_true (covers known (versions H) && covers (versions made) known) (is_closed (cut made known)) yes) in
      ap (are_exact prunes) (sym (cut_counts made known beyond few))
      ∙ exact_test made (cut made known) history (cut_part made known) prunes are (within_part made (cut made known) history (cut_part made known)))

  -- what is shown
  pub show_breaks : (text : Text) (may : Bool) → may ≡ may_show six_kinds shown_text kind H (Shows text) → first_broken true true true may ≡ broken_by six_kinds shown_text kind made i H (Shows text)
  show_breaks text may same =
      ap (λ b. first_broken true true true b) same ∙ sym (ap (λ b. first_broken true true b (may_show six_kinds shown_text kind H (Shows text))) (exactly_pruned_holds H exact))
