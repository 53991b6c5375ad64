-- What a member may show: the text of what it holds means.
use Rattle.std.proofs.Common.{◌≡◌, ℕ, zero, suc, ◌<◌, List, refl, sym, ap, ap₂, subst, ◌∙◌, arith, Bool, true, false, ◌⊎◌, inl, inr}
use Rattle.std.specs.Prelude.{◌↔◌, ◌&&◌, not, IsTrue, if◌then◌else◌}
use Rattle.std.specs.Str.{bytes_eq}
use Rattle.model_history.specs.Table.{identity_limit}
use Rattle.model_history.specs.Texts.{Text}
use Rattle.model_history.specs.Vector.{VersionVector}
use Rattle.model_history.specs.History.{History, at, versions}
use Rattle.model_meanings.specs.Growing.{has_operation}
use Rattle.model_kinds.specs.SixKinds.{six_kinds, shown, is_delete}
use Rattle.model_kinds.specs.ShownText.{shown_text}
use Rattle.model_kinds.specs.declared.kind.Kind.{Kind}
use Rattle.model_kinds.specs.declared.operation.Op.{Op}
use Rattle.model_kinds.specs.declared.shown.Shown.TheVariants.{Deleted}
use Rattle.model_members.specs.DataType.{meaning}
use Rattle.model_traces.specs.Traces.{is_none, may_show, meaning_text}
use Rattle.model_traces.specs.Traces.Act.{Shows}
use Rattle.model_traces.proofs.Tests.{none_says}
use Rattle.base_vectors.specs.declared.id.Dot.{Dot}
use Rattle.trace_checker.specs.declared.key_history.KeyHistory.{KeyHistory}
use Rattle.trace_checker.specs.Prunes.{has_delete}
use Rattle.trace_checker.specs.Standing.{IsToldBy}
use Rattle.trace_checker.proofs.PruneTests.{delete_test}
use Rattle.trace_checker.proofs.RuleTests.{shown_meant}

-- whether a part of the records made has a delete
pub test_is : (code : KeyHistory) (made H : History Op) → IsToldBy code made H → (known : VersionVector) → known ≡ versions H → (deletes : List Dot) → deletes ≡ code.deletes → (b : Bool) → b ≡ has_delete deletes known → b ≡ has_operation is_delete H
test_is code made H told known known_is deletes deletes_is b is = is ∙ ap₂ has_delete deletes_is known_is ∙ delete_test made H told.history told.taken.part code.deletes told.deletes

-- what a history shows, deleted or not
pub deleted_shown : (kind : Kind) (H : History Op) → has_operation is_delete H ≡ true → Deleted ≡ six_kinds.shown kind H
deleted_shown kind H e = sym (ap (λ b. if b then Deleted else shown kind H) e)

module _ (H : History Op) (mine : VersionVector) (mine_is : mine ≡ versions H) (some : Bool) (tells : IsTrue some ↔ ((i : ℕ) × (i < identity_limit) × (0 < mine i))) (kind : Kind) (text : Text) where
  -- it holds a record
  some_held : not (is_none H) ≡ some
  some_held = go (is_none H) some refl refl
    where
      go : (b c : Bool) → is_none H ≡ b → some ≡ c → not b ≡ c
      go true false e f = refl
      go false true e f = refl
      go true true e f = absurd (
          let one = tells.0 f in
          let none = (none_says H).0 e one.0 one.1 in
          let there : mine one.0 ≡ at H one.0 = ap (λ (v : VersionVector). v one.0) mine_is in
          let more = one.2 in
          omega (arith, none, there, more))
      go false false e f = absurd (
          let all : is_none H ≡ true = (none_says H).1 (λ i near. elim (zero_or_more (at H i)) [
            | inl none ↦ none
            | inr more ↦ absurd (let it : some ≡ true = tells.1 (i, near, subst (λ (v : VersionVector). 0 < v i) (sym mine_is) more) in let clash : true ≡ false = sym it ∙ f in cc clash)
          ]) in
          let clash : true ≡ false = sym all ∙ e in cc clash)
        where
          zero_or_more : (n : ℕ) → (n ≡ 0) ⊎ (0 < n)
          zero_or_more zero = inl refl
          zero_or_more (suc n) = inr (omega arith)

  pub may_not_show : some ≡ false → false ≡ may_show six_kinds shown_text kind H (Shows text)
  may_not_show e = sym (ap (λ b. b && bytes_eq (meaning_text shown_text (meaning six_kinds kind H)) text) (some_held ∙ e))

  pub may_show_by : some ≡ true → (value : Text) → value ≡ shown_text (six_kinds.shown kind H) → bytes_eq value text ≡ may_show six_kinds shown_text kind H (Shows text)
  may_show_by e value is =
      ap (λ v. bytes_eq v text) (is ∙ sym (shown_meant kind H)) ∙ sym (ap (λ b. b && bytes_eq (meaning_text shown_text (meaning six_kinds kind H)) text) (some_held ∙ e))
