use Rattle.std.proofs.Common.{◌≡◌, ℕ, ◌<◌, true, false, length, get_or, refl, sym, ap, ◌∙◌, subst, arith, inl, inr}
use Rattle.std.proofs.lemmas.Bool.{cases_eq}
use Rattle.std.proofs.lemmas.List.{get_or_default}
use Rattle.std.proofs.lemmas.List.Sums.{position_or_len_is}
use Rattle.model_history.specs.Texts.{text_lt}
use Rattle.member_node.proofs.Declarings.{place_past}
use Rattle.member_node.proofs.declaring.place_of.Goals as goal

pub returns-then-comes_before : goal.returns-then-comes_before
returns-then-comes_before g c =
    let keys = c.args.keys.now in
    let at = c.index-keys-place.result in
    let name = c.args.name.now in
    sym (position_or_len_is (λ state. text_lt name state.name) keys c.loop-place.place at (let within = c.loop-place-test.true in omega arith) (λ k below. c.loop-place.invariant k at below)
    (λ within. ap (λ state. text_lt name state.name) (sym c.index-keys-place.is) ∙ sym c.comes_before.ensures ∙ c.if-comes_before.true))

pub loop-place-preserved : goal.loop-place-preserved
loop-place-preserved g c = λ k d below.
    let keys = c.args.keys.now in
    let name = c.args.name.now in
    elim (cases_eq k c.loop-place.place) [
      | inl equal ↦
          ap (λ j. text_lt name (get_or keys j d).name) equal ∙ ap (λ state. text_lt name state.name) (sym (get_or_default keys c.loop-place.place c.index-keys-place.result d c.loop-place-test.true))
          ∙ ap (λ state. text_lt name state.name) (sym c.index-keys-place.is) ∙ sym c.comes_before.ensures ∙ c.if-comes_before.false
      | inr other ↦ c.loop-place.invariant k d (omega arith)
    ]

pub returns : goal.returns
returns g c = place_past c.args.name.now c.args.keys.now (λ k d within. c.loop-place.invariant k d (let past = c.loop-place-test.false in omega arith))
