use Rattle.std.proofs.Common.{◌++◌, [], ◌∷◌, take, List, ap, sym, ◌∙◌, arith}
use Rattle.std.proofs.lemmas.List.{take_all, take_more}
use Rattle.model_history.specs.Texts.{Text}
use Rattle.data_growing.proofs.elements.copied.Goals as goal

pub loop-text-init : goal.loop-text-init
loop-text-init c = (c.in_ok-all.ensures.items, c.in_ok-all.ensures.len, c.in_ok-all.ensures.capacity)

pub push_reserved-requires : goal.push_reserved-requires
push_reserved-requires c = omega (arith, c.loop-text.invariant.1, c.loop-text.invariant.2)

pub loop-text-preserved : goal.loop-text-preserved
loop-text-preserved c = (
  c.push_reserved.ensures.items ∙ ap (λ (ts : List Text). ts ++ c.copied.result ∷ []) c.loop-text.invariant.0 ∙ ap (λ (t : Text). take c.loop-text.text-index c.args.texts.now ++ t ∷ []) (c.copied.ensures ∙ c.text-item.is)
      ∙ sym (take_more c.args.texts.now c.loop-text.text-index c.text-item.result c.loop-text-test.true),
  omega (arith, c.push_reserved.ensures.len, c.loop-text.invariant.1),
  omega (arith, c.push_reserved.ensures.capacity, c.loop-text.invariant.2),
)

pub returns : goal.returns
returns c = c.loop-text.invariant.0 ∙ take_all c.loop-text.text-index c.args.texts.now c.loop-text-test.false
