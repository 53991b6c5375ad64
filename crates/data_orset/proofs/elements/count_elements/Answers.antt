use Rattle.std.proofs.Common.{◌≡◌, ◌≤◌, ◌+◌, ℕ, [], Bool, true, false, cond, get_or, take, length, refl, ap, sym, ◌∙◌, arith}
use Rattle.std.proofs.lemmas.List.{get_or_default}
use Rattle.model_history.specs.Texts.{text_set}
use Rattle.data_orset.specs.Keeping.{texts_of}
use mir.Val.{bool_byte}
use Rattle.data_orset.specs.Placing.{Placed}
use Rattle.data_orset.proofs.ElementsInOrder.{count_more}
use Rattle.data_orset.proofs.elements.count_elements.Goals as goal

byte_is : (b : Bool) → bool_byte b ≡ cond b 1 0
byte_is true = refl
byte_is false = refl

one_more : (b : Bool) (n i : ℕ) → n ≤ i → n + bool_byte b ≤ i + 1
one_more true n i h = omega arith
one_more false n i h = omega arith

pub loop-index-preserved : goal.loop-index-preserved
loop-index-preserved c =
    let none : Placed = record { element = []; origin = 0; seq = 0 } in
    let here : Placed = get_or c.args.dots.now c.loop-index.index none in
    let more = count_more c.args.dots.now c.loop-index.index here c.is_first.result c.requires (omega (arith, c.loop-index-test.true, c.len-index-end.ensures)) (get_or_default c.args.dots.now c.loop-index.index none here (omega (arith, c.loop-index-test.true, c.len-index-end.ensures))) c.is_first.ensures in
    (ap (λ n. n + bool_byte c.is_first.result) c.loop-index.invariant.0 ∙ ap (λ n. length (text_set (texts_of (take c.loop-index.index c.args.dots.now))) + n) (byte_is c.is_first.result) ∙ sym more, one_more c.is_first.result c.loop-index.count c.loop-index.index c.loop-index.invariant.1)
