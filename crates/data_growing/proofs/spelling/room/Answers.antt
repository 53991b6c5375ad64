use Rattle.std.proofs.Common.{All, subst, sym, take}
use Rattle.std.proofs.lemmas.List.{take_more, take_all}
use Rattle.std.proofs.lemmas.List.Elements.{All-push}
use Rattle.base_bytes.specs.Spelling.{IsText}
use Rattle.data_growing.proofs.spelling.room.Goals as goal

pub loop-text-preserved : goal.loop-text-preserved
loop-text-preserved c =
    subst (All IsText) (sym (take_more c.args.texts.now c.loop-text.text-index c.text-item.result c.loop-text-test.true))
    (All-push IsText (take c.loop-text.text-index c.args.texts.now) _ c.loop-text.invariant (subst IsText c.text-item.is c.as_str.ensures.text))

pub returns : goal.returns
returns c = subst (All IsText) (take_all c.loop-text.text-index c.args.texts.now c.loop-text-test.false) c.loop-text.invariant
