use Rattle.std.proofs.Common.{subst}
use Rattle.std.proofs.lemmas.List.{take_all}
use Rattle.std.proofs.lemmas.List.Elements.{All-more}
use Rattle.trace_text.specs.Said.{SaysTexts, AreSayable}
use Rattle.trace_text.proofs.text.line_texts.Goals as goal

pub loop-line-preserved : goal.loop-line-preserved
loop-line-preserved c =
    All-more (λ line. SaysTexts line.act) c.args.lines.now c.loop-line.line-index c.line-item.result c.loop-line-test.true c.loop-line.invariant (subst (λ line. SaysTexts line.act) c.line-item.is c.act_texts.ensures)

pub returns : goal.returns
returns c = subst AreSayable (take_all c.loop-line.line-index c.args.lines.now c.loop-line-test.false) c.loop-line.invariant
