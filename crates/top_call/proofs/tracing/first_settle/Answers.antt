use Rattle.std.proofs.Common.{sym, ◌∙◌}
use Rattle.top_call.proofs.Traceable.{none_more, settle_at}
use Rattle.top_call.proofs.tracing.first_settle.Goals as goal

pub returns-then-is_settle : goal.returns-then-is_settle
returns-then-is_settle c = settle_at c.args.steps.now c.loop-i.i c.index-steps-i.result c.loop-i-test.true c.index-steps-i.is (sym c.is_settle.ensures ∙ c.if-is_settle.true) c.loop-i.invariant

pub loop-i-preserved : goal.loop-i-preserved
loop-i-preserved c = none_more c.args.steps.now c.loop-i.i c.index-steps-i.result c.loop-i-test.true c.index-steps-i.is (sym c.is_settle.ensures ∙ c.if-is_settle.false) c.loop-i.invariant
