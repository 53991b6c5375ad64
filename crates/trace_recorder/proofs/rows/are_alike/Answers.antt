use Rattle.trace_recorder.proofs.RowLaws.{same_alike}
use Rattle.trace_recorder.proofs.rows.are_alike.Goals as goal

pub returns : goal.returns
returns c = same_alike c.same.result c.args.held.now c.args.known.now c.same.ensures c.limit.result c.limit-2.result c.limit.ensures.range c.limit.ensures.above c.limit-2.ensures.range c.limit-2.ensures.above
