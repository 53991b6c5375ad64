use Rattle.std.proofs.Common.{sym}
use Rattle.trace_judged.proofs.judging.judged.Goals as goal

pub returns-in_ok-check-in-Ok : goal.returns-in_ok-check-in-Ok
returns-in_ok-check-in-Ok c = c.of_verdict.ensures c.args.bytes.now (c.in-Ok.trace, c.in-Ok.ensures.trace, sym c.in_ok-check-in-Ok.ensures)
