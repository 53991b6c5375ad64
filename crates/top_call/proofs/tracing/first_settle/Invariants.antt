use Rattle.std.proofs.Common.{take}
use Rattle.trace_played.specs.Traced.{HasNoSettle}
use Rattle.top_call.proofs.tracing.first_settle.Given as goal

abbrev pub invariant-loop-i : goal.invariant-loop-i
invariant-loop-i l = HasNoSettle (take l.i l.steps)
