use Rattle.std.proofs.Common.{Some}
use Rattle.thread_run_order.specs.Finishing.{IsSent}
use Rattle.thread_run_order.proofs.posting.post_history.Given as goal

abbrev pub invariant-loop-entry : goal.invariant-loop-entry
invariant-loop-entry g l = IsSent {keeping = g.K.Keeper} (Some l.from) l.yielded l.initial.links l.links
