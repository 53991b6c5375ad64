use Rattle.thread_run_order.proofs.Finishing.{ArePassedFirst}
use Rattle.thread_run_order.proofs.passing.pass_to.Given as goal

abbrev pub invariant-loop-member : goal.invariant-loop-member
invariant-loop-member g l = ArePassedFirst {keeping = g.K.Keeper} l.view l.member-index l.to l.history l.initial.links l.links
