use Rattle.thread_cell.specs.Entries.{history_at}
use Rattle.thread_run_order.proofs.Finishing.{AllPassedFirst}
use Rattle.thread_run_order.proofs.passing.pass_all.Given as goal

abbrev pub invariant-loop-member : goal.invariant-loop-member
invariant-loop-member g l = AllPassedFirst {keeping = g.K.Keeper} l.view l.member-index (history_at l.histories) l.initial.links l.links
