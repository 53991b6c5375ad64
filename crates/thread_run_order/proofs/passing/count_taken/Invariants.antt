use Rattle.std.proofs.Common.{◌≡◌, ◌≤◌, take, length}
use Rattle.thread_run_order.specs.Section.{taken_from}
use Rattle.thread_run_order.proofs.passing.count_taken.Given as goal

abbrev pub invariant-loop-i : goal.invariant-loop-i
invariant-loop-i g l = record { count : l.count ≡ length (taken_from {keeping = g.K.Keeper} l.from (take l.i l.history)); few : l.count ≤ l.i }
