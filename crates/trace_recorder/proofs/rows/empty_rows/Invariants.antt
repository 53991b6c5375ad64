use Rattle.std.proofs.Common.{◌-◌, ◌≤◌, vec_len}
use Rattle.trace_recorder.specs.Rows.{AreEmpty}
use Rattle.trace_recorder.proofs.rows.empty_rows.Given as goal

abbrev pub invariant-loop-alloc : goal.invariant-loop-alloc
invariant-loop-alloc l = (vec_len l.rows ≤ l.count) × AreEmpty l.rows.items

abbrev pub decreases-loop-alloc : goal.decreases-loop-alloc
decreases-loop-alloc l = l.count - vec_len l.rows
