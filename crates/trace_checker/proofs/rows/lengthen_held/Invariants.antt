use Rattle.std.proofs.Common.{◌≡◌, ℕ, ◌-◌, ◌+◌, vec_len}
use Rattle.trace_checker.specs.Rows.{vector_of}
use Rattle.trace_checker.proofs.rows.lengthen_held.Given as goal

abbrev pub invariant-loop-alloc : goal.invariant-loop-alloc
invariant-loop-alloc l = (i : ℕ) → vector_of l.held.items i ≡ vector_of l.initial.held.items i

abbrev pub decreases-loop-alloc : goal.decreases-loop-alloc
decreases-loop-alloc l = l.index + 1 - vec_len l.held
