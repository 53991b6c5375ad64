use Rattle.std.proofs.Common.{ℕ, ◌<◌, ◌≤◌, length}
use Rattle.base_vectors.specs.Vectors.{number_at}
use Rattle.trace_values.specs.Rows.{row_of}
use Rattle.trace_checker.proofs.rules.are_made.Given as goal

abbrev pub invariant-loop-number : goal.invariant-loop-number
invariant-loop-number l = (j : ℕ) → j < l.number → number_at l.known j ≤ length (row_of l.rows j)
