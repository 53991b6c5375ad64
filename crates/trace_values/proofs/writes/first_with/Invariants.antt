use Rattle.std.proofs.Common.{◌≡◌, ℕ, ◌<◌, false}
use Rattle.base_vectors.specs.Vectors.{number_at}
use Rattle.trace_values.specs.Writes.{has_newest}
use Rattle.trace_values.proofs.writes.first_with.Given as goal

abbrev pub invariant-loop-number : goal.invariant-loop-number
invariant-loop-number l = (j : ℕ) → j < l.number → has_newest l.writes (number_at l.known) l.newest j ≡ false
