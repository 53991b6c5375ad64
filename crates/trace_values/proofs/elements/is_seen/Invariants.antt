use Rattle.std.proofs.Common.{◌≡◌, ℕ, ◌<◌, false}
use Rattle.base_vectors.specs.Vectors.{number_at}
use Rattle.trace_values.specs.Touches.{sees}
use Rattle.trace_values.proofs.elements.is_seen.Given as goal

abbrev pub invariant-loop-place : goal.invariant-loop-place
invariant-loop-place l = (j : ℕ) → j < l.place → sees l.rows l.touches (number_at l.known) l.id l.number j ≡ false
