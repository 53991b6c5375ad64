use Rattle.std.proofs.Common.{◌≡◌, ℕ, ◌<◌, false}
use Rattle.base_vectors.specs.Vectors.{number_at}
use Rattle.trace_values.specs.Touches.{is_last_live}
use Rattle.trace_values.proofs.elements.is_live.Given as goal

abbrev pub invariant-loop-place : goal.invariant-loop-place
invariant-loop-place l = (j : ℕ) → j < l.place → is_last_live l.rows l.touches l.element (number_at l.known) j ≡ false
