use Rattle.std.proofs.Common.{◌≡◌, ℕ, ◌<◌, false}
use Rattle.std.specs.Prelude.{not, ◌==◌}
use Rattle.base_vectors.specs.Vectors.{number_at}
use Rattle.trace_values.specs.Touches.{last_at}
use Rattle.trace_values.proofs.elements.is_added.Given as goal

abbrev pub invariant-loop-place : goal.invariant-loop-place
invariant-loop-place l = (j : ℕ) → j < l.place → not (last_at l.adds (number_at l.known) j == 0) ≡ false
