use Rattle.std.proofs.Common.{ℕ, ◌<◌, ◌≤◌, ◌*◌, slice_index}
use Rattle.base_vectors.proofs.words.first_below.Given as goal

abbrev pub invariant-loop-lane : goal.invariant-loop-lane
invariant-loop-lane l = (i : ℕ) → i < l.lane * 8 → slice_index l.needs i ≤ slice_index l.words i
