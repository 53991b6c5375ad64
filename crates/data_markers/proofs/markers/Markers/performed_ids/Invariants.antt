use Rattle.std.proofs.Common.{◌≡◌, ℕ, nat_lt}
use Rattle.std.specs.Prelude.{◌&&◌}
use Rattle.base_vectors.specs.IdSets.{members_in}
use Rattle.data_markers.specs.Marks.{performed_in}
use Rattle.data_markers.proofs.markers.Markers.performed_ids.Given as goal

abbrev pub invariant-loop-number : goal.invariant-loop-number
invariant-loop-number l = (i : ℕ) → members_in l.ids i ≡ (nat_lt i l.number && performed_in l.self i)
