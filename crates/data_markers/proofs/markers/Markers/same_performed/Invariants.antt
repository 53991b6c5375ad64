use Rattle.std.proofs.Common.{◌≡◌, ℕ, ◌<◌}
use Rattle.data_markers.specs.Marks.{performed_in}
use Rattle.data_markers.proofs.markers.Markers.same_performed.Given as goal

abbrev pub invariant-loop-number : goal.invariant-loop-number
invariant-loop-number l = (i : ℕ) → i < l.number → performed_in l.self i ≡ performed_in l.other i
