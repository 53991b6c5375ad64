use Rattle.std.proofs.Common.{◌≡◌, ℕ, ◌<◌, None}
use Rattle.data_markers.specs.Marks.{mark_of, begun}
use Rattle.data_markers.proofs.markers.Markers.has_begun.Given as goal

abbrev pub invariant-loop-number : goal.invariant-loop-number
invariant-loop-number l = (i : ℕ) → i < l.number → begun (mark_of l.self i) ≡ None
