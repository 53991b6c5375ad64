use Rattle.std.proofs.Common.{◌≡◌, ◌<◌, ◌++◌, ℕ, Some, List}
use Rattle.std.specs.Prelude.{flat_map}
use Rattle.data_markers.specs.declared.marker.Marker.{Marker}
use Rattle.data_markers.specs.Marks.{mark_of}
use Rattle.data_markers.proofs.SpellingLoops.{pieces_in}
use Rattle.data_markers.specs.SpellingLaws.{IsSpellable}
use Rattle.data_markers.proofs.markers.Markers.spell_marks.Given as goal

abbrev pub invariant-loop-number : goal.invariant-loop-number
invariant-loop-number l = record {
  spelled : l.into.items ≡ l.fn.into.items ++ flat_map (λ (bytes : List ℕ). bytes) (pieces_in l.self l.number);
  each : (q : ℕ) (m : Marker) → q < l.number → mark_of l.self q ≡ Some m → IsSpellable m;
}
