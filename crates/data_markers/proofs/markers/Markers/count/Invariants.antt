use Rattle.std.proofs.Common.{◌≡◌, length}
use Rattle.data_markers.proofs.SpellingLoops.{pieces_in}
use Rattle.data_markers.proofs.markers.Markers.count.Given as goal

abbrev pub invariant-loop-number : goal.invariant-loop-number
invariant-loop-number l = l.count ≡ length (pieces_in l.self l.number)
