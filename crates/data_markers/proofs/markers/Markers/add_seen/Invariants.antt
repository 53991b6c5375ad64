use Rattle.data_markers.proofs.Seen.{IsSeenBelow}
use Rattle.data_markers.proofs.markers.Markers.add_seen.Given as goal

abbrev pub invariant-loop-number : goal.invariant-loop-number
invariant-loop-number l = IsSeenBelow l.id l.view l.initial.self l.self l.changed l.number
