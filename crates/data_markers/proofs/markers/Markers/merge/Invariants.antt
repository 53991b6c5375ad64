use Rattle.data_markers.proofs.Merges.{IsMergedBelow}
use Rattle.data_markers.proofs.markers.Markers.merge.Given as goal

abbrev pub invariant-loop-number : goal.invariant-loop-number
invariant-loop-number l = IsMergedBelow l.initial.merged l.other l.merged l.number
