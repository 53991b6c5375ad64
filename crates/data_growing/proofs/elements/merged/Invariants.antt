use Rattle.std.proofs.Common.{length, ◌-◌, ◌+◌}
use Rattle.data_growing.proofs.Merging.{IsMerged}
use Rattle.data_growing.proofs.elements.merged.Given as goal

abbrev pub invariant-loop-here : goal.invariant-loop-here
invariant-loop-here l = IsMerged l.mine l.theirs l.all.items l.here l.there

abbrev pub decreases-loop-here : goal.decreases-loop-here
decreases-loop-here l = (length l.mine - l.here) + (length l.theirs - l.there)
