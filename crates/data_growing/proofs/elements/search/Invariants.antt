use Rattle.std.proofs.Common.{◌-◌}
use Rattle.data_growing.proofs.Searching.{IsBetween}
use Rattle.data_growing.proofs.elements.search.Given as goal

abbrev pub invariant-loop-low : goal.invariant-loop-low
invariant-loop-low l = IsBetween l.texts l.text l.low l.high

abbrev pub decreases-loop-low : goal.decreases-loop-low
decreases-loop-low l = l.high - l.low
