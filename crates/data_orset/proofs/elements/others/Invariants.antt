use Rattle.std.proofs.Common.{length, ◌-◌, ◌+◌}
use Rattle.data_orset.proofs.Others.{IsParting}
use Rattle.data_orset.proofs.elements.others.Given as goal

abbrev pub invariant-loop-here : goal.invariant-loop-here
invariant-loop-here l = IsParting l.texts l.dots l.all l.here l.there

abbrev pub decreases-loop-here : goal.decreases-loop-here
decreases-loop-here l = (length l.dots - l.here) + (length l.texts - l.there)
