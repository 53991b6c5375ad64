use Rattle.std.proofs.Common.{length, ◌-◌}
use Rattle.data_meaning.proofs.TextPlaces.{IsSearched}
use Rattle.data_meaning.proofs.elements.place.Given as goal

abbrev pub invariant-loop-index : goal.invariant-loop-index
invariant-loop-index l = IsSearched l.texts l.text l.index

abbrev pub decreases-loop-index : goal.decreases-loop-index
decreases-loop-index l = length l.texts - l.index
