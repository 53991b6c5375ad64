use Rattle.std.proofs.Common.{length, ◌-◌}
use Rattle.member_keeper.proofs.Places.{IsSearched}
use Rattle.member_keeper.proofs.search.find_place.Given as goal

abbrev pub invariant-loop-index : goal.invariant-loop-index
invariant-loop-index l = IsSearched l.table l.entry l.index

abbrev pub decreases-loop-index : goal.decreases-loop-index
decreases-loop-index l = length l.table - l.index
