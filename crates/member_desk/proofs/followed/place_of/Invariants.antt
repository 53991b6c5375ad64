use Rattle.std.proofs.Common.{length, ◌-◌}
use Rattle.member_desk.specs.Subscriptions.{by_key}
use Rattle.member_desk.proofs.Searches.{IsSearched}
use Rattle.member_desk.proofs.followed.place_of.Given as goal

abbrev pub invariant-loop-index : goal.invariant-loop-index
invariant-loop-index g l = IsSearched (by_key l.key) l.desk l.index

abbrev pub decreases-loop-index : goal.decreases-loop-index
decreases-loop-index g l = length l.desk - l.index
