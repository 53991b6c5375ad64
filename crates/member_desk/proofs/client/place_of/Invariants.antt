use Rattle.std.proofs.Common.{length, ◌-◌}
use Rattle.member_desk.specs.Subscriptions.{by_number}
use Rattle.member_desk.proofs.Searches.{IsSearched}
use Rattle.member_desk.proofs.client.place_of.Given as goal

abbrev pub invariant-loop-index : goal.invariant-loop-index
invariant-loop-index l = IsSearched (by_number l.number) l.clients l.index

abbrev pub decreases-loop-index : goal.decreases-loop-index
decreases-loop-index l = length l.clients - l.index
