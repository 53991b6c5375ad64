use Rattle.member_views.proofs.Kept.{first_is_view}
use Rattle.member_views.proofs.view.View.first.Goals as goal

pub invariant_of-result : goal.invariant_of-result
invariant_of-result c = rw c.in_ok-first_members.ensures (first_is_view c.args.members c.requires.some c.requires.few)

pub returns-clause-sound : goal.returns-clause-sound
returns-clause-sound c = invariant_of-result c
