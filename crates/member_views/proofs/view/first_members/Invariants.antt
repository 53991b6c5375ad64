use Rattle.std.proofs.Common.{◌≡◌}
use Rattle.member_views.specs.Views.{first_view}
use Rattle.member_views.proofs.view.first_members.Given as goal

abbrev pub invariant-loop-number : goal.invariant-loop-number
invariant-loop-number l = l.members.items ≡ (first_view l.number).members
