use Rattle.std.proofs.Common.{◌≡◌, ◌<◌, true, length, subst, sym}
use Rattle.member_views.specs.Views.{View, is_member}
use Rattle.member_views.proofs.Kept.{view_without}
use Rattle.member_views.proofs.view.View.without.Goals as goal

pub invariant_of-result : goal.invariant_of-result
invariant_of-result c =
    let member = subst (λ (v : View). is_member v c.args.id ≡ true) (sym c.self.view_is) c.requires.member in
    let others = subst (λ (v : View). 1 < length v.members) (sym c.self.view_is) c.requires.others in
    rw (c.in_ok-others.ensures, c.deref.ensures.value) (view_without _ c.args.id c.self.invariant member others)

pub returns-clause-sound : goal.returns-clause-sound
returns-clause-sound c = invariant_of-result c
