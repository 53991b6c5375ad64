use Rattle.std.proofs.Common.{◌≡◌, ◌+◌, rules, subst, sym}
use Rattle.member_views.specs.Views.{View, with_replaced}
use Rattle.member_views.specs.Sound.{IsView}
use Rattle.member_views.proofs.Kept.{view_replaced}
use Rattle.member_views.proofs.view.View.replaced.Goals as goal

pub invariant_of-result : goal.invariant_of-result
invariant_of-result c =
    let made : View = record { number = c.self.inside.number + 1; given = c.self.inside.given + 1; members = c.push.new.self.items } in
    let same : made ≡ with_replaced c.args.self.now c.args.id = search rules in
    let sound = subst IsView c.self.view_is c.self.invariant in
    subst IsView (sym same) (view_replaced c.args.self.now c.args.id sound c.requires.member c.requires.left)

pub returns-clause-sound : goal.returns-clause-sound
returns-clause-sound c = invariant_of-result c
