use Rattle.std.proofs.Common.{◌≡◌, ◌+◌, subst, sym, List}
use Rattle.member_views.specs.Views.{View}
use Rattle.member_views.specs.Sound.{last_view}
use Rattle.member_views.proofs.Kept.{views_append}
use Rattle.member_views.proofs.list.ViewList.append.Goals as goal
use Rattle.member_views.proofs.list.ViewList.append.Goals.{in-Ok, in-Err}

pub invariant_of-self : goal.invariant_of-self
invariant_of-self c =
    let next = subst (λ (views : List View). c.args.next.number ≡ (last_view views).number + 1) (sym c.self.view_is) c.requires in
    elim c.match-push.branch [
      | in-Ok w ↦ rw w.in-Ok.ensures.items (views_append _ _ c.self.invariant c.number-number.ensures.sound next)
      | in-Err w ↦ rw w.in-Err.ensures.items c.self.invariant
    ]
