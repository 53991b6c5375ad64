use Rattle.std.proofs.Common.{List, sym, subst}
use Rattle.member_desk.specs.declared.followed.Followed.{Followed}
use Rattle.member_desk.specs.declared.look.Told.{Told}
use Rattle.member_desk.specs.Subscriptions.{AreInOrder}
use Rattle.member_desk.proofs.Orders.{in_order_without}
use Rattle.member_desk.proofs.desk.Desk.unsubscribe.Goals as goal

pub invariant_of-self : goal.invariant_of-self
invariant_of-self c = subst (λ (desk : List (Followed Told)). AreInOrder desk) (sym c.unsubscribe.ensures.now) (in_order_without c.self.inside.followed.items c.args.key.now c.args.client c.self.invariant)
