use Rattle.member_desk.proofs.Orders.{in_order_either}
use Rattle.member_desk.proofs.desk.Desk.subscribe.Goals as goal

pub invariant_of-self : goal.invariant_of-self
invariant_of-self c = in_order_either c.subscribe.result c.self.inside.followed.items c.subscribe.new.desk.items c.args.key.now c.args.client c.subscribe.ensures.ok c.subscribe.ensures.err c.self.invariant
