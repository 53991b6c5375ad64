use Rattle.std.proofs.Common.{Bool, true, false, Some, ap, sym, ◌∙◌}
use Rattle.world_desks.proofs.Following.{unsubscribe_declared, unsubscribe_unknown, unsubscribe_gone}
use Rattle.world_desks.proofs.desks.Desks.unsubscribe.Goals as goal

pub returns-then-leave : goal.returns-then-leave
returns-then-leave g c =
    unsubscribe_declared g.T.SpelledData c.args.world.now c.args.at c.args.client c.args.key.now c.args.self.now (sym (ap (λ (b : Bool). Some b) c.in-Some-true.field-0-test) ∙ c.in-Some-true.ensures) c.leave.new.self true (sym c.if-leave.ensures.was) c.leave.ensures.now

pub returns-else-leave : goal.returns-else-leave
returns-else-leave g c =
    unsubscribe_declared g.T.SpelledData c.args.world.now c.args.at c.args.client c.args.key.now c.args.self.now (sym (ap (λ (b : Bool). Some b) c.in-Some-true.field-0-test) ∙ c.in-Some-true.ensures) c.leave.new.self false (sym c.if-leave.ensures.was) c.leave.ensures.now

pub returns-in-Some-false : goal.returns-in-Some-false
returns-in-Some-false g c = unsubscribe_unknown g.T.SpelledData c.args.world.now c.args.at c.args.client c.args.key.now c.args.self.now (sym (ap (λ (b : Bool). Some b) c.in-Some-false.field-0-test) ∙ c.in-Some-false.ensures)

pub returns-in-None : goal.returns-in-None
returns-in-None g c = unsubscribe_gone g.T.SpelledData c.args.world.now c.args.at c.args.client c.args.key.now c.args.self.now c.in-None.ensures
