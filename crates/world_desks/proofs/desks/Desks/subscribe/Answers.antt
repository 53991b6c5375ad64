use Rattle.std.proofs.Common.{Bool, true, false, Some, ap, sym, ◌∙◌}
use Rattle.world_desks.proofs.Following.{subscribe_declared, subscribe_unknown, subscribe_gone, new_is, standing_is}
use Rattle.world_desks.proofs.desks.Desks.subscribe.Goals as goal

pub returns-in-New-clause-ok : goal.returns-in-New-clause-ok
returns-in-New-clause-ok g c =
    subscribe_declared g.T.SpelledData c.args.world.now c.args.at c.args.client c.args.key.now c.args.self.now (sym (ap (λ (b : Bool). Some b) c.in-Some-true.field-0-test) ∙ c.in-Some-true.ensures) c.follow.new.self false
    (new_is _ (sym c.in-New.is ∙ c.in_ok-follow-in-Some-true.ensures.standing)) c.in_ok-follow-in-Some-true.ensures.ok

pub returns-in-Standing-clause-ok : goal.returns-in-Standing-clause-ok
returns-in-Standing-clause-ok g c =
    subscribe_declared g.T.SpelledData c.args.world.now c.args.at c.args.client c.args.key.now c.args.self.now (sym (ap (λ (b : Bool). Some b) c.in-Some-true.field-0-test) ∙ c.in-Some-true.ensures) c.follow.new.self true
    (standing_is _ (sym c.in-Standing.is ∙ c.in_ok-follow-in-Some-true.ensures.standing)) c.in_ok-follow-in-Some-true.ensures.ok

pub returns-in-Some-false-clause-ok : goal.returns-in-Some-false-clause-ok
returns-in-Some-false-clause-ok g c = subscribe_unknown g.T.SpelledData c.args.world.now c.args.at c.args.client c.args.key.now c.args.self.now (sym (ap (λ (b : Bool). Some b) c.in-Some-false.field-0-test) ∙ c.in-Some-false.ensures)

pub returns-in-None-clause-ok : goal.returns-in-None-clause-ok
returns-in-None-clause-ok g c = subscribe_gone g.T.SpelledData c.args.world.now c.args.at c.args.client c.args.key.now c.args.self.now c.in-None.ensures
