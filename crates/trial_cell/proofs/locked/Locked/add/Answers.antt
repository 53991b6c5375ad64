use Rattle.trial_cell.proofs.Answering.{if_ok, answered}
use Rattle.trial_cell.proofs.locked.Locked.add.Goals as goal

pub returns-clause-ok : goal.returns-clause-ok
returns-clause-ok g c =
    if_ok c.accept.result _ _
    (λ r made. answered g.P.Spot.PLACE c.args.amount c.args.self.now.cell c.accept.new.self c.args.session.now c.accept.new.session r made c.facts.ensures.began)
    c.accept.ensures.ok
