use Rattle.thread_cluster.specs.Meeting.{HasMet}
use Rattle.thread_cluster.proofs.Lists.{if_ok}
use Rattle.thread_cluster.proofs.Stepping.{shown}
use Rattle.thread_cluster.proofs.locked.Locked.look.Goals as goal

pub returns-clause-ok : goal.returns-clause-ok
returns-clause-ok g c =
    let met : HasMet g.P.Spot.PLACE c.args.self.now c.self.inside.cell c.args.session.now c.meet.new.session = rw c.self.view_is c.meet.ensures.met in
    if_ok c.look.result _ _
    (λ answer shows. shown g.M.Machine g.M.Member.Shows g.P.Spot.PLACE c.args.question.now c.args.self.now c.self.inside.cell c.args.session.now c.meet.new.session c.machine.result.now answer met c.facts.ensures.began c.machine.ensures shows)
    c.look.ensures
