use Rattle.thread_cluster.specs.Meeting.{HasMet}
use Rattle.thread_cluster.proofs.Books.{is_counted}
use Rattle.thread_cluster.proofs.locked.Locked.counts.Goals as goal

pub returns-clause-counted : goal.returns-clause-counted
returns-clause-counted g c =
    let met : HasMet g.P.Spot.PLACE c.args.self.now c.self.inside.cell c.args.session.now c.meet.new.session = rw c.self.view_is c.meet.ensures.met in
    is_counted g.M.Member.posted g.M.Member.taken g.N.Section.ids g.P.Spot.PLACE c.self.inside.cell.seen.known c.meet.new.session.seen.known c.self.inside.book c.counts.result met.alike.same c.self.invariant.0 c.facts.ensures.few c.self.invariant.1 c.counts.ensures
