use Rattle.std.proofs.Common.{ap, sym, ◌∙◌, subst}
use Rattle.thread_cell.specs.Lists.{at}
use Rattle.thread_cluster.specs.Passing.{Hears}
use Rattle.thread_cluster.specs.Books.{IsBook}
use Rattle.thread_cluster.proofs.Posts.{hears_more}
use Rattle.thread_cluster.proofs.Stepping.{has_met}
use Rattle.thread_cluster.proofs.locked.Locked.meet.Goals as goal

pub invariant_of-self : goal.invariant_of-self
invariant_of-self g c =
    let old = c.self.inside.cell.seen.known in
    let new = c.meet.new.self.seen.known in
    let same = ap (λ w. w.seen.known) c.note-note-2.ensures.same in (
      subst (λ w. Hears g.M.Member.posted g.M.Member.taken g.N.Section.ids g.P.Spot.PLACE w) (sym same)
          (hears_more g.M.Member.posted g.M.Member.taken g.N.Section.ids g.P.Spot.PLACE old new (record { begins = λ q. (c.meet.ensures.knew q).0 }) c.meet.ensures.history c.self.invariant.0),
      subst (λ h. IsBook g.M.Member.posted g.M.Member.taken g.N.Section.ids h c.self.inside.book) (sym (ap (λ w. at w g.P.Spot.PLACE) same ∙ c.meet.ensures.history)) c.self.invariant.1,
    )

pub returns-clause-met : goal.returns-clause-met
returns-clause-met g c =
    rw (← c.self.view_is)
    (has_met g.P.Spot.PLACE g.N.Name.table c.self.inside.cell c.meet.new.self c.note-note-2.new.self c.args.session.now c.note-note.new.self c.meet-2.new.self c.note-note.result c.note-note-2.result
    c.note-note.ensures.note c.note-note.ensures.same c.meet.ensures.machine c.meet.ensures.history c.meet.ensures.began c.meet.ensures.known c.meet.ensures.knew c.meet.ensures.clock
    c.note-note-2.ensures.note c.note-note-2.ensures.same c.requires c.meet-2.ensures.table c.meet-2.ensures.began c.meet-2.ensures.known c.meet-2.ensures.stamp c.meet-2.ensures.client)
