use Rattle.std.proofs.Common.{ap, sym, ◌∙◌, subst}
use Rattle.thread_cluster.specs.Passing.{Hears}
use Rattle.thread_cluster.specs.Knowing.{Sees}
use Rattle.thread_cluster.specs.Meeting.{HasMet}
use Rattle.thread_cluster.proofs.Lists.{if_ok, on_err, either_way}
use Rattle.thread_cluster.proofs.Posts.{hears_call}
use Rattle.thread_cluster.proofs.Books.{takes_none_of}
use Rattle.thread_cluster.proofs.Growing.{answered_after}
use Rattle.thread_cluster.proofs.Stepping.{answered, is_cause}
use Rattle.thread_cluster.proofs.locked.Locked.call.Goals as goal

pub accept-requires-clause-takes : goal.accept-requires-clause-takes
accept-requires-clause-takes g c = takes_none_of g.M.Member.taken g.N.Section.ids c.args.input c.requires.no_take

pub invariant_of-self : goal.invariant_of-self
invariant_of-self g c =
    let p = g.P.Spot.PLACE in
    let old = c.self.inside.cell in
    let new = c.accept.new.cell in (
      either_way c.accept.result _ _ (Hears g.M.Member.posted g.M.Member.taken g.N.Section.ids p new.seen.known)
          (λ r made. hears_call g.M.Member.posted g.M.Member.taken g.N.Section.ids p old.seen.known new.seen.known made.entry (record { begins = made.cell_knew }) made.history
          (λ id. ap (g.M.Member.taken id) made.input_is ∙ c.requires.no_take id) c.self.invariant.0)
          (λ e. subst (λ w. Hears g.M.Member.posted g.M.Member.taken g.N.Section.ids p w.known) (sym e.0) c.self.invariant.0)
          c.accept.ensures.ok c.accept.ensures.err,
      c.accept.ensures.book,
    )

pub returns-clause-ok : goal.returns-clause-ok
returns-clause-ok g c =
    if_ok c.accept.result _ _
    (λ r made.
    answered_after g.M.Machine g.P.Spot.PLACE c.args.input c.args.session.now c.meet.new.session c.accept.new.session r c.meet.ensures.met.sees
    (answered g.M.Machine g.P.Spot.PLACE c.args.input c.self.inside.cell c.accept.new.cell c.meet.new.session c.accept.new.session r made c.facts.ensures.began))
    c.accept.ensures.ok

pub returns-clause-err : goal.returns-clause-err
returns-clause-err g c =
    on_err c.accept.result _ _ (λ e. subst (λ w. Sees c.args.session.now w) (sym e.1) c.meet.ensures.met.sees) c.accept.ensures.err

pub returns-clause-cause : goal.returns-clause-cause
returns-clause-cause g c =
    let met : HasMet g.P.Spot.PLACE c.args.self.now c.self.inside.cell c.args.session.now c.meet.new.session = rw c.self.view_is c.meet.ensures.met in
    is_cause g.M.Machine g.P.Spot.PLACE c.args.input c.self.inside.cell c.accept.new.cell c.meet.new.session c.accept.new.session _ c.accept.result c.accept.ensures.full c.accept.ensures.refused c.accept.ensures.err met.alike c.facts.ensures.began
