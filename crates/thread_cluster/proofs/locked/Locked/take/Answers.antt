use Rattle.std.proofs.Common.{ap, sym, ◌∙◌, subst, arith}
use Rattle.thread_cluster.specs.Passing.{Hears, IsNext}
use Rattle.thread_cluster.specs.Meeting.{AreAlike}
use Rattle.thread_cluster.proofs.Lists.{on_ok, either_way}
use Rattle.thread_cluster.proofs.Posts.{hears_take, next_unheard, unheard_alike}
use Rattle.thread_cluster.proofs.Books.{takes_one_of}
use Rattle.thread_cluster.proofs.Stepping.{took, is_cause, somewhere}
use Rattle.thread_cluster.proofs.locked.Locked.take.Goals as goal

pub accept-requires-clause-takes : goal.accept-requires-clause-takes
accept-requires-clause-takes g c = takes_one_of g.M.Member.taken g.N.Section.ids c.take-input.result c.args.from.now.place c.args.from.now.id c.args.message c.requires.apart c.args.from.now.stands c.take-input.ensures

pub invariant_of-self : goal.invariant_of-self
invariant_of-self g c =
    let p = g.P.Spot.PLACE in
    let q = c.args.from.now.place in
    let old = c.self.inside.cell in
    let new = c.accept.new.cell in
    let next : IsNext g.M.Member.posted g.M.Member.taken g.N.Section.ids q c.args.message p old.seen.known = rw c.self.view_is c.requires.next in (
      either_way c.accept.result _ _ (Hears g.M.Member.posted g.M.Member.taken g.N.Section.ids p new.seen.known)
          (λ r made.
          hears_take g.M.Member.posted g.M.Member.taken g.N.Section.ids q c.args.from.now.id c.args.message p old.seen.known new.seen.known made.entry c.requires.apart (record { begins = made.cell_knew }) made.history
          c.args.from.now.stands (λ id. ap (g.M.Member.taken id) made.input_is ∙ c.take-input.ensures id) next
          (λ i x e. let low = c.facts.ensures.timed.at_least q i x e in let high = made.stamp_is in omega arith)
          c.self.invariant.0)
          (λ e. subst (λ w. Hears g.M.Member.posted g.M.Member.taken g.N.Section.ids p w.known) (sym e.0) c.self.invariant.0)
          c.accept.ensures.ok c.accept.ensures.err,
      c.accept.ensures.book,
    )

pub returns-clause-ok : goal.returns-clause-ok
returns-clause-ok g c =
    rw (← c.self.view_is)
    (on_ok c.accept.result _ _
    (λ r made. took g.M.Machine g.P.Spot.PLACE c.take-input.result c.self.inside.cell c.accept.new.cell c.args.session.now c.accept.new.session r made g.M.Member.taken g.N.Section.ids c.args.from.now.place c.args.from.now.id c.args.message c.args.from.now.stands c.take-input.ensures)
    c.accept.ensures.ok)

pub returns-clause-cause : goal.returns-clause-cause
returns-clause-cause g c =
    let p = g.P.Spot.PLACE in
    let q = c.args.from.now.place in
    let alike : AreAlike c.self.inside.cell c.args.session.now = rw c.self.view_is c.requires.alike in
    let next : IsNext g.M.Member.posted g.M.Member.taken g.N.Section.ids q c.args.message p c.self.inside.cell.seen.known = rw c.self.view_is c.requires.next in
    let unheard = unheard_alike g.M.Member.posted g.M.Member.taken g.N.Section.ids q p c.args.session.now.seen.known c.self.inside.cell.seen.known alike.same
    (next_unheard g.M.Member.posted g.M.Member.taken g.N.Section.ids q c.args.from.now.id c.args.message p c.self.inside.cell.seen.known c.args.from.now.stands next) in
    somewhere g.M.Machine g.P.Spot.PLACE c.take-input.result c.self.inside.cell c.accept.new.cell c.args.session.now c.accept.new.session g.M.Member.taken g.M.Member.posted g.N.Section.ids q _ c.accept.result unheard c.accept.ensures.err
    (is_cause g.M.Machine g.P.Spot.PLACE c.take-input.result c.self.inside.cell c.accept.new.cell c.args.session.now c.accept.new.session _ c.accept.result c.accept.ensures.full c.accept.ensures.refused c.accept.ensures.err alike c.facts.ensures.began)
