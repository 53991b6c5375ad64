use Rattle.std.proofs.Common.{ap, ◌∙◌}
use Rattle.std.specs.Prelude.{slice_index}
use Rattle.thread_cell.specs.Lists.{at}
use Rattle.thread_cluster.proofs.Books.{heard_at}
use Rattle.thread_cluster.proofs.Telling.{inside}
use Rattle.thread_cluster.proofs.locked.Locked.count.Goals as goal

pub bounds-counts-from : goal.bounds-counts-from
bounds-counts-from g c = inside g.N.Section.ids c.self.invariant.1.within c.args.from.now.place c.args.from.now.id c.args.from.now.stands

pub returns : goal.returns
returns g c =
    let place = c.args.from.now.place in
    let lt = inside g.N.Section.ids c.self.invariant.1.within place c.args.from.now.id c.args.from.now.stands in
    rw (← c.self.view_is)
    (ap (λ w. slice_index w.heard place) c.counts-counts.ensures ∙ (heard_at g.M.Member.posted g.M.Member.taken g.N.Section.ids (at c.self.inside.cell.seen.known g.P.Spot.PLACE) c.self.inside.book c.self.invariant.1 place lt).0)
