use Rattle.thread_cell.specs.Lists.{at}
use Rattle.thread_cluster.specs.Passing.{at_one}
use Rattle.thread_cluster.proofs.Postings.{IsThrough}
use Rattle.thread_cluster.proofs.locked.Locked.copies.Given as goal

abbrev pub invariant-loop-k : goal.invariant-loop-k
invariant-loop-k g l =
    IsThrough (λ e. at_one g.M.Member.posted (g.N.Section.ids l.to.place) e.output) (at l.self.seen.known g.P.Spot.PLACE) l.postings l.number l.k l.copies.items l.fn.steps l.steps
