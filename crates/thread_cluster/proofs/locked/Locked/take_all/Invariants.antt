use Rattle.std.proofs.Common.{◌≡◌, ◌+◌, length}
use Rattle.thread_cell.specs.Lists.{at}
use Rattle.thread_cluster.specs.Passing.{posts, takes, AreCopies}
use Rattle.thread_cluster.specs.Knowing.{Turns}
use Rattle.thread_cluster.specs.Meeting.{AreAlike}
use Rattle.thread_cluster.proofs.locked.Locked.take_all.Given as goal

abbrev pub invariant-loop-message : goal.invariant-loop-message
invariant-loop-message g l =
    let p = g.P.Spot.PLACE in
    let q = l.from.place in record {
      copies : AreCopies (length (takes g.M.Member.taken (g.N.Section.ids q) (at l.self.seen.known p))) l.copies.items (posts g.M.Member.posted (g.N.Section.ids p) (at l.self.seen.known q));
      all : length (takes g.M.Member.taken (g.N.Section.ids q) (at l.self.seen.known p)) + length l.copies.items ≡ length (takes g.M.Member.taken (g.N.Section.ids q) (at l.initial.self.seen.known p)) + length l.initial.copies.items;
      few : l.taken + length l.copies.items ≡ length l.initial.copies.items;
      grown : l.taken + length (at l.initial.self.seen.known p) ≡ length (at l.self.seen.known p);
      alike : AreAlike l.self l.session;
      turned : Turns g.M.Member.taken g.N.Section.ids l.taken l.initial.session l.session;
      table : l.session.seen.table ≡ g.N.Name.table;
    }

abbrev pub decreases-loop-message : goal.decreases-loop-message
decreases-loop-message g l = length l.copies.items
