use Rattle.std.proofs.Common.{sym, subst}
use Rattle.thread_cluster.specs.Books.{IsBook}
use Rattle.thread_cluster.proofs.Posts.{hears_none}
use Rattle.thread_cluster.proofs.Books.{blank_book}
use Rattle.thread_cluster.proofs.locked.Locked.new.Goals as goal

pub invariant_of-result : goal.invariant_of-result
invariant_of-result g c = (
  hears_none g.M.Member.posted g.M.Member.taken g.N.Section.ids g.P.Spot.PLACE c.args.cell.seen.known c.requires.empty,
  subst (λ h. IsBook g.M.Member.posted g.M.Member.taken g.N.Section.ids h c.new-book.result) (sym c.requires.empty) (blank_book g.M.Member.posted g.M.Member.taken g.N.Section.ids c.args.ids.now c.new-book.result c.requires.ids c.new-book.ensures),
)
