use Rattle.std.proofs.Common.{◌≡◌, ◌+◌, ◌∷◌, [], length, ap, sym, ◌∙◌, subst, arith, length-append}
use Rattle.thread_cell.specs.Lists.{at}
use Rattle.thread_cluster.specs.Passing.{at_one}
use Rattle.thread_cluster.specs.Books.{IsBook}
use Rattle.thread_cluster.proofs.Books.{same_book, book_more}
use Rattle.thread_cluster.proofs.accepting.accept.Goals as goal

pub returns-then-not-make_room-clause-book : goal.returns-then-not-make_room-clause-book
returns-then-not-make_room-clause-book g c =
    same_book g.M.Member.posted g.M.Member.taken g.N.Section.ids (at c.args.cell.now.seen.known g.P.Spot.PLACE) c.args.book.now c.make_room.new.self c.make_room.ensures.same c.requires.book

pub returns-in-Ok-clause-book : goal.returns-in-Ok-clause-book
returns-in-Ok-clause-book g c =
    let posted = g.M.Member.posted in
    let taken = g.M.Member.taken in
    let ids = g.N.Section.ids in
    let h = at c.args.cell.now.seen.known g.P.Spot.PLACE in
    let made = c.in-Ok.ensures.ok in
    let receipt = c.in-Ok.receipt in
    let few = c.facts.ensures.few in
    let one = ap length made.history in
    let grown = length-append h (made.entry ∷ []) in
    book_more posted taken ids h (at c.accept.new.self.seen.known g.P.Spot.PLACE) made.entry receipt.index c.args.from receipt.output c.make_room.new.self c.write.new.self
    (same_book posted taken ids h c.args.book.now c.make_room.new.self c.make_room.ensures.same c.requires.book)
    c.write.ensures made.history (sym (ap (λ r. r.output) made.receipt_is)) (ap (λ r. r.index) made.receipt_is) (omega arith)
    (λ p lt. ap (λ i. length (at_one taken (ids p) i)) made.input_is ∙ c.requires.takes p lt)

pub returns-in-Err-clause-book : goal.returns-in-Err-clause-book
returns-in-Err-clause-book g c =
    let posted = g.M.Member.posted in
    let taken = g.M.Member.taken in
    let ids = g.N.Section.ids in
    let p = g.P.Spot.PLACE in
    subst (λ w. IsBook posted taken ids (at w.known p) c.make_room.new.self) (sym c.in-Err.ensures.err.0)
    (same_book posted taken ids (at c.args.cell.now.seen.known p) c.args.book.now c.make_room.new.self c.make_room.ensures.same c.requires.book)
