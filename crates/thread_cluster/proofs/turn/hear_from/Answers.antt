use Rattle.std.proofs.Common.{◌≡◌, ◌+◌, ◌≤◌, length, drop, ap, sym, subst, arith}
use Rattle.thread_cell.specs.Lists.{at}
use Rattle.thread_cluster.specs.Passing.{posts, takes, messages, AreCopies}
use Rattle.thread_cluster.specs.Knowing.{KnowsMore}
use Rattle.thread_cluster.specs.Sites.{place_of}
use Rattle.thread_cluster.specs.Turning.{HasBegun, HasTaken, HasTurned}
use Rattle.thread_cluster.proofs.Lists.{if_ok, on_err, either_way}
use Rattle.thread_cluster.proofs.Posts.{copies_are, takes_known}
use Rattle.thread_cluster.proofs.Growing.{sees_self, begun_here, begun_seen}
use Rattle.thread_cluster.proofs.Unheard.{posts_known}
use Rattle.thread_cluster.proofs.Telling.{heard_from}
use Rattle.thread_cluster.proofs.turn.hear_from.Goals as goal

pub returns-in-Err-clause-cause : goal.returns-in-Err-clause-cause
returns-in-Err-clause-cause g c = tt

pub hear-requires-clause-copies : goal.hear-requires-clause-copies
hear-requires-clause-copies g c =
    let from = c.peer-from.result.now.place in
    let to = c.peer-to.result.now.place in
    let known = c.copy_posts.new.session.seen.known in
    let number = c.args.number in
    let copies = c.in-Ok.copies.items in
    subst (λ w. AreCopies number copies (posts g.M.Member.posted (g.N.Section.ids w) (at known from))) c.peer-to.ensures
    (subst (λ w. AreCopies number copies (posts g.M.Member.posted (g.N.Section.ids to) (at known w))) (sym c.peer-from.ensures)
    (copies_are number copies (posts g.M.Member.posted (g.N.Section.ids to) (at known (place_of c.args.sender.now))) c.in-Ok.ensures.copies))

pub hear-requires-clause-number : goal.hear-requires-clause-number
hear-requires-clause-number g c =
    let q = place_of c.args.receiver.now in
    let new = c.copy_posts.new.session.seen.known in
    subst (λ w. c.args.number ≤ length (takes g.M.Member.taken (g.N.Section.ids w) (at new q))) (sym c.peer-from.ensures)
    (takes_known g.M.Member.posted g.M.Member.taken g.N.Section.ids (place_of c.args.sender.now) c.args.number q c.args.session.now.seen.known new c.copy_posts.ensures.sees.goes_on.knows c.requires.number)

pub returns-in-Ok-clause-ok : goal.returns-in-Ok-clause-ok
returns-in-Ok-clause-ok g c =
    let p = place_of c.args.sender.now in
    let q = place_of c.args.receiver.now in
    let o = c.args.session.now in
    let number = c.args.number in
    let copies = c.in-Ok.copies.items in
    let b = c.copy_posts.new.session in
    let are : copies ≡ drop number (messages (posts g.M.Member.posted (g.N.Section.ids q) (at b.seen.known p))) =
    subst (λ w. copies ≡ drop number (messages (posts g.M.Member.posted (g.N.Section.ids w) (at b.seen.known p)))) c.peer-to.ensures c.in-Ok.ensures.copies in
    if_ok c.hear.result (λ n. HasTaken g.M.Member.taken g.M.Member.posted g.N.Section.ids c.peer-from.result.now.place q (number + length copies) n b c.hear.new.session) (λ n. HasTurned g.M.Member.taken g.M.Member.posted g.N.Section.ids p q n o c.hear.new.session)
    (λ n t.
    heard_from g.M.Member.taken g.M.Member.posted g.N.Section.ids p q number n copies o o b c.hear.new.session (sees_self o) c.copy_posts.ensures.sees are
    (subst (λ w. HasTaken g.M.Member.taken g.M.Member.posted g.N.Section.ids w q (number + length copies) n b c.hear.new.session) c.peer-from.ensures t))
    c.hear.ensures.ok

pub returns-in-Ok-clause-err : goal.returns-in-Ok-clause-err
returns-in-Ok-clause-err g c =
    let o = c.args.session.now in
    let b = c.copy_posts.new.session in
    on_err c.hear.result (HasBegun g.M.Member.taken g.N.Section.ids b c.hear.new.session) (HasBegun g.M.Member.taken g.N.Section.ids o c.hear.new.session)
    (begun_seen g.M.Member.taken g.N.Section.ids o b c.hear.new.session c.copy_posts.ensures.sees)
    c.hear.ensures.err

pub returns-in-Err-clause-err : goal.returns-in-Err-clause-err
returns-in-Err-clause-err g c = begun_here g.M.Member.taken g.N.Section.ids c.args.session.now c.copy_posts.new.session c.copy_posts.ensures.sees

pub returns-in-Ok-clause-steps : goal.returns-in-Ok-clause-steps
returns-in-Ok-clause-steps g c =
    let p = place_of c.args.sender.now in
    let q = place_of c.args.receiver.now in
    let b = c.copy_posts.new.session in
    let new = c.hear.new.session in
    let knows : KnowsMore b.seen.known new.seen.known = either_way c.hear.result _ _ (KnowsMore b.seen.known new.seen.known) (λ n t. t.turned.goes_on.knows) (λ e. e.turned.goes_on.knows) c.hear.ensures.ok c.hear.ensures.err in
    let longer = posts_known g.M.Member.posted g.M.Member.taken g.N.Section.ids p q b.seen.known new.seen.known knows in
    let same = ap (λ w. length (posts g.M.Member.posted (g.N.Section.ids w) (at b.seen.known p))) c.peer-to.ensures in
    let read = c.copy_posts.ensures.steps in omega arith

pub returns-in-Err-clause-steps : goal.returns-in-Err-clause-steps
returns-in-Err-clause-steps g c =
    let same = ap (λ w. length (posts g.M.Member.posted (g.N.Section.ids w) (at c.copy_posts.new.session.seen.known (place_of c.args.sender.now)))) c.peer-to.ensures in
    let read = c.copy_posts.ensures.steps in omega arith
