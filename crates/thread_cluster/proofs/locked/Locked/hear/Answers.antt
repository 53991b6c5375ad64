use Rattle.std.proofs.Common.{◌≡◌, ◌+◌, ◌-◌, ◌≤◌, length, drop, ap, sym, subst, arith}
use Rattle.thread_cell.specs.Lists.{at}
use Rattle.thread_cluster.specs.Passing.{posts, takes, AreCopies}
use Rattle.thread_cluster.specs.Knowing.{KnowsMore}
use Rattle.thread_cluster.specs.Turning.{HasTaken, HasBegun}
use Rattle.thread_cluster.proofs.Lists.{if_ok, on_err, length_left}
use Rattle.thread_cluster.proofs.Posts.{copies_behind, takes_known}
use Rattle.thread_cluster.proofs.Growing.{knows_same, taken_after, begun_seen}
use Rattle.thread_cluster.proofs.locked.Locked.hear.Goals as goal

pub overflow_sub-heard : goal.overflow_sub-heard
overflow_sub-heard g c =
    let knows : KnowsMore c.args.session.now.seen.known c.meet.new.self.seen.known = knows_same c.args.session.now.seen.known c.meet.new.session.seen.known c.meet.new.self.seen.known c.meet.ensures.met.sees.goes_on.knows c.meet.ensures.met.alike.same in
    let le = takes_known g.M.Member.posted g.M.Member.taken g.N.Section.ids c.args.from.now.place c.args.number g.P.Spot.PLACE c.args.session.now.seen.known c.meet.new.self.seen.known knows c.requires.number in
    let count = c.count-heard.ensures in omega arith

pub take_all-requires-clause-copies : goal.take_all-requires-clause-copies
take_all-requires-clause-copies g c =
    let p = g.P.Spot.PLACE in
    let q = c.args.from.now.place in
    let new = c.meet.new.self.seen.known in
    let knows : KnowsMore c.args.session.now.seen.known new = knows_same c.args.session.now.seen.known c.meet.new.session.seen.known new c.meet.ensures.met.sees.goes_on.knows c.meet.ensures.met.alike.same in
    let le = takes_known g.M.Member.posted g.M.Member.taken g.N.Section.ids q c.args.number p c.args.session.now.seen.known new knows c.requires.number in
    let count = c.count-heard.ensures in
    subst (λ w. AreCopies (length (takes g.M.Member.taken (g.N.Section.ids q) (at new p))) w (posts g.M.Member.posted (g.N.Section.ids p) (at new q))) (sym c.skipped-copies.ensures)
    (copies_behind g.M.Member.posted g.M.Member.taken g.N.Section.ids q c.args.number (c.count-heard.result - c.args.number) c.args.copies.items p c.args.session.now.seen.known new knows (omega arith) c.requires.copies)

pub returns-clause-ok : goal.returns-clause-ok
returns-clause-ok g c =
    let p = g.P.Spot.PLACE in
    let q = c.args.from.now.place in
    let new = c.meet.new.self.seen.known in
    let all = length (takes g.M.Member.taken (g.N.Section.ids q) (at new p)) + length c.skipped-copies.result.items in
    let knows : KnowsMore c.args.session.now.seen.known new = knows_same c.args.session.now.seen.known c.meet.new.session.seen.known new c.meet.ensures.met.sees.goes_on.knows c.meet.ensures.met.alike.same in
    let le = takes_known g.M.Member.posted g.M.Member.taken g.N.Section.ids q c.args.number p c.args.session.now.seen.known new knows c.requires.number in
    let count = c.count-heard.ensures in
    let left = length_left (c.count-heard.result - c.args.number) c.args.copies.items in
    let skipped : length c.skipped-copies.result.items ≡ length (drop (c.count-heard.result - c.args.number) c.args.copies.items) = ap length c.skipped-copies.ensures in
    let enough : c.args.number + length c.args.copies.items ≤ length (takes g.M.Member.taken (g.N.Section.ids q) (at new p)) + length c.skipped-copies.result.items = omega arith in
    if_ok c.take_all.result (λ n. HasTaken g.M.Member.taken g.M.Member.posted g.N.Section.ids q p all n c.meet.new.session c.take_all.new.session) (λ n. HasTaken g.M.Member.taken g.M.Member.posted g.N.Section.ids q p (c.args.number + length c.args.copies.items) n c.args.session.now c.take_all.new.session)
    (λ n t. taken_after g.M.Member.taken g.M.Member.posted g.N.Section.ids q p (c.args.number + length c.args.copies.items) all n c.args.session.now c.meet.new.session c.take_all.new.session c.meet.ensures.met.sees enough t)
    c.take_all.ensures.ok

pub returns-clause-err : goal.returns-clause-err
returns-clause-err g c =
    on_err c.take_all.result (HasBegun g.M.Member.taken g.N.Section.ids c.meet.new.session c.take_all.new.session) (HasBegun g.M.Member.taken g.N.Section.ids c.args.session.now c.take_all.new.session)
    (begun_seen g.M.Member.taken g.N.Section.ids c.args.session.now c.meet.new.session c.take_all.new.session c.meet.ensures.met.sees)
    c.take_all.ensures.err
