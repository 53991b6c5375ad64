use Rattle.std.proofs.Common.{◌≡◌, ◌-◌, ◌+◌, ◌++◌, ◌<◌, ◌≤◌, [], drop, length, get_or, ap, sym, ◌∙◌, arith, add-one}
use Rattle.thread_cell.specs.Lists.{at}
use Rattle.thread_cluster.specs.Passing.{at_one, passed, posts, messages}
use Rattle.thread_cluster.specs.Books.{IsPage, postings_from}
use Rattle.thread_cluster.proofs.Lists.{get_within}
use Rattle.thread_cluster.proofs.Posts.{at_this}
use Rattle.thread_cluster.proofs.Books.{page_at}
use Rattle.thread_cluster.proofs.Telling.{inside}
use Rattle.thread_cluster.proofs.Postings.{IsThrough, through_none, through_more, through_all, read_more, nothing_left, entry_of}
use Rattle.thread_cluster.proofs.locked.Locked.copies.Goals as goal

pub page-page-requires : goal.page-page-requires
page-page-requires g c = inside g.N.Section.ids c.self.invariant.1.within c.args.to.now.place c.args.to.now.id c.args.to.now.stands

pub returns-then-page-number-clause-copies : goal.returns-then-page-number-clause-copies
returns-then-page-number-clause-copies g c =
    let posted = g.M.Member.posted in
    let taken = g.M.Member.taken in
    let ids = g.N.Section.ids in
    let place = c.args.to.now.place in
    let h = at c.self.inside.cell.seen.known g.P.Spot.PLACE in
    let page = c.page-page.result.now in
    let e = c.page-page.ensures in
    let lt = inside ids c.self.invariant.1.within place c.args.to.now.id c.args.to.now.stands in
    let is : IsPage posted taken (ids place) h page = page_at posted taken ids h c.self.inside.book place page c.self.invariant.1 lt e.p0 e.p1 e.p2 e.p3 e.p4 e.p5 e.p6 e.p7 in
    let few = c.requires in
    let all = is.posted_is in
    let empty : c.new-copies.result.items ≡ [] = cc in
    rw (← c.self.view_is) (empty ∙ nothing_left (λ x. at_one posted (ids place) x.output) h c.args.number (omega arith))

pub loop-k-init : goal.loop-k-init
loop-k-init g c =
    let posted = g.M.Member.posted in
    let taken = g.M.Member.taken in
    let ids = g.N.Section.ids in
    let place = c.args.to.now.place in
    let h = at c.self.inside.cell.seen.known g.P.Spot.PLACE in
    let page = c.page-page.result.now in
    let e = c.page-page.ensures in
    let lt = inside ids c.self.invariant.1.within place c.args.to.now.id c.args.to.now.stands in
    let is : IsPage posted taken (ids place) h page = page_at posted taken ids h c.self.inside.book place page c.self.invariant.1 lt e.p0 e.p1 e.p2 e.p3 e.p4 e.p5 e.p6 e.p7 in
    let are : c.as_slice-postings.result.now ≡ postings_from (λ x. at_one posted (ids place) x.output) 0 0 h = c.as_slice-postings.ensures.value ∙ is.postings_are in
    let empty : c.new-copies.result.items ≡ [] = cc in
    rw (← c.self.view_is, empty) (through_none (λ x. at_one posted (ids place) x.output) h c.as_slice-postings.result.now c.args.number c.first_posting-k.result c.args.steps.now are c.requires c.first_posting-k.ensures.first)

pub entry-entry-requires : goal.entry-entry-requires
entry-entry-requires g c =
    let posted = g.M.Member.posted in
    let taken = g.M.Member.taken in
    let ids = g.N.Section.ids in
    let place = c.args.to.now.place in
    let h = at c.self.inside.cell.seen.known g.P.Spot.PLACE in
    let page = c.page-page.result.now in
    let e = c.page-page.ensures in
    let lt = inside ids c.self.invariant.1.within place c.args.to.now.id c.args.to.now.stands in
    let is : IsPage posted taken (ids place) h page = page_at posted taken ids h c.self.inside.book place page c.self.invariant.1 lt e.p0 e.p1 e.p2 e.p3 e.p4 e.p5 e.p6 e.p7 in
    let postings = c.as_slice-postings.result.now in
    let through : IsThrough (λ x. at_one posted (ids place) x.output) h postings c.args.number c.loop-k.k c.loop-k.copies.items c.args.steps.now c.loop-k.steps = rw c.self.view_is c.loop-k.invariant in
    let within : c.loop-k.k < length postings = omega arith in
    get_within h (get_or postings c.loop-k.k (0, 0)).0 _ (entry_of (λ x. at_one posted (ids place) x.output) h postings c.loop-k.k through.cut within)

pub returns-in_err-copy_posted-clause-steps : goal.returns-in_err-copy_posted-clause-steps
returns-in_err-copy_posted-clause-steps g c =
    let posted = g.M.Member.posted in
    let taken = g.M.Member.taken in
    let ids = g.N.Section.ids in
    let place = c.args.to.now.place in
    let h = at c.self.inside.cell.seen.known g.P.Spot.PLACE in
    let page = c.page-page.result.now in
    let e = c.page-page.ensures in
    let lt = inside ids c.self.invariant.1.within place c.args.to.now.id c.args.to.now.stands in
    let is : IsPage posted taken (ids place) h page = page_at posted taken ids h c.self.inside.book place page c.self.invariant.1 lt e.p0 e.p1 e.p2 e.p3 e.p4 e.p5 e.p6 e.p7 in
    let postings = c.as_slice-postings.result.now in
    let through : IsThrough (λ x. at_one posted (ids place) x.output) h postings c.args.number c.loop-k.k c.loop-k.copies.items c.args.steps.now c.loop-k.steps = rw c.self.view_is c.loop-k.invariant in
    let within : c.loop-k.k < length postings = omega arith in
    let all = is.posted_is in
    let few = c.requires in
    let some_left : c.args.number < length (passed (λ x. at_one posted (ids place) x.output) h) = omega arith in
    let read = read_more (λ x. at_one posted (ids place) x.output) h postings c.args.number c.first_posting-k.result c.loop-k.k c.requires c.loop-k.auto.k within some_left c.first_posting-k.ensures.later c.args.steps.now c.loop-k.steps c.loop-k.copies.items through in
    let one = c.entry-entry.ensures.steps in
    rw (← c.self.view_is) (omega arith)

pub loop-k-preserved : goal.loop-k-preserved
loop-k-preserved g c =
    let posted = g.M.Member.posted in
    let taken = g.M.Member.taken in
    let ids = g.N.Section.ids in
    let place = c.args.to.now.place in
    let h = at c.self.inside.cell.seen.known g.P.Spot.PLACE in
    let page = c.page-page.result.now in
    let e = c.page-page.ensures in
    let lt = inside ids c.self.invariant.1.within place c.args.to.now.id c.args.to.now.stands in
    let is : IsPage posted taken (ids place) h page = page_at posted taken ids h c.self.inside.book place page c.self.invariant.1 lt e.p0 e.p1 e.p2 e.p3 e.p4 e.p5 e.p6 e.p7 in
    let number = c.args.number in
    let k = c.loop-k.k in
    let postings = c.as_slice-postings.result.now in
    let first = get_or postings k (0, 0) in
    let through : IsThrough (λ x. at_one posted (ids place) x.output) h postings number k c.loop-k.copies.items c.args.steps.now c.loop-k.steps = rw c.self.view_is c.loop-k.invariant in
    let within : k < length postings = omega arith in
    let all = is.posted_is in
    let few = c.requires in
    let some_left : number < length (passed (λ x. at_one posted (ids place) x.output) h) = omega arith in
    let x = c.entry-entry.result.now in
    let this : at_one posted (ids place) x.output ≡ posted c.args.to.now.id x.output = at_this posted (ids place) c.args.to.now.id x.output c.args.to.now.stands in
    let skip : c.saturating_sub-skip.result ≡ number - first.1 = c.saturating_sub-skip.ensures in
    let more : c.copy_posted.new.copies.items ≡ c.loop-k.copies.items ++ drop (number - first.1) (at_one posted (ids place) x.output) =
    c.in_ok-copy_posted.ensures.copies
    ∙ (ap (λ j. c.loop-k.copies.items ++ drop j (posted c.args.to.now.id x.output)) skip
    ∙ ap (λ ms. c.loop-k.copies.items ++ drop (number - first.1) ms) (sym this)) in
    let one = c.entry-entry.ensures.steps in
    rw (add-one, ← c.self.view_is, one)
    (through_more (λ y. at_one posted (ids place) y.output) h postings number c.first_posting-k.result k c.requires c.loop-k.auto.k within some_left c.first_posting-k.ensures.later c.args.steps.now c.loop-k.steps c.loop-k.copies.items c.copy_posted.new.copies.items x through c.entry-entry.ensures.entry more)

pub returns-clause-copies : goal.returns-clause-copies
returns-clause-copies g c =
    let posted = g.M.Member.posted in
    let taken = g.M.Member.taken in
    let ids = g.N.Section.ids in
    let place = c.args.to.now.place in
    let h = at c.self.inside.cell.seen.known g.P.Spot.PLACE in
    let page = c.page-page.result.now in
    let e = c.page-page.ensures in
    let lt = inside ids c.self.invariant.1.within place c.args.to.now.id c.args.to.now.stands in
    let is : IsPage posted taken (ids place) h page = page_at posted taken ids h c.self.inside.book place page c.self.invariant.1 lt e.p0 e.p1 e.p2 e.p3 e.p4 e.p5 e.p6 e.p7 in
    let postings = c.as_slice-postings.result.now in
    let through : IsThrough (λ x. at_one posted (ids place) x.output) h postings c.args.number c.loop-k.k c.loop-k.copies.items c.args.steps.now c.loop-k.steps = rw c.self.view_is c.loop-k.invariant in
    rw (← c.self.view_is) ((through_all (λ x. at_one posted (ids place) x.output) h postings c.args.number c.loop-k.k c.args.steps.now c.loop-k.steps c.loop-k.copies.items (omega arith) through).0)

pub returns-clause-steps : goal.returns-clause-steps
returns-clause-steps g c =
    let posted = g.M.Member.posted in
    let taken = g.M.Member.taken in
    let ids = g.N.Section.ids in
    let place = c.args.to.now.place in
    let h = at c.self.inside.cell.seen.known g.P.Spot.PLACE in
    let page = c.page-page.result.now in
    let e = c.page-page.ensures in
    let lt = inside ids c.self.invariant.1.within place c.args.to.now.id c.args.to.now.stands in
    let is : IsPage posted taken (ids place) h page = page_at posted taken ids h c.self.inside.book place page c.self.invariant.1 lt e.p0 e.p1 e.p2 e.p3 e.p4 e.p5 e.p6 e.p7 in
    let postings = c.as_slice-postings.result.now in
    let through : IsThrough (λ x. at_one posted (ids place) x.output) h postings c.args.number c.loop-k.k c.loop-k.copies.items c.args.steps.now c.loop-k.steps = rw c.self.view_is c.loop-k.invariant in
    rw (← c.self.view_is) ((through_all (λ x. at_one posted (ids place) x.output) h postings c.args.number c.loop-k.k c.args.steps.now c.loop-k.steps c.loop-k.copies.items (omega arith) through).1)
