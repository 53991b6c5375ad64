use Rattle.std.proofs.Common.{◌≡◌, ◌≤◌, ◌<◌, ◌-◌, ℕ, length, Some, ap, sym, ◌∙◌, subst, arith}
use Rattle.thread_cell.specs.Lists.{at}
use Rattle.thread_cluster.specs.Passing.{posts, takes}
use Rattle.thread_cluster.specs.Sites.{place_of}
use Rattle.thread_cluster.specs.Turning.{HasTurned, HasTurnedTo}
use Rattle.thread_cluster.specs.Books.{IsAllHeard}
use Rattle.thread_cluster.proofs.Lists.{if_ok}
use Rattle.thread_cluster.proofs.Growing.{sees_self, turns_none}
use Rattle.thread_cluster.proofs.Unheard.{all_taken, unheard_number, knew_first}
use Rattle.thread_cluster.proofs.Telling.{inside, turned_none, turned_self, turned_to}
use Rattle.thread_cluster.proofs.cluster.Cluster.hear_at.Goals as goal

pub returns-in_default-clause-ok : goal.returns-in_default-clause-ok
returns-in_default-clause-ok g c =
    λ first are. turned_none g.M.Member.taken g.M.Member.posted g.N.Section.ids (place_of c.args.sender.now) c.args.to first c.args.session.now (sees_self c.args.session.now) c.in_default.ensures.none

pub returns-in_default-clause-steps : goal.returns-in_default-clause-steps
returns-in_default-clause-steps g c = λ first are. omega arith

pub returns-then-from-to-clause-ok : goal.returns-then-from-to-clause-ok
returns-then-from-to-clause-ok g c =
    λ first are. turned_self g.M.Member.taken g.M.Member.posted g.N.Section.ids (place_of c.args.sender.now) c.args.to first c.args.session.now (sees_self c.args.session.now) (sym c.peer.ensures ∙ c.if-from-to.true)

pub returns-then-from-to-clause-steps : goal.returns-then-from-to-clause-steps
returns-then-from-to-clause-steps g c = λ first are. omega arith

pub first_unheard-requires : goal.first_unheard-requires
first_unheard-requires g c =
    (inside g.N.Section.ids c.args.self.now.listed.within c.peer.result.now.place c.peer.result.now.id c.peer.result.now.stands, c.requires.to)

pub returns-in_default-first_unheard-clause-ok : goal.returns-in_default-first_unheard-clause-ok
returns-in_default-first_unheard-clause-ok g c = λ first are.
    let ids = g.N.Section.ids in
    let p = place_of c.args.sender.now in
    let to = c.args.to in
    let heard : IsAllHeard c.args.all.now p to = subst (λ (w : ℕ). IsAllHeard c.args.all.now w to) c.peer.ensures c.in_default-first_unheard.ensures.none in
    record {
      turned = turns_none g.M.Member.taken ids c.args.session.now c.args.session.now (sees_self c.args.session.now);
      heard = λ i j apart one other.
          all_taken g.M.Member.posted g.M.Member.taken ids c.args.all.now p to i j first c.args.session.now.seen.known c.requires.count (inside ids c.args.self.now.listed.within p i one) c.requires.to one other are heard;
    }

pub returns-in_default-first_unheard-clause-steps : goal.returns-in_default-first_unheard-clause-steps
returns-in_default-first_unheard-clause-steps g c = λ first are. omega arith

pub hear_from-requires-clause-number : goal.hear_from-requires-clause-number
hear_from-requires-clause-number g c =
    let ids = g.N.Section.ids in
    let from = c.peer.result.now.place in
    let to = c.args.to in
    let now = c.args.session.now.seen.known in
    let at_to = c.peer-at.ensures ∙ c.in-Some.ensures.some in
    let other = sym (ap ids at_to) ∙ c.peer-at.result.now.stands in
    let lt = inside ids c.args.self.now.listed.within from c.peer.result.now.id c.peer.result.now.stands in
    let told = unheard_number g.M.Member.posted g.M.Member.taken ids c.args.all.now from to c.peer-at.result.now.id c.in-Some-first_unheard.number c.requires.counted.first now lt other c.requires.counted.are c.in-Some-first_unheard.ensures.some in
    subst (λ (w : ℕ). c.in-Some-first_unheard.number ≤ length (takes g.M.Member.taken (ids w) (at now (place_of c.in-Some.receiver)))) c.peer.ensures
    (subst (λ (w : ℕ). c.in-Some-first_unheard.number ≤ length (takes g.M.Member.taken (ids from) (at now w))) (sym c.in-Some.ensures.some) told.0)

pub hear_from-requires-clause-few : goal.hear_from-requires-clause-few
hear_from-requires-clause-few g c =
    let ids = g.N.Section.ids in
    let from = c.peer.result.now.place in
    let to = c.args.to in
    let at_to = c.peer-at.ensures ∙ c.in-Some.ensures.some in
    let other = sym (ap ids at_to) ∙ c.peer-at.result.now.stands in
    let lt = inside ids c.args.self.now.listed.within from c.peer.result.now.id c.peer.result.now.stands in
    (unheard_number g.M.Member.posted g.M.Member.taken ids c.args.all.now from to c.peer-at.result.now.id c.in-Some-first_unheard.number c.requires.counted.first c.args.session.now.seen.known lt other c.requires.counted.are c.in-Some-first_unheard.ensures.some).1

pub returns-clause-ok : goal.returns-clause-ok
returns-clause-ok g c =
    let ids = g.N.Section.ids in
    let p = place_of c.args.sender.now in
    let q = place_of c.in-Some.receiver in
    let lt = inside ids c.args.self.now.listed.within c.peer.result.now.place c.peer.result.now.id c.peer.result.now.stands in
    let one = sym (ap ids c.peer.ensures) ∙ c.peer.result.now.stands in
    if_ok c.hear_from.result (λ n. HasTurned g.M.Member.taken g.M.Member.posted ids p q n c.args.session.now c.hear_from.new.session) _
    (λ n t first are.
    subst (λ w. HasTurnedTo g.M.Member.taken g.M.Member.posted ids p w n first c.args.session.now c.hear_from.new.session) c.in-Some.ensures.some
    (turned_to g.M.Member.taken g.M.Member.posted ids p q n first c.args.session.now c.hear_from.new.session
    (knew_first g.M.Member.posted g.M.Member.taken ids c.args.all.now p c.peer.result.now.id first c.args.session.now.seen.known (let l = c.requires.count in let e = c.peer.ensures in omega arith) one are) t))
    c.hear_from.ensures.ok

pub returns-clause-steps : goal.returns-clause-steps
returns-clause-steps g c = λ first are.
    let ids = g.N.Section.ids in
    let posted = g.M.Member.posted in
    let taken = g.M.Member.taken in
    let from = c.peer.result.now.place in
    let p = place_of c.args.sender.now in
    let to = c.args.to in
    let new = c.hear_from.new.session.seen.known in
    let at_to = c.peer-at.ensures ∙ c.in-Some.ensures.some in
    let other = sym (ap ids at_to) ∙ c.peer-at.result.now.stands in
    let lt = inside ids c.args.self.now.listed.within from c.peer.result.now.id c.peer.result.now.stands in
    let told = unheard_number posted taken ids c.args.all.now from to c.peer-at.result.now.id c.in-Some-first_unheard.number first c.args.session.now.seen.known lt other are c.in-Some-first_unheard.ensures.some in
    let least = told.2 in
    let same_takes = ap (λ (w : ℕ). length (takes taken (ids w) (at first to))) c.peer.ensures in
    let same_posts = ap (λ (w : ℕ). length (posts posted (ids w) (at new p))) c.in-Some.ensures.some in
    let read = c.hear_from.ensures.steps in omega arith
