use Rattle.std.proofs.Common.{◌≡◌, ◌∷◌, length, ap, subst, arith, refl}
use Rattle.thread_cell.specs.Lists.{at}
use Rattle.thread_cluster.specs.Passing.{posts, takes, AreCopies}
use Rattle.thread_cluster.proofs.Posts.{next_copy, copies_taken}
use Rattle.thread_cluster.proofs.Growing.{turns_none, turns_more, sees_self}
use Rattle.thread_cluster.proofs.locked.Locked.take_all.Goals as goal

pub loop-message-init : goal.loop-message-init
loop-message-init g c = record {
  copies = c.requires.copies;
  all = refl;
  few = omega arith;
  grown = omega arith;
  alike = c.requires.alike;
  turned = turns_none g.M.Member.taken g.N.Section.ids c.args.session.now c.args.session.now (sees_self c.args.session.now);
  table = c.requires.table;
}

pub take-requires-clause-next : goal.take-requires-clause-next
take-requires-clause-next g c =
    let p = g.P.Spot.PLACE in
    let q = c.args.from.now.place in
    let known = c.loop-message.self.seen.known in
    next_copy g.M.Member.posted g.M.Member.taken g.N.Section.ids q c.in-Some.message c.pop_front.new.self.items p known
    (subst (λ w. AreCopies (length (takes g.M.Member.taken (g.N.Section.ids q) (at known p))) w (posts g.M.Member.posted (g.N.Section.ids p) (at known q))) c.in-Some.ensures.items c.loop-message.invariant.copies)

pub loop-message-preserved : goal.loop-message-preserved
loop-message-preserved g c =
    let p = g.P.Spot.PLACE in
    let q = c.args.from.now.place in
    let known = c.loop-message.self.seen.known in
    let inv = c.loop-message.invariant in
    let t = c.in_ok-take.ensures.ok in
    let one : length c.loop-message.copies.items ≡ length (c.in-Some.message ∷ c.pop_front.new.self.items) = ap length c.in-Some.ensures.items in
    let count = t.count in
    let grown = t.grown in
    let all = inv.all in
    let few = inv.few in
    let so_far = inv.grown in record {
      copies = copies_taken g.M.Member.posted g.M.Member.taken g.N.Section.ids q c.in-Some.message c.pop_front.new.self.items p known c.take.new.self.seen.known t.more t.count
          (subst (λ w. AreCopies (length (takes g.M.Member.taken (g.N.Section.ids q) (at known p))) w (posts g.M.Member.posted (g.N.Section.ids p) (at known q))) c.in-Some.ensures.items inv.copies);
      all = omega arith;
      few = omega arith;
      grown = omega arith;
      alike = t.alike;
      turned = turns_more g.M.Member.taken g.N.Section.ids c.loop-message.taken 1 c.args.session.now c.loop-message.session c.take.new.session inv.turned t.turned;
      table = c.in_ok-take.ensures.table;
    }
