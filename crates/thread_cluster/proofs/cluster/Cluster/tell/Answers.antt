use Rattle.std.proofs.Common.{◌≡◌, ◌≤◌, ◌+◌, ℕ, subst, ap, arith}
use Rattle.thread_cluster.specs.Knowing.{KnowsMore}
use Rattle.thread_cluster.specs.Turning.{HasTurnedTo, HasTold}
use Rattle.thread_cluster.specs.Books.{unheard_from, unheard_to}
use Rattle.thread_cluster.proofs.Lists.{on_err_always}
use Rattle.thread_cluster.proofs.Growing.{sees_self, turns_none, turns_more, begun_after}
use Rattle.thread_cluster.proofs.Unheard.{to_grows, to_more, to_within, counted_grows, were_grows}
use Rattle.thread_cluster.proofs.Telling.{told_none, told_nobody, told_more}
use Rattle.thread_cluster.proofs.cluster.Cluster.tell.Goals as goal

pub returns-in_default-clause-ok : goal.returns-in_default-clause-ok
returns-in_default-clause-ok g c =
    λ first are. told_nobody g.M.Member.taken g.M.Member.posted g.N.Section.ids c.args.from first c.args.session.now (sees_self c.args.session.now) c.in_default.ensures.none

pub returns-in_default-clause-steps : goal.returns-in_default-clause-steps
returns-in_default-clause-steps g c = λ first are. omega arith

pub loop-to-init : goal.loop-to-init
loop-to-init g c = record {
  turned = turns_none g.M.Member.taken g.N.Section.ids c.args.session.now c.args.session.now (sees_self c.args.session.now);
  told = λ first are. told_none g.M.Member.taken g.M.Member.posted g.N.Section.ids c.args.from first c.args.session.now (sees_self c.args.session.now);
  steps = λ first are. omega arith;
  few = omega arith;
  counted = c.requires.counted;
  table = c.requires.table;
}

pub returns-in_err-taken-clause-err : goal.returns-in_err-taken-clause-err
returns-in_err-taken-clause-err g c =
    on_err_always c.from_residual.result _ (begun_after g.M.Member.taken g.N.Section.ids c.loop-to.taken c.args.session.now c.loop-to.session c.hear_at.new.session c.loop-to.invariant.turned c.in_err-taken.ensures.err)

pub returns-in_err-taken-clause-steps : goal.returns-in_err-taken-clause-steps
returns-in_err-taken-clause-steps g c = λ first are.
    let posted = g.M.Member.posted in
    let taken = g.M.Member.taken in
    let ids = g.N.Section.ids in
    let from = c.args.from in
    let to = c.loop-to.to in
    let now = c.loop-to.session.seen.known in
    let later = c.hear_at.new.session.seen.known in
    let begun = c.in_err-taken.ensures.err in
    let so_far = c.loop-to.invariant.steps first are in
    let grown = to_grows posted taken ids from to first now later begun.turned.goes_on.knows in
    let here = c.hear_at.ensures.steps first (counted_grows posted taken ids c.args.all.now first c.args.session.now.seen.known now c.loop-to.invariant.turned.goes_on.knows are) in
    let place = ap (λ (w : ℕ). unheard_from posted taken ids w to first later) c.in-Some.ensures.some in
    let more = to_more posted taken ids from to first later in
    let lt = c.loop-to-test.true in
    let all = to_within posted taken ids from (to + 1) 8 first later (omega arith) in omega arith

pub loop-to-preserved : goal.loop-to-preserved
loop-to-preserved g c =
    let posted = g.M.Member.posted in
    let taken = g.M.Member.taken in
    let ids = g.N.Section.ids in
    let from = c.args.from in
    let to = c.loop-to.to in
    let n = c.in_ok-taken.field-0 in
    let now = c.loop-to.session in
    let later = c.hear_at.new.session in
    let inv = c.loop-to.invariant in
    let sofar = inv.turned.goes_on.knows in
    let few = inv.few in
    let more = c.in_ok-taken.ensures.few in
    let were = c.requires.counted in
    let turned = c.in_ok-taken.ensures.ok were.first (counted_grows posted taken ids c.args.all.now were.first c.args.session.now.seen.known now.seen.known sofar were.are) in
    let knows = turned.turned.goes_on.knows in
    record {
      turned = turns_more taken ids c.loop-to.taken n c.args.session.now now later inv.turned turned.turned;
      told = λ first are.
          let one = c.in_ok-taken.ensures.ok first (counted_grows posted taken ids c.args.all.now first c.args.session.now.seen.known now.seen.known sofar are) in
          told_more taken posted ids from to c.loop-to.taken n first c.args.session.now now later (inv.told first are)
          (subst (λ w. HasTurnedTo taken posted ids w to n first now later) c.in-Some.ensures.some one);
      steps = λ first are.
          let so_far = inv.steps first are in
          let grown = to_grows posted taken ids from to first now.seen.known later.seen.known knows in
          let here = c.hear_at.ensures.steps first (counted_grows posted taken ids c.args.all.now first c.args.session.now.seen.known now.seen.known sofar are) in
          let place = ap (λ (w : ℕ). unheard_from posted taken ids w to first later.seen.known) c.in-Some.ensures.some in
          let next = to_more posted taken ids from to first later.seen.known in omega arith;
      few = omega arith;
      counted = were_grows posted taken ids c.args.all.now now.seen.known later.seen.known knows inv.counted;
      table = c.in_ok-taken.ensures.table;
    }

pub returns-clause-ok : goal.returns-clause-ok
returns-clause-ok g c = λ first are.
    let all : c.loop-to.to ≡ 8 = let a = c.loop-to-test.false in let b = c.loop-to.auto.to-end in omega arith in
    subst (λ (k : ℕ). HasTold g.M.Member.taken g.M.Member.posted g.N.Section.ids c.args.from k c.loop-to.taken first c.args.session.now c.loop-to.session) all (c.loop-to.invariant.told first are)

pub returns-clause-steps : goal.returns-clause-steps
returns-clause-steps g c = λ first are.
    let all : c.loop-to.to ≡ 8 = let a = c.loop-to-test.false in let b = c.loop-to.auto.to-end in omega arith in
    let last = ap (λ (k : ℕ). unheard_to g.M.Member.posted g.M.Member.taken g.N.Section.ids c.args.from k first c.loop-to.session.seen.known) all in
    let so_far = c.loop-to.invariant.steps first are in omega arith
