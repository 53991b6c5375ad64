use Rattle.std.proofs.Common.{◌≡◌, ◌≤◌, ◌+◌, ℕ, ap, sym, subst, arith}
use Rattle.thread_cluster.specs.Turning.{HaveTold}
use Rattle.thread_cluster.specs.Books.{AreCounted, unheard_of}
use Rattle.thread_cluster.proofs.Lists.{on_err_always}
use Rattle.thread_cluster.proofs.Growing.{begun_here, begun_after}
use Rattle.thread_cluster.proofs.Unheard.{of_grows, of_more, of_within, unheard_is, counted_grows}
use Rattle.thread_cluster.proofs.Telling.{have_told_none, have_told_more, turned_all}
use Rattle.thread_cluster.proofs.cluster.Cluster.turn_all.Goals as goal

pub returns-in_default-clause-err : goal.returns-in_default-clause-err
returns-in_default-clause-err g c = begun_here g.M.Member.taken g.N.Section.ids c.args.session.now c.all_counts.new.session c.all_counts.ensures.sees

pub returns-in_default-clause-cause : goal.returns-in_default-clause-cause
returns-in_default-clause-cause g c = tt

pub loop-from-init : goal.loop-from-init
loop-from-init g c = record {
  told = have_told_none g.M.Member.taken g.M.Member.posted g.N.Section.ids c.args.session.now.seen.known c.args.session.now c.all_counts.new.session c.all_counts.ensures.sees;
  steps = omega arith;
  few = omega arith;
  counted = subst (λ w. AreCounted g.M.Member.posted g.M.Member.taken g.N.Section.ids w c.args.session.now.seen.known c.all_counts.new.session.seen.known) (sym c.as_slice-counts.ensures.value) c.in-Ok.ensures.counted;
  table = c.all_counts.ensures.table;
}

pub tell-requires-clause-counted : goal.tell-requires-clause-counted
tell-requires-clause-counted g c = record { first = c.args.session.now.seen.known; are = c.loop-from.invariant.counted }

pub returns-in_err-taken-clause-err : goal.returns-in_err-taken-clause-err
returns-in_err-taken-clause-err g c =
    on_err_always c.from_residual.result _ (begun_after g.M.Member.taken g.N.Section.ids c.loop-from.taken c.args.session.now c.loop-from.session c.tell.new.session c.loop-from.invariant.told.turned c.in_err-taken.ensures.err)

pub returns-in_err-taken-clause-steps : goal.returns-in_err-taken-clause-steps
returns-in_err-taken-clause-steps g c =
    let posted = g.M.Member.posted in
    let taken = g.M.Member.taken in
    let ids = g.N.Section.ids in
    let first = c.args.session.now.seen.known in
    let from = c.loop-from.from in
    let later = c.tell.new.session.seen.known in
    let begun = c.in_err-taken.ensures.err in
    let so_far = c.loop-from.invariant.steps in
    let grown = of_grows posted taken ids from first c.loop-from.session.seen.known later begun.turned.goes_on.knows in
    let here = c.tell.ensures.steps first c.loop-from.invariant.counted in
    let more = of_more posted taken ids from first later in
    let lt = c.loop-from-test.true in
    let all = of_within posted taken ids (from + 1) 8 first later (omega arith) in
    let is = unheard_is posted taken ids first later in omega arith

pub loop-from-preserved : goal.loop-from-preserved
loop-from-preserved g c =
    let posted = g.M.Member.posted in
    let taken = g.M.Member.taken in
    let ids = g.N.Section.ids in
    let first = c.args.session.now.seen.known in
    let from = c.loop-from.from in
    let now = c.loop-from.session in
    let later = c.tell.new.session in
    let inv = c.loop-from.invariant in
    let told = c.in_ok-taken.ensures.ok first inv.counted in
    let few = inv.few in
    let more = c.in_ok-taken.ensures.few in
    let so_far = inv.steps in
    let grown = of_grows posted taken ids from first now.seen.known later.seen.known told.turned.goes_on.knows in
    let here = c.tell.ensures.steps first inv.counted in
    let next = of_more posted taken ids from first later.seen.known in
    record {
      told = have_told_more taken posted ids c.facts.ensures.within from c.loop-from.taken c.in_ok-taken.field-0 first c.args.session.now now later inv.told told;
      steps = omega arith;
      few = omega arith;
      counted = counted_grows posted taken ids c.as_slice-counts.result.now first now.seen.known later.seen.known told.turned.goes_on.knows inv.counted;
      table = c.in_ok-taken.ensures.table;
    }

pub returns-clause-ok : goal.returns-clause-ok
returns-clause-ok g c =
    let all : c.loop-from.from ≡ 8 = let a = c.loop-from-test.false in let b = c.loop-from.auto.from-end in omega arith in
    turned_all g.M.Member.taken g.M.Member.posted g.N.Section.ids c.facts.ensures.within c.loop-from.taken c.args.session.now c.loop-from.session
    (subst (λ (k : ℕ). HaveTold g.M.Member.taken g.M.Member.posted g.N.Section.ids k c.loop-from.taken c.args.session.now.seen.known c.args.session.now c.loop-from.session) all c.loop-from.invariant.told)

pub returns-clause-steps : goal.returns-clause-steps
returns-clause-steps g c =
    let all : c.loop-from.from ≡ 8 = let a = c.loop-from-test.false in let b = c.loop-from.auto.from-end in omega arith in
    let last = ap (λ (k : ℕ). unheard_of g.M.Member.posted g.M.Member.taken g.N.Section.ids k c.args.session.now.seen.known c.loop-from.session.seen.known) all in
    let is = unheard_is g.M.Member.posted g.M.Member.taken g.N.Section.ids c.args.session.now.seen.known c.loop-from.session.seen.known in
    let so_far = c.loop-from.invariant.steps in omega arith
