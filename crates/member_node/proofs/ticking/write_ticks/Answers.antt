use Rattle.std.proofs.Common.{◌≡◌, ◌<◌, ◌+◌, ◌≤◌, length, take, get_or, refl, sym, ap, ◌∙◌, subst, arith, vec_len, length-set, take_all}
use Rattle.member_node.proofs.Common.{ticked}
use Rattle.member_node.specs.Planning.{CanFollow}
use Rattle.member_node.proofs.Lists.{still_unwritten, written_more, last_left, rest_left}
use Rattle.member_node.proofs.ticking.write_ticks.Goals as goal

pub loop-tick-init : goal.loop-tick-init
loop-tick-init g c = record {
  same_length = refl;
  few = omega (arith, c.requires.one_each, c.args.ticks.ok.0);
  left = sym (take_all (vec_len c.args.ticks) c.args.ticks.items (omega (arith, c.args.ticks.ok.0)));
  unwritten = λ k d below. refl;
  written = λ k d e above inside. absurd (omega (arith, c.requires.one_each, c.args.ticks.ok.0));
}

pub loop-tick-preserved : goal.loop-tick-preserved
loop-tick-preserved g c =
    let inv = c.loop-tick.invariant in
    let n = c.len-index.result in
    let m = vec_len c.loop-tick.ticks in
    let popped = c.in-Some.ensures in
    let now = vec_len c.pop.new.self in
    let place : n ≡ now = c.len-index.ensures in
    let counted : m ≡ n + 1 = (let e : now + 1 ≡ m = popped.len in omega arith) in
    let first = c.args.keys.now in
    let within : n < length first = (let few = inv.few in omega arith) in
    let taken = last_left c.loop-tick.ticks.items c.args.ticks.items n m c.in-Some.tick counted inv.left (λ d. popped.value d (omega arith)) in
    let written = c.write_at.ensures in
    record {
      same_length = ap length written.2 ∙ length-set c.loop-tick.keys n (ticked written.0 c.in-Some.tick) ∙ inv.same_length;
      few = (let few = inv.few in omega arith);
      left = rest_left c.loop-tick.ticks.items c.args.ticks.items c.pop.new.self.items n m counted inv.left popped.rest ∙ ap (λ k. take k c.args.ticks.items) place;
      unwritten = λ k d below. ap (λ xs. get_or xs k d) written.2 ∙
          still_unwritten ticked first c.loop-tick.keys c.args.ticks.items n (ticked written.0 c.in-Some.tick) written.0 c.in-Some.tick within inv.same_length
          (λ k d below. inv.unwritten k d (subst (λ j. k < j) (sym counted) below)) (λ k d e above. inv.written k d e (subst (λ j. j ≤ k) (sym counted) above)) written.1 refl taken k d (subst (λ j. k < j) (sym place) below);
      written = λ k d e above inside. ap (λ xs. get_or xs k d) written.2 ∙
          written_more ticked first c.loop-tick.keys c.args.ticks.items n (ticked written.0 c.in-Some.tick) written.0 c.in-Some.tick within inv.same_length
          (λ k d below. inv.unwritten k d (subst (λ j. k < j) (sym counted) below)) (λ k d e above. inv.written k d e (subst (λ j. j ≤ k) (sym counted) above)) written.1 refl taken k d e (subst (λ j. j ≤ k) (sym place) above) inside;
    }

pub returns : goal.returns
returns g c = record {
  same_length = c.loop-tick.invariant.same_length;
  each = λ k d e within. c.loop-tick.invariant.written k d e (let none = c.in_default.ensures.cases in omega (arith, none)) within;
}

pub write_at-requires-clause-follows : goal.write_at-requires-clause-follows
write_at-requires-clause-follows g c = λ d.
    let inv = c.loop-tick.invariant in
    let n = c.len-index.result in
    let m = vec_len c.loop-tick.ticks in
    let popped = c.in-Some.ensures in
    let now = vec_len c.pop.new.self in
    let counted : m ≡ n + 1 = (let place = c.len-index.ensures in let e : now + 1 ≡ m = popped.len in omega arith) in
    let within : n < length c.args.keys.now = (let few = inv.few in omega arith) in
    let taken = last_left c.loop-tick.ticks.items c.args.ticks.items n m c.in-Some.tick counted inv.left (λ e. popped.value e (omega arith)) in
    subst (λ tick. CanFollow g.T.Replica (get_or c.loop-tick.keys n d) tick) (sym (taken c.in-Some.tick))
    (subst (λ state. CanFollow g.T.Replica state (get_or c.args.ticks.items n c.in-Some.tick)) (sym (inv.unwritten n d (omega arith))) (c.requires.made n d c.in-Some.tick within))
