use Rattle.std.proofs.Common.{◌++◌, [], ◌∷◌, take, sym, ap, ◌∙◌, length, subst, arith, map, flat_map, take_all}
use Rattle.std.proofs.lemmas.Grind.{flat_map-append}
use Rattle.member_node.proofs.Common.{AreMade, delta_groups, IsKeyTick, IsTickedAs, tick_in}
use Rattle.member_node.specs.Replies.{meant_at_key}
use Rattle.member_node.specs.Ticking.{CanTick, IsDue, TellsMore}
use Rattle.member_node.proofs.Lists.{one_more, counted_more, made_more}
use Rattle.member_node.proofs.ticking.tick_all.Goals as goal

pub loop-state-init : goal.loop-state-init
loop-state-init g c = record {
  counted = ap length c.new-ticks.ensures;
  own = λ k d e none. absurd (omega arith);
  image = λ digest kinds logs node ticks due k d e none. absurd (omega arith);
  told = λ digest kinds logs node ticks due. ap (map meant_at_key) c.new-outcomes.ensures;
}

pub key_tick-requires : goal.key_tick-requires
key_tick-requires g c = subst (CanTick g.T.Replica.kind_of c.args.id c.args.removed.now) (sym c.state-item.is) (c.requires c.loop-state.state-index c.state-item.result c.loop-state-test.true)

pub loop-state-preserved : goal.loop-state-preserved
loop-state-preserved g c =
    let R = g.T.Replica in
    let keys = c.args.keys.now in
    let state = c.state-item.result in
    let index = c.loop-state.state-index in
    let within = c.loop-state-test.true in
    let inv = c.loop-state.invariant in
    let pushed = c.in_ok-push.ensures.ok in
    let tick = c.in_ok-tick.tick in
    record {
      counted = counted_more (IsKeyTick R c.args.id) keys c.loop-state.ticks c.push.new.self index state tick within c.state-item.is inv.counted pushed c.in_ok-tick.ensures.own inv.own;
      own = made_more (IsKeyTick R c.args.id) keys c.loop-state.ticks c.push.new.self index state tick within c.state-item.is inv.counted pushed c.in_ok-tick.ensures.own inv.own;
      image = λ digest kinds logs node ticks due.
          let D = delta_groups R.data_type digest in
          let here = subst (IsDue D node R kinds logs c.args.id c.args.removed.now) (sym c.state-item.is) (due index state within) in
          made_more (IsTickedAs D node R logs) keys c.loop-state.ticks c.push.new.self index state tick within c.state-item.is inv.counted pushed (c.in_ok-tick.ensures.image digest kinds logs node ticks here) (inv.image digest kinds logs node ticks due);
      told = λ digest kinds logs node ticks due.
          let D = delta_groups R.data_type digest in
          let here = subst (IsDue D node R kinds logs c.args.id c.args.removed.now) (sym c.state-item.is) (due index state within) in
          c.in_ok-tick.ensures.told digest kinds logs node ticks here
          ∙ ap (λ l. l ++ flat_map (λ s. (tick_in D node s).outcomes) (state ∷ [])) (inv.told digest kinds logs node ticks due)
          ∙ sym (ap (flat_map (λ s. (tick_in D node s).outcomes)) (one_more keys index state within c.state-item.is) ∙ flat_map-append (λ s. (tick_in D node s).outcomes) (take index keys) (state ∷ []));
    }

pub returns : goal.returns
returns g c =
    let inv = c.loop-state.invariant in
    record {
      own = subst (AreMade (IsKeyTick g.T.Replica c.args.id) c.args.keys.now) (sym c.into_vec.ensures) (record { one_each = (let n = inv.counted in omega arith); made = λ k d e within. inv.own k d e (omega arith) });
      image = λ digest kinds logs node ticks due.
          let R = g.T.Replica in
          let image = inv.image digest kinds logs node ticks due in
          subst (AreMade (IsTickedAs (delta_groups R.data_type digest) node R logs) c.args.keys.now) (sym c.into_vec.ensures) (record { one_each = (let n = inv.counted in omega arith); made = λ k d e within. image k d e (omega arith) });
      told = λ digest kinds logs node ticks due.
          subst (λ keys. TellsMore (delta_groups g.T.Replica.data_type digest) node [] keys c.loop-state.outcomes) (take_all c.loop-state.state-index c.args.keys.now (omega arith)) (c.loop-state.invariant.told digest kinds logs node ticks due);
    }
