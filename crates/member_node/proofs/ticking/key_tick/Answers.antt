use Rattle.std.proofs.Common.{◌++◌, [], ◌≢◌, None, take, length, refl, sym, ap, ◌∙◌, subst, arith, map, nat_lt, append-nil, take_all}
use Rattle.std.specs.List.{list_any}
use Rattle.member_node.proofs.Common.{IsPartOf, number_at, StandsFor, parts_of, KeyTick, delta_groups, state_in, tick_in}
use Rattle.model_members.specs.Step.{Ticking}
use Rattle.member_node.specs.Replies.{meant_at_key}
use Rattle.member_node.specs.Ticking.{IsInCourse}
use Rattle.member_node.proofs.Ticks.{part_before, own_first, course_first, own_last, own_none, ticked_last, ticked_none, course_after, after_more}
use Rattle.member_node.proofs.ticking.key_tick.Goals as goal

pub loop-identity-init : goal.loop-identity-init
loop-identity-init g c =
    let R = g.T.Replica in
    let state = c.args.state.now in
    let is = c.in_ok-entry.ensures ∙ c.envelope-held.ensures in
    let none = c.new-prunes.ensures in
    record {
      own = own_first state _ R.kind_of c.args.id c.args.removed.now c.requires is none;
      few = (let e = ap length none in omega arith);
      course = λ digest kinds logs node ticks held part. (
        course_first state _ R (logs state.name) (node.entries state.name) held.held.held.image held.held.logged is (c.in_ok-known.ensures.image (logs state.name) (node.entries state.name) (subst (λ e. StandsFor R.IsDataOf (parts_of e) (logs state.name) (node.entries state.name)) (sym c.envelope-held.ensures) held.held.held.image)) none,
        sym (append-nil (map meant_at_key c.args.outcomes.now)),
      );
    }

pub tick-requires-clause-other : goal.tick-requires-clause-other
tick-requires-clause-other g c = λ same. subst (λ r. r ≢ c.args.id) (sym c.identity-item.is) (c.requires.others c.loop-identity.identity-index c.identity-item.result c.loop-identity-test.true) same

pub tick-requires-clause-own : goal.tick-requires-clause-own
tick-requires-clause-own g c = c.loop-identity.invariant.own

pub tick-requires-clause-room : goal.tick-requires-clause-room
tick-requires-clause-room g c =
    let n = c.loop-identity.invariant.own.number in
    let few = c.loop-identity.invariant.few in
    let more = c.requires.few in
    let small = c.requires.small in
    let within = c.loop-identity-test.true in
    omega (arith, n, few, more, small, within)

pub loop-identity-preserved : goal.loop-identity-preserved
loop-identity-preserved g c =
    let R = g.T.Replica in
    let state = c.args.state.now in
    let removed = c.args.removed.now in
    let index = c.loop-identity.identity-index in
    let r = c.identity-item.result in
    let ensures = c.in_ok-tick.ensures in
    record {
      own = ensures.own;
      few = (let a = ensures.few in let b = c.loop-identity.invariant.few in omega (arith, a, b));
      course = λ digest kinds logs node ticks held part.
          let D = delta_groups R.data_type digest in
          let log = logs state.name in
          let so_far = course_after D node state (take index removed) in
          let next = after_more D node state removed index r c.loop-identity-test.true c.identity-item.is in
          let here = subst (λ (n : Ticking g.row.T-Op.Denot). IsPartOf n.entry.history log) next part in
          let inv = c.loop-identity.invariant.course digest kinds logs node ticks held (part_before D node (state_in node state) log so_far r here) in (
            subst (λ (n : Ticking g.row.T-Op.Denot). IsInCourse R log state n c.tick.new.self) (sym next) (ensures.image digest log node so_far held.own.origin ticks inv.0 here),
            ensures.told digest log node so_far ticks inv.0 (map meant_at_key c.args.outcomes.now) inv.1 ∙ ap (λ (n : Ticking g.row.T-Op.Denot). map meant_at_key c.args.outcomes.now ++ n.outcomes) (sym next),
          );
    }

pub returns : goal.returns
returns g c =
    let R = g.T.Replica in
    let state = c.args.state.now in
    record {
      own = own_last c.args.state.now c.loop-identity.ticking g.T.Replica c.args.id c.args.removed.now _ c.requires c.loop-identity.invariant.own (let few = c.loop-identity.invariant.few in omega (arith, few)) refl c.into_vec.ensures;
      image = λ digest kinds logs node ticks due.
          let removed = due.gone in
          let held = due.held in
          let part = due.log in
          let D = delta_groups R.data_type digest in
          let all = take_all c.loop-identity.identity-index c.args.removed.now (omega arith) ∙ sym removed in
          let here = subst (λ (n : Ticking g.row.T-Op.Denot). IsPartOf n.entry.history (logs state.name)) (sym (ap (course_after D node state) all)) part in
          ticked_last state c.loop-identity.ticking R D node logs _ _ all (c.loop-identity.invariant.course digest kinds logs node ticks held here).0 refl c.into_vec.ensures;
      told = λ digest kinds logs node ticks due.
          let removed = due.gone in
          let held = due.held in
          let part = due.log in
          let D = delta_groups R.data_type digest in
          let all = take_all c.loop-identity.identity-index c.args.removed.now (omega arith) ∙ sym removed in
          let here = subst (λ (n : Ticking g.row.T-Op.Denot). IsPartOf n.entry.history (logs state.name)) (sym (ap (course_after D node state) all)) part in
          (c.loop-identity.invariant.course digest kinds logs node ticks held here).1
          ∙ ap (λ (n : Ticking g.row.T-Op.Denot). map meant_at_key c.args.outcomes.now ++ n.outcomes) (ap (course_after D node state) all) ∙ ap (λ l. map meant_at_key c.args.outcomes.now ++ l) (sym (append-nil (tick_in D node state).outcomes));
    }

pub returns-then-not-knows_any : goal.returns-then-not-knows_any
returns-then-not-knows_any g c = record {
  own = own_none g.T.Replica c.args.id c.args.removed.now c.args.state.now _ c.requires refl c.new.ensures.items;
  image = λ digest kinds logs node ticks due.
      let removed = due.gone in
      let held = due.held in
      let part = due.log in
      (ticked_none g.T.Replica digest kinds logs node c.args.state.now c.args.id c.args.view c.args.members.now ticks held _ c.args.removed.now (sym removed) (ap (λ entry. list_any (λ r. nat_lt 0 (number_at entry.versions r)) c.args.removed.now) (sym c.envelope-held.ensures) ∙ sym c.knows_any.ensures ∙ c.if-not-knows_any.true) refl c.new.ensures.items).0;
  told = λ digest kinds logs node ticks due.
      let removed = due.gone in
      let held = due.held in
      let part = due.log in
      let tick : KeyTick g.row.T.Denot g.row.T-Kind.Denot g.row.T-Op.Denot g.row.T-Delta.Denot = record { entry = None; prunes = c.new.result } in
      let none = (ticked_none g.T.Replica digest kinds logs node c.args.state.now c.args.id c.args.view c.args.members.now ticks held tick c.args.removed.now (sym removed) (ap (λ entry. list_any (λ r. nat_lt 0 (number_at entry.versions r)) c.args.removed.now) (sym c.envelope-held.ensures) ∙ sym c.knows_any.ensures ∙ c.if-not-knows_any.true) refl c.new.ensures.items).1 in
      sym (ap (λ l. map meant_at_key c.args.outcomes.now ++ (l ++ [])) none ∙ append-nil (map meant_at_key c.args.outcomes.now));
}
