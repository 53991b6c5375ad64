use Rattle.std.proofs.Common.{take, sym, subst, arith, map, take_all}
use Rattle.std.specs.List.{AllZip}
use Rattle.member_node.proofs.Common.{StandsForKeyed, StandsForKeyedGroup, state_in, IsHeldBy}
use Rattle.member_node.specs.Sending.{groups_of, entries_of}
use Rattle.member_node.proofs.Sendings.{groups_of-more, entries_of-more, deltas_are}
use Rattle.member_node.proofs.sending.deltas.Goals as goal

pub loop-state-preserved : goal.loop-state-preserved
loop-state-preserved g c = λ D kinds logs node keeps held.
    let R = g.T.Replica in
    let keys = c.args.keys.now in
    let i = c.loop-state.state-index in
    let state = c.state-item.result in
    let inv = c.loop-state.invariant D kinds logs node keeps held in
    let h = subst (IsHeldBy R.kind_of R.IsDataOf R.IsDeltaOf kinds logs c.args.id node) (sym c.state-item.is) (held i state c.loop-state-test.true) in (
      subst (AllZip (StandsForKeyedGroup {ghosts = R} kinds logs) c.add_deltas.new.groups) (sym (groups_of-more D node c.args.peer keys i state c.loop-state-test.true c.state-item.is))
          (c.in_ok-add_deltas.ensures.groups D kinds logs node (groups_of D node c.args.peer (map (state_in node) (take i keys))) keeps h inv.0),
      subst (AllZip (StandsForKeyed R.kind_of R.IsDataOf kinds logs) c.add_deltas.new.entries) (sym (entries_of-more D node c.args.peer keys i state c.loop-state-test.true c.state-item.is))
          (c.in_ok-add_deltas.ensures.entries D kinds logs node (entries_of D node c.args.peer (map (state_in node) (take i keys))) keeps h inv.1),
    )

pub returns : goal.returns
returns g c = λ D kinds logs node keeps held declares.
    let R = g.T.Replica in
    let keys = c.args.keys.now in
    let inv = c.loop-state.invariant D kinds logs node keeps held in
    let all = take_all c.loop-state.state-index keys (omega arith) in
    record {
      sent_groups = groups_of D node c.args.peer (map (state_in node) keys);
      sent_entries = entries_of D node c.args.peer (map (state_in node) keys);
      is = deltas_are node keys declares D c.args.peer;
      groups_stand = subst (λ ks. AllZip (StandsForKeyedGroup {ghosts = R} kinds logs) c.loop-state.groups (groups_of D node c.args.peer (map (state_in node) ks))) all inv.0;
      entries_stand = subst (λ ks. AllZip (StandsForKeyed R.kind_of R.IsDataOf kinds logs) c.loop-state.entries (entries_of D node c.args.peer (map (state_in node) ks))) all inv.1;
    }
