use Rattle.std.proofs.Common.{◌<◌, ◌≤◌, length, flat_map, subst, ◌∙◌, ap, arith}
use Rattle.std.proofs.lemmas.List.{take_all}
use Rattle.trace_entries.specs.Seeing.{Sees}
use Rattle.trace_entries.proofs.SeenLines.{sees_nothing, sees_next, formed_both}
use Rattle.trace_members.proofs.SeenMembers.{key_seen, node_seen, stands_at}
use Rattle.trace_members.proofs.members.see_node.Goals as goal

pub loop-key-init : goal.loop-key-init
loop-key-init g c = (λ D kinds logs member same stands. sees_nothing c.args.recorder.now, λ formed. formed)

pub loop-key-preserved : goal.loop-key-preserved
loop-key-preserved g c =
    let states = c.keys-key-items.result.now in
    let here : c.loop-key.key-index < length states = omega (arith, c.loop-key-test.true) in (
      λ D kinds logs member same stands.
          sees_next (key_seen D c.args.look c.args.at member) states c.loop-key.key-index c.key-item.result c.args.recorder.now c.loop-key.recorder c.see_key.new.recorder here c.key-item.is
          (c.loop-key.invariant.0 D kinds logs member same stands)
          (c.in_ok-see_key.ensures.saw D kinds logs (member.entries c.key-item.result.name) (member.flushed c.key-item.result.name) same
          (stands_at g.T.Replica.kind_of g.T.Replica.IsDataOf kinds logs c.args.node.now member states c.loop-key.key-index c.key-item.result stands c.keys-key-items.ensures here c.key-item.is)),
      formed_both c.args.recorder.now c.loop-key.recorder c.see_key.new.recorder c.loop-key.invariant.1 c.in_ok-see_key.ensures.formed,
    )

pub returns-clause-saw : goal.returns-clause-saw
returns-clause-saw g c = λ D kinds logs member same stands.
    let states = c.keys-key-items.result.now in
    let done : length states ≤ c.loop-key.key-index = omega (arith, c.loop-key-test.false) in
    subst (Sees c.args.recorder.now c.loop-key.recorder)
    (ap (flat_map (key_seen D c.args.look c.args.at member)) (take_all c.loop-key.key-index states done)
    ∙ node_seen D c.args.look c.args.at g.T.Replica.kind_of g.T.Replica.IsDataOf kinds logs c.args.node.now member states stands c.keys-key-items.ensures)
    (c.loop-key.invariant.0 D kinds logs member same stands)

pub returns-clause-formed : goal.returns-clause-formed
returns-clause-formed g c = c.loop-key.invariant.1
