use Rattle.std.proofs.Common.{◌<◌, ◌≤◌, ◌++◌, length, flat_map, refl, ap, ap₂, ◌∙◌, string_bytes, arith}
use Rattle.std.proofs.lemmas.List.{take_all}
use Rattle.model_members.specs.View.{View}
use Rattle.report_lines.specs.Finals.{member_line}
use Rattle.report_lines.proofs.FinalBlocks.{held_line, grown_by_one, member_told, key_stands}
use Rattle.report_lines.proofs.members.push_member.Goals as goal

pub loop-key-preserved : goal.loop-key-preserved
loop-key-preserved g c = λ kinds logs node stands.
    let states = c.keys-key-items.result.now in
    let here : c.loop-key.key-index < length states = omega (arith, c.loop-key-test.true) in
    grown_by_one (held_line g.T.Replica.data_type node) states c.loop-key.key-index c.key-item.result (string_bytes c.push_member_line.new.text) (string_bytes c.loop-key.text) (string_bytes c.push_key.new.text) _ here c.key-item.is
    (c.loop-key.invariant kinds logs node stands)
    (c.in_ok-push_key.ensures kinds logs (node.entries c.key-item.result.name) (node.flushed c.key-item.result.name)
    (key_stands g.T.Replica.kind_of g.T.Replica.IsDataOf kinds logs c.args.member.now node states c.loop-key.key-index c.key-item.result stands c.keys-key-items.ensures here c.key-item.is)) refl

pub returns : goal.returns
returns g c = λ digest kinds logs node stands.
    let states = c.keys-key-items.result.now in
    let done : length states ≤ c.loop-key.key-index = omega (arith, c.loop-key-test.false) in
    member_told g.T.Replica.kind_of g.T.Replica.IsDataOf kinds logs g.T.Replica.data_type digest c.args.place c.args.member.now node states (string_bytes c.args.text.now) (string_bytes c.push_member_line.new.text) (string_bytes c.loop-key.text) stands c.keys-key-items.ensures
    (c.in_ok-push_member_line.ensures ∙ ap₂ (λ id view. string_bytes c.args.text.now ++ member_line id c.args.place view) (c.number.ensures.value ∙ c.id.ensures) (c.number-2.ensures.number ∙ ap (λ (v : View). v.number) c.view.ensures))
    (c.loop-key.invariant kinds logs node stands ∙ ap (λ ss. string_bytes c.push_member_line.new.text ++ flat_map (held_line g.T.Replica.data_type node) ss) (take_all c.loop-key.key-index states done))
