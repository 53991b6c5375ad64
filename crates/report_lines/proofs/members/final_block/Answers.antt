use Rattle.std.proofs.Common.{◌<◌, ◌≤◌, ◌++◌, length, flat_map, sym, ap, ◌∙◌, string_bytes, arith}
use Rattle.std.proofs.lemmas.List.{take_all}
use Rattle.model_members.specs.Report.{member_text, final_block}
use Rattle.model_kinds.specs.ShownText.{shown_text}
use Rattle.member_node.specs.Members.{delta_groups}
use Rattle.report_lines.specs.Finals.{view_line}
use Rattle.report_lines.proofs.FinalBlocks.{last_is, block_told, grown_by_one}
use Rattle.report_lines.proofs.members.final_block.Goals as goal

pub loop-member-preserved : goal.loop-member-preserved
loop-member-preserved g c = λ digest kinds logs end stands.
    let members = c.members-member-items.result.now in
    let here : c.loop-member.member-index < length members = omega (arith, c.loop-member-test.true) in
    grown_by_one (member_text (delta_groups g.T.Replica.data_type digest) shown_text end) members c.loop-member.member-index c.member-item.result (string_bytes c.push_view_line.new.text) (string_bytes c.loop-member.text) (string_bytes c.push_seat.new.text) _ here c.member-item.is
    (c.loop-member.invariant digest kinds logs end stands) (c.in_ok-push_seat.ensures digest kinds logs end stands) (ap (member_text (delta_groups g.T.Replica.data_type digest) shown_text end) c.member.view_is)

pub returns : goal.returns
returns g c = λ digest kinds logs end stands.
    let members = c.members-member-items.result.now in
    let done : length members ≤ c.loop-member.member-index = omega (arith, c.loop-member-test.false) in
    block_told (delta_groups g.T.Replica.data_type digest) end c.last-view.result.now (string_bytes c.new-text.result) (string_bytes c.push_view_line.new.text) (string_bytes c.loop-member.text)
    (sym (last_is end c.views.result.now (stands.views ∙ sym c.views.ensures)) ∙ sym c.last-view.ensures.last)
    (c.in_ok-push_view_line.ensures ∙ ap (λ n. string_bytes c.new-text.result ++ view_line n) c.number.ensures.number)
    (c.loop-member.invariant digest kinds logs end stands ∙ ap (λ ms. string_bytes c.push_view_line.new.text ++ flat_map (member_text (delta_groups g.T.Replica.data_type digest) shown_text end) ms) (take_all c.loop-member.member-index members done ∙ c.members-member-items.ensures.members))
    ∙ ap (λ t. t ++ final_block (delta_groups g.T.Replica.data_type digest) shown_text end) c.new-text.ensures.bytes
