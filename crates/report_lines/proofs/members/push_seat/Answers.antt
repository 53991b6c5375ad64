use Rattle.std.proofs.Common.{◌≡◌, ◌++◌, sym, subst, string_bytes}
use Rattle.std.specs.Prelude.{OnOk}
use Rattle.member_node.specs.Members.{delta_groups}
use Rattle.world_places.specs.Standing.{StandsForRunning}
use Rattle.report_lines.proofs.FinalBlocks.{running_told}
use Rattle.report_lines.proofs.members.push_seat.Goals as goal

pub returns-in-Some : goal.returns-in-Some
returns-in-Some g c = λ digest kinds logs end stands.
    let runs = subst (λ o. StandsForRunning g.T.SpelledData kinds logs o (end.nodes c.args.id)) (sym c.in-Some.ensures) (stands.running c.args.id) in
    subst (λ t. OnOk c.push_member.result (string_bytes c.push_member.new.text ≡ string_bytes c.args.text.now ++ t))
    (sym (running_told (delta_groups g.T.Replica.data_type digest) end (record { identity = c.args.id; place = c.args.place }) runs.0 runs.1))
    (c.push_member.ensures digest kinds logs runs.0 runs.2)
