use Rattle.std.proofs.Common.{◌≡◌, ◌++◌, flat_map, take, string_bytes}
use Rattle.model_history.specs.Texts.{Text}
use Rattle.model_history.specs.History.{History}
use Rattle.model_members.specs.Node.{Node}
use Rattle.model_kinds.specs.declared.shown.Shown.{Shown}
use Rattle.member_node.specs.Members.{StandsForNode}
use Rattle.report_lines.specs.Finals.{key_line}
use Rattle.report_lines.proofs.members.push_member.Given as goal

abbrev pub invariant-loop-key : goal.invariant-loop-key
invariant-loop-key g l =
    (kinds : Text → g.row.T-Kind.Denot) (logs : Text → History g.row.T-Op.Denot) (node : Node g.row.T-Kind.Denot g.row.T-Op.Denot Shown) → StandsForNode g.T.Replica.kind_of g.T.Replica.IsDataOf kinds logs l.member node
    → string_bytes l.text ≡ string_bytes l.initial.text ++ flat_map (λ state. key_line g.T.Replica.data_type state.name state.kind (node.entries state.name)) (take l.key-index l.key-items)
