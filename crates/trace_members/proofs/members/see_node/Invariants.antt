use Rattle.std.proofs.Common.{◌≡◌, flat_map, take}
use Rattle.model_history.specs.Texts.{Text}
use Rattle.model_history.specs.History.{History}
use Rattle.model_members.specs.DataType.{Replication}
use Rattle.model_members.specs.Node.{Node}
use Rattle.model_kinds.specs.declared.kind.Kind.{Kind}
use Rattle.model_kinds.specs.declared.operation.Op.{Op}
use Rattle.model_kinds.specs.declared.shown.Shown.{Shown}
use Rattle.member_node.specs.Members.{StandsForNode}
use Rattle.trace_recorder.specs.Saw.{IsFormed}
use Rattle.trace_entries.specs.Seeing.{Sees}
use Rattle.trace_members.proofs.SeenMembers.{key_seen}
use Rattle.trace_members.proofs.members.see_node.Given as goal

abbrev pub invariant-loop-key : goal.invariant-loop-key
invariant-loop-key g l =
    ((D : Replication Kind Op Shown) (kinds : Text → Kind) (logs : Text → History Op) (member : Node Kind Op Shown) → D.data_type ≡ g.T.Replica.data_type → StandsForNode g.T.Replica.kind_of g.T.Replica.IsDataOf kinds logs l.node member
    → Sees l.initial.recorder l.recorder (flat_map (key_seen D l.look l.at member) (take l.key-index l.key-items))) × (IsFormed l.initial.recorder → IsFormed l.recorder)
