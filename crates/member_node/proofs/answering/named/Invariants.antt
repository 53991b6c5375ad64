use Rattle.std.proofs.Common.{ℕ, List, take}
use Rattle.std.specs.List.{AllZip}
use Rattle.member_node.proofs.Common.{Text, History, Shown, StandsForKeyed, AreMade, delta_groups, IsKept, AreHeld, IsAtWork}
use Rattle.model_members.specs.Entry.{Entry}
use Rattle.model_members.specs.Node.{Node as Member}
use Rattle.member_node.proofs.Takings.{named_of}
use Rattle.member_node.proofs.answering.named.Given as goal

abbrev pub invariant-loop-index : goal.invariant-loop-index
invariant-loop-index g l = (digest : g.row.T-Kind.Denot → Entry g.row.T-Op.Denot → List ℕ) (kinds : Text → g.row.T-Kind.Denot) (logs : Text → History g.row.T-Op.Denot) (id view : ℕ) (before : Text → Entry g.row.T-Op.Denot) (node : Member g.row.T-Kind.Denot g.row.T-Op.Denot Shown)
    → AreHeld g.T.Replica.kind_of g.T.Replica.IsDataOf kinds logs id l.keys before → AreMade (IsKept g.T.Replica.kind_of id) l.keys l.changes → IsAtWork g.T.Replica.kind_of g.T.Replica.IsDataOf kinds logs id l.keys view before l.changes node
    → AllZip (StandsForKeyed g.T.Replica.kind_of g.T.Replica.IsDataOf kinds logs) l.entries (named_of (delta_groups g.T.Replica.data_type digest) node l.names (take l.index l.keys))
