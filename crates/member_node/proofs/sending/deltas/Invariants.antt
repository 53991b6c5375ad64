use Rattle.std.proofs.Common.{◌≡◌, take, map, All}
use Rattle.std.specs.List.{AllZip}
use Rattle.member_node.proofs.Common.{Text, History, Replication, Shown, StandsForKeyed, StandsForKeyedGroup, state_in, IsHeldBy}
use Rattle.model_members.specs.Node as nodes
use Rattle.member_node.specs.Sending.{groups_of, entries_of}
use Rattle.member_node.proofs.sending.deltas.Given as goal

-- the keys so far are in the lists
abbrev pub invariant-loop-state : goal.invariant-loop-state
invariant-loop-state g l =
    let R = g.T.Replica in
    (D : Replication g.row.T-Kind.Denot g.row.T-Op.Denot Shown) (kinds : Text → g.row.T-Kind.Denot) (logs : Text → History g.row.T-Op.Denot) (node : nodes.Node g.row.T-Kind.Denot g.row.T-Op.Denot Shown)
    → D.log_length ≡ 50 → All (IsHeldBy R.kind_of R.IsDataOf R.IsDeltaOf kinds logs l.id node) l.keys
    → AllZip (StandsForKeyedGroup {ghosts = R} kinds logs) l.groups (groups_of D node l.peer (map (state_in node) (take l.state-index l.keys)))
    × AllZip (StandsForKeyed R.kind_of R.IsDataOf kinds logs) l.entries (entries_of D node l.peer (map (state_in node) (take l.state-index l.keys)))
