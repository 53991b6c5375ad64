use Rattle.std.proofs.Common.{◌≡◌, take, map, All}
use Rattle.std.specs.List.{AllZip}
use Rattle.member_node.proofs.Common.{Text, History, Replication, Shown, StandsForPost, declared_by, IsHeldBy}
use Rattle.model_members.specs.Node as nodes
use Rattle.member_node.proofs.Sendings.{posts_to}
use Rattle.member_node.proofs.sending.posts.Given as goal

-- the members so far were sent to
abbrev pub invariant-loop-peer : goal.invariant-loop-peer
invariant-loop-peer g l =
    let R = g.T.Replica in
    (D : Replication g.row.T-Kind.Denot g.row.T-Op.Denot Shown) (kinds : Text → g.row.T-Kind.Denot) (logs : Text → History g.row.T-Op.Denot) (node : nodes.Node g.row.T-Kind.Denot g.row.T-Op.Denot Shown)
    → D.log_length ≡ 50 → All (IsHeldBy R.kind_of R.IsDataOf R.IsDeltaOf kinds logs l.id node) l.keys → node.keys ≡ map declared_by l.keys
    → AllZip (StandsForPost {ghosts = R} R.kind_of R.IsDataOf kinds logs) l.posts (posts_to D node l.id (take l.peer-index l.members))
