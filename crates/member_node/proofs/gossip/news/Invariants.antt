use Rattle.std.proofs.Common.{◌≡◌, ◌≤◌, ℕ, Some, find, slice_get, take, map, All}
use Rattle.std.specs.List.{AllZip}
use Rattle.member_node.proofs.Common.{Text, History, Replication, state_of, Shown, entry_digest, digest_told, StandsForKeyed, declared_by, HoldsKey, KeyState}
use Rattle.model_members.specs.Node.{Node as Member}
use Rattle.member_node.specs.Gossip.{news_of, wants_of}
use Rattle.member_node.proofs.ToldInOrder.{is_of}
use Rattle.member_node.proofs.gossip.news.Given as goal

abbrev pub invariant-loop-state : goal.invariant-loop-state
invariant-loop-state g l = record {
  rest : (k : ℕ) (state : KeyState g.row.T.Denot g.row.T-Kind.Denot g.row.T-Op.Denot g.row.T-Delta.Denot) → l.state-index ≤ k → slice_get l.keys k ≡ Some state → find (is_of state.name) l.digests ≡ find (is_of state.name) l.rest;
  entries : (D : Replication g.row.T-Kind.Denot g.row.T-Op.Denot Shown) (kinds : Text → g.row.T-Kind.Denot) (logs : Text → History g.row.T-Op.Denot) (node : Member g.row.T-Kind.Denot g.row.T-Op.Denot Shown)
      → D.digest ≡ entry_digest g.T.SpelledData.history_byte g.T.SpelledData.history_spelled → All (HoldsKey g.T.Replica.kind_of g.T.Replica.IsDataOf kinds logs node) l.keys
      → AllZip (StandsForKeyed g.T.Replica.kind_of g.T.Replica.IsDataOf kinds logs) l.entries (news_of D (map digest_told l.digests) (map (λ state. state_of node (declared_by state)) (take l.state-index l.keys)));
  wants : (D : Replication g.row.T-Kind.Denot g.row.T-Op.Denot Shown) (kinds : Text → g.row.T-Kind.Denot) (logs : Text → History g.row.T-Op.Denot) (node : Member g.row.T-Kind.Denot g.row.T-Op.Denot Shown)
      → D.digest ≡ entry_digest g.T.SpelledData.history_byte g.T.SpelledData.history_spelled → All (HoldsKey g.T.Replica.kind_of g.T.Replica.IsDataOf kinds logs node) l.keys
      → l.wants ≡ wants_of D (map digest_told l.digests) (map (λ state. state_of node (declared_by state)) (take l.state-index l.keys));
}
