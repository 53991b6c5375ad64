use Rattle.std.proofs.Common.{◌≡◌, ℕ, ◌<◌, length, slice_index_or, Option}
use Rattle.member_node.proofs.Common.{KeyState, Change}
use Rattle.member_node.specs.Installing.{IsSeen}
use Rattle.member_node.proofs.preparing.seen.Given as goal

abbrev pub invariant-loop-index : goal.invariant-loop-index
invariant-loop-index g l = record {
  counted : length l.changes ≡ length l.keys;
  made : (k : ℕ) (d : KeyState g.row.T.Denot g.row.T-Kind.Denot g.row.T-Op.Denot g.row.T-Delta.Denot) (e : Option (Change g.row.T.Denot g.row.T-Kind.Denot g.row.T-Op.Denot g.row.T-Delta.Denot)) → k < l.index
      → IsSeen g.T.Replica l.id l.view (slice_index_or l.keys k d) (slice_index_or l.changes k e);
}
