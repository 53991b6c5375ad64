use Rattle.std.proofs.Common.{◌≡◌, ℕ, ◌<◌, ◌≤◌, length, slice_index_or, Option, None}
use Rattle.member_node.proofs.Common.{KeyState, Change, IsFlush}
use Rattle.member_node.proofs.sending.flushes.Given as goal

abbrev pub invariant-loop-index : goal.invariant-loop-index
invariant-loop-index g l = record {
  counted : length l.changes ≡ length l.keys;
  made : (k : ℕ) (d : KeyState g.row.T.Denot g.row.T-Kind.Denot g.row.T-Op.Denot g.row.T-Delta.Denot) (e : Option (Change g.row.T.Denot g.row.T-Kind.Denot g.row.T-Op.Denot g.row.T-Delta.Denot)) → k < l.index
      → IsFlush l.id l.members (slice_index_or l.keys k d) (slice_index_or l.changes k e);
  ahead : (k : ℕ) (e : Option (Change g.row.T.Denot g.row.T-Kind.Denot g.row.T-Op.Denot g.row.T-Delta.Denot)) → l.index ≤ k → k < length l.keys → slice_index_or l.changes k e ≡ None;
}
