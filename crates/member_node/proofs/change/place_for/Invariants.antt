use Rattle.std.proofs.Common.{◌<◌, ◌≤◌, length, slice_index_or}
use Rattle.member_node.specs.declared.change.ChangeAt.{ChangeAt}
use Rattle.member_node.proofs.change.place_for.Given as goal

abbrev pub invariant-loop-place : goal.invariant-loop-place
invariant-loop-place g l = record {
  within : l.place ≤ length l.written;
  after : (d : ChangeAt g.row.T.Denot g.row.T-Kind.Denot g.row.T-Op.Denot g.row.T-Delta.Denot) → l.place < length l.written → l.index ≤ (slice_index_or l.written l.place d).index;
}

abbrev pub decreases-loop-place : goal.decreases-loop-place
decreases-loop-place g l = l.place
