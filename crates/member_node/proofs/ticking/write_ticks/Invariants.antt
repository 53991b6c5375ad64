use Rattle.std.proofs.Common.{◌≡◌, ℕ, ◌<◌, ◌≤◌, length, take, vec_len, slice_index_or}
use Rattle.member_node.proofs.Common.{KeyState, KeyTick, ticked}
use Rattle.member_node.proofs.ticking.write_ticks.Given as goal

-- those from the end back are written
abbrev pub invariant-loop-tick : goal.invariant-loop-tick
invariant-loop-tick g l = record {
  same_length : length l.keys ≡ length l.initial.keys;
  few : vec_len l.ticks ≤ length l.initial.keys;
  left : l.ticks.items ≡ take (vec_len l.ticks) l.initial.ticks.items;
  unwritten : (k : ℕ) (d : KeyState g.row.T.Denot g.row.T-Kind.Denot g.row.T-Op.Denot g.row.T-Delta.Denot) → k < vec_len l.ticks → slice_index_or l.keys k d ≡ slice_index_or l.initial.keys k d;
  written : (k : ℕ) (d : KeyState g.row.T.Denot g.row.T-Kind.Denot g.row.T-Op.Denot g.row.T-Delta.Denot) (e : KeyTick g.row.T.Denot g.row.T-Kind.Denot g.row.T-Op.Denot g.row.T-Delta.Denot) → vec_len l.ticks ≤ k → k < length l.initial.keys
      → slice_index_or l.keys k d ≡ ticked (slice_index_or l.initial.keys k d) (slice_index_or l.initial.ticks.items k e);
}

abbrev pub decreases-loop-tick : goal.decreases-loop-tick
decreases-loop-tick g l = vec_len l.ticks
