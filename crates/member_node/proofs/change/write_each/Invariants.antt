use Rattle.std.proofs.Common.{◌≡◌, ℕ, ◌<◌, List, ◌++◌, length, vec_len, slice_index_or}
use Rattle.member_node.specs.Changes.{changed, change_at}
use Rattle.member_node.specs.declared.key.KeyState.{KeyState}
use Rattle.member_node.specs.declared.change.ChangeAt.{ChangeAt}
use Rattle.member_node.proofs.change.write_each.Given as goal

-- those from the end back are written
abbrev pub invariant-loop-at : goal.invariant-loop-at
invariant-loop-at g l = record {
  same_length : length l.keys ≡ length l.initial.keys;
  done : List (ChangeAt g.row.T.Denot g.row.T-Kind.Denot g.row.T-Op.Denot g.row.T-Delta.Denot);
  left : l.initial.written.items ≡ l.written.items ++ done;
  each : (k : ℕ) (d : KeyState g.row.T.Denot g.row.T-Kind.Denot g.row.T-Op.Denot g.row.T-Delta.Denot) → k < length l.initial.keys → slice_index_or l.keys k d ≡ changed (slice_index_or l.initial.keys k d) (change_at done k);
}

abbrev pub decreases-loop-at : goal.decreases-loop-at
decreases-loop-at g l = vec_len l.written
