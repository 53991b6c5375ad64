use Rattle.std.proofs.Common.{◌≡◌, ℕ, ◌<◌, false, slice_index_or}
use Rattle.model_history.specs.Texts.{text_lt}
use Rattle.member_node.proofs.Common.{KeyState}
use Rattle.member_node.proofs.declaring.place_of.Given as goal

abbrev pub invariant-loop-place : goal.invariant-loop-place
invariant-loop-place g l = (k : ℕ) (d : KeyState g.row.T.Denot g.row.T-Kind.Denot g.row.T-Op.Denot g.row.T-Delta.Denot) → k < l.place → text_lt l.name (slice_index_or l.keys k d).name ≡ false
