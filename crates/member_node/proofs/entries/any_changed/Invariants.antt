use Rattle.std.proofs.Common.{◌≡◌, ◌<◌, ℕ, false, slice_index_or}
use Rattle.member_node.proofs.Common.{Text, History, KeyState, AreMade, LeadsTo}
use Rattle.model_members.specs.Entry.{Entry}
use Rattle.member_node.specs.Entries.{is_changed_at}
use Rattle.member_node.specs.declared.change.ChangeAt.{ChangeAt}
use Rattle.member_node.proofs.entries.any_changed.Given as goal

-- none so far is another
abbrev pub invariant-loop-at : goal.invariant-loop-at
invariant-loop-at g l = (logs : Text → History g.row.T-Op.Denot) (old new : Text → Entry g.row.T-Op.Denot) → AreMade (LeadsTo g.T.Replica.IsDataOf logs old new) l.keys l.changes
    → (j : ℕ) (d : ChangeAt g.row.T.Denot g.row.T-Kind.Denot g.row.T-Op.Denot g.row.T-Delta.Denot) (state : KeyState g.row.T.Denot g.row.T-Kind.Denot g.row.T-Op.Denot g.row.T-Delta.Denot) → j < l.at-index → is_changed_at old new (slice_index_or l.keys (slice_index_or l.written j d).index state) ≡ false
