use Rattle.std.proofs.Common.{ℕ, ◌<◌, ◌≤◌}
use Rattle.model_history.specs.History.{History, at}
use Rattle.model_members.specs.Entry.{Entry}
use Rattle.data_envelope.specs.Images.{StandsFor}
use Rattle.data_envelope.specs.Words.{parts_of}
use Rattle.data_envelope.proofs.envelope.Envelope.has_records_of.Given as goal

abbrev pub invariant-loop-number : goal.invariant-loop-number
invariant-loop-number g l = (log : History g.row.T-Op.Denot) (mine theirs : Entry g.row.T-Op.Denot) → StandsFor g.T.Replica.IsDataOf (parts_of l.self) log mine → StandsFor g.T.Replica.IsDataOf (parts_of l.other) log theirs
    → (i : ℕ) → i < l.number → at theirs.history i ≤ at mine.history i
