use Rattle.std.proofs.Common.{◌≡◌, ℕ, ◌<◌}
use Rattle.model_history.specs.History.{History, at}
use Rattle.model_members.specs.Entry.{Entry}
use Rattle.data_envelope.specs.Images.{StandsFor}
use Rattle.data_envelope.specs.Words.{parts_of}
use Rattle.report_texts.proofs.value.has_records.Given as goal

abbrev pub invariant-loop-number : goal.invariant-loop-number
invariant-loop-number g l =
    (log : History g.row.T-Op.Denot) (entry : Entry g.row.T-Op.Denot) → StandsFor g.T.Replica.IsDataOf (parts_of l.envelope) log entry → (i : ℕ) → i < l.number → at entry.history i ≡ 0
