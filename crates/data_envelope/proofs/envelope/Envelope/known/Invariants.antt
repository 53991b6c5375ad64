use Rattle.model_history.specs.History.{History, versions}
use Rattle.model_members.specs.Entry.{Entry}
use Rattle.data_envelope.specs.Images.{StandsFor}
use Rattle.data_envelope.specs.Words.{parts_of}
use Rattle.data_envelope.proofs.Reading.{IsFilledBelow}
use Rattle.data_envelope.proofs.envelope.Envelope.known.Given as goal

abbrev pub invariant-loop-number : goal.invariant-loop-number
invariant-loop-number g l = (log : History g.row.T-Op.Denot) (entry : Entry g.row.T-Op.Denot) → StandsFor g.T.Replica.IsDataOf (parts_of l.self) log entry → IsFilledBelow (versions entry.history) l.known l.number
