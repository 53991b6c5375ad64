use Rattle.std.proofs.Common.{◌≡◌, false, nat_lt}
use Rattle.std.specs.List.{list_any, range_with_len}
use Rattle.model_history.specs.History.{History, at}
use Rattle.model_members.specs.Entry.{Entry}
use Rattle.data_envelope.specs.Images.{StandsFor}
use Rattle.data_envelope.specs.Words.{parts_of}
use Rattle.data_envelope.proofs.envelope.Envelope.has_records.Given as goal

abbrev pub invariant-loop-number : goal.invariant-loop-number
invariant-loop-number g l = (log : History g.row.T-Op.Denot) (entry : Entry g.row.T-Op.Denot) → StandsFor g.T.Replica.IsDataOf (parts_of l.self) log entry → list_any (λ i. nat_lt 0 (at entry.history i)) (range_with_len 0 l.number) ≡ false
