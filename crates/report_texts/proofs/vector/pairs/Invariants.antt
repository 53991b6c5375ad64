use Rattle.std.proofs.Common.{◌≡◌, map, string_bytes}
use Rattle.std.specs.List.{range_with_len}
use Rattle.model_history.specs.History.{History, at}
use Rattle.model_members.specs.Entry.{Entry}
use Rattle.data_envelope.specs.Images.{StandsFor}
use Rattle.data_envelope.specs.Words.{parts_of}
use Rattle.report_texts.specs.Pairs.{pair_words}
use Rattle.report_texts.proofs.vector.pairs.Given as goal

abbrev pub invariant-loop-number : goal.invariant-loop-number
invariant-loop-number g l =
    (log : History g.row.T-Op.Denot) (entry : Entry g.row.T-Op.Denot) → StandsFor g.T.Replica.IsDataOf (parts_of l.envelope) log entry
    → map string_bytes l.pairs ≡ pair_words (at entry.history) (range_with_len 0 l.number)
