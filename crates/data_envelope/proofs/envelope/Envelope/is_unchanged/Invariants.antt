use Rattle.std.proofs.Common.{◌≡◌, true}
use Rattle.std.specs.List.{list_all, range_with_len}
use Rattle.model_history.specs.History.{History}
use Rattle.model_members.specs.Entry.{Entry}
use Rattle.data_envelope.specs.Images.{StandsFor}
use Rattle.data_envelope.specs.Words.{parts_of, is_unchanged_at}
use Rattle.data_envelope.proofs.envelope.Envelope.is_unchanged.Given as goal

abbrev pub invariant-loop-number : goal.invariant-loop-number
invariant-loop-number g l = (log : History g.row.T-Op.Denot) (old new : Entry g.row.T-Op.Denot) → StandsFor g.T.Replica.IsDataOf (parts_of l.since) log old → StandsFor g.T.Replica.IsDataOf (parts_of l.self) log new
    → list_all (is_unchanged_at old new) (range_with_len 0 l.number) ≡ true
