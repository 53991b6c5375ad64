use Rattle.std.proofs.Common.{◌≡◌, ℕ, ◌<◌}
use Rattle.model_history.specs.History.{History, at}
use Rattle.model_members.specs.Entry.{Entry}
use Rattle.base_vectors.specs.Vectors.{number_at}
use Rattle.data_envelope.specs.Images.{StandsFor}
use Rattle.data_envelope.specs.Words.{parts_of}
use Rattle.member_desk.proofs.look.has_counts.Given as goal

abbrev pub invariant-loop-number : goal.invariant-loop-number
invariant-loop-number g l = (log : History g.row.T-Op.Denot) (held : Entry g.row.T-Op.Denot) → StandsFor g.T.Replica.IsDataOf (parts_of l.entry) log held → (i : ℕ) → i < l.number → number_at l.counts i ≡ at held.history i
