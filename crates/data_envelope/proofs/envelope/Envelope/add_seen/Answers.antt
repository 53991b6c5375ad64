use Rattle.std.proofs.Common.{ap, sym, ◌∙◌, not}
use Rattle.data_envelope.proofs.Reading.{stands_seen, changed_seen}
use Rattle.data_envelope.proofs.envelope.Envelope.add_seen.Goals as goal

pub returns-clause-image : goal.returns-clause-image
returns-clause-image g c = rw (← c.self.view_is) (
    λ log entry s. stands_seen g.T.Replica.IsDataOf _ _ log entry c.args.id c.args.view s c.add_seen.ensures.marks)

pub returns-clause-changed : goal.returns-clause-changed
returns-clause-changed g c = rw (← c.self.view_is) (
    λ log entry s. changed_seen g.T.Replica.IsDataOf _ log entry c.args.id c.args.view c.number-below_limit.ensures.range s ∙ ap not (sym c.add_seen.ensures.changed))
