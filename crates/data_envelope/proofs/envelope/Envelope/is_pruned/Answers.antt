use Rattle.std.proofs.Common.{◌∙◌}
use Rattle.data_envelope.proofs.Reading.{pruned_at}
use Rattle.data_envelope.proofs.envelope.Envelope.is_pruned.Goals as goal

pub returns-clause-image : goal.returns-clause-image
returns-clause-image g c = rw (← c.self.view_is) (λ log entry s. c.performed.ensures.value ∙ pruned_at g.T.Replica.IsDataOf _ log entry s c.args.id)
