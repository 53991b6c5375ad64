use Rattle.data_envelope.proofs.Reading.{pruned_at}
use Rattle.data_envelope.proofs.envelope.Envelope.markers.Goals as goal

pub returns-clause-pruned : goal.returns-clause-pruned
returns-clause-pruned g c = rw (← c.self.view_is) (λ log entry s. pruned_at g.T.Replica.IsDataOf _ log entry s)
