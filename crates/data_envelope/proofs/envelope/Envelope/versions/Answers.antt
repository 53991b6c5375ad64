use Rattle.data_envelope.proofs.Reading.{numbers_at}
use Rattle.data_envelope.proofs.envelope.Envelope.versions.Goals as goal

pub returns-clause-image : goal.returns-clause-image
returns-clause-image g c = rw (← c.self.view_is) (λ log entry s. numbers_at g.T.Replica.IsDataOf _ log entry s)
