use Rattle.std.proofs.Common.{arith}
use Rattle.data_envelope.proofs.Reading.{uncounted}
use Rattle.data_envelope.proofs.envelope.Envelope.limit.Goals as goal

pub returns-clause-marks : goal.returns-clause-marks
returns-clause-marks g c = rw (← c.self.view_is) (
    λ i l. c.limit-2.ensures.above i (omega arith))

pub returns-clause-image : goal.returns-clause-image
returns-clause-image g c = rw (← c.self.view_is) (
    λ log entry s i l.
    uncounted g.T.Replica.IsDataOf _ log entry s i (c.limit-2.ensures.above i (omega arith)) (c.limit.ensures.above i (omega arith)))
