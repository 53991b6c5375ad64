use Rattle.data_envelope.proofs.Reading.{unmarked}
use Rattle.data_envelope.proofs.Judging.{first_unknown}
use Rattle.data_envelope.proofs.envelope.Envelope.first_lacking.Goals as goal

pub returns-then-is_empty-clause-some : goal.returns-then-is_empty-clause-some
returns-then-is_empty-clause-some g c = rw (← c.self.view_is) (
    λ log entry s.
    first_unknown g.T.Replica.IsDataOf c.first_lacking.result _ log entry c.args.needs.now c.limit-limit.result s (unmarked c.self.inside.markers (c.is_empty.ensures.0 c.if-is_empty.true))
    c.limit-limit.ensures.range c.limit-limit.ensures.above c.first_lacking.ensures.some)
