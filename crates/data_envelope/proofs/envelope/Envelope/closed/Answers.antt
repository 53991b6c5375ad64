use Rattle.std.proofs.Common.{ap, ◌∙◌}
use Rattle.model_history.specs.History.{versions}
use Rattle.data_markers.specs.Marks.{performed_in}
use Rattle.data_envelope.proofs.Holding.{held_pruned}
use Rattle.data_envelope.proofs.Entries.{whole}
use Rattle.data_envelope.proofs.envelope.Envelope.closed.Goals as goal

pub returns-clause-image : goal.returns-clause-image
returns-clause-image g c = rw (← c.self.view_is) (
    λ log entry s.
    let D = g.T.Replica.IsDataOf in
    let one = c.self.inside in
    c.closed.ensures
    ∙ g.met.T.Replica.closed_means one.value log (versions entry.history) (performed_in one.markers) (held_pruned D _ log (versions entry.history) s.holds) s.holds.state
    ∙ ap g.T.Replica.data_type.deleted (whole D _ log entry s))
