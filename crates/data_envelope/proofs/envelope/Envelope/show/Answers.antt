use Rattle.std.proofs.Common.{◌≡◌, ap, ◌∙◌, subst}
use Rattle.std.specs.Prelude.{IfOk}
use Rattle.model_history.specs.History.{versions}
use Rattle.data_markers.specs.Marks.{performed_in}
use Rattle.data_envelope.proofs.Holding.{held_pruned}
use Rattle.data_envelope.proofs.Entries.{whole}
use Rattle.data_envelope.proofs.envelope.Envelope.show.Goals as goal

pub returns-clause-image : goal.returns-clause-image
returns-clause-image g c = rw (← c.self.view_is) (
    λ log entry s.
    let D = g.T.Replica.IsDataOf in
    let one = c.self.inside in
    subst (λ m. IfOk c.show.result (λ value. value ≡ m))
    (g.met.T.Replica.shown_means one.value log (versions entry.history) (performed_in one.markers) (held_pruned D _ log (versions entry.history) s.holds) s.holds.state
    ∙ ap (g.T.Replica.data_type.shown (g.T.Replica.kind_of one.value)) (whole D _ log entry s))
    c.show.ensures)
