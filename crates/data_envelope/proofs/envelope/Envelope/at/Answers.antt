use Rattle.std.proofs.Common.{ap, sym, ◌∙◌, Some}
use Rattle.model_history.specs.History.{versions}
use Rattle.data_markers.specs.declared.marker.Marker.TheVariants.{Performed}
use Rattle.data_envelope.proofs.Holding.{upto_held}
use Rattle.data_envelope.proofs.envelope.Envelope.at.Goals as goal

pub returns-in-Some-Performed-clause-image : goal.returns-in-Some-Performed-clause-image
returns-in-Some-Performed-clause-image g c = rw (← c.self.view_is) (
    λ log entry s.
    upto_held g.T.Replica.IsDataOf _ log (versions entry.history) s.holds c.args.id c.in-Some-Performed.field-0-0 c.in-Some-Performed.field-0-1 c.in-Some-Performed.upto
    (sym c.in-Some-Performed.ensures.value ∙ ap Some c.in-Some-Performed.field-0-is ∙ ap (λ u. Some (Performed c.in-Some-Performed.field-0-0 c.in-Some-Performed.field-0-1 u)) (sym c.in-Some-Performed.upto-is)))
