use Rattle.std.proofs.Common.{[], ◌∷◌, ap, subst}
use Rattle.thread_cell.specs.Endings.{Gathers}
use Rattle.thread_cell.proofs.Finishing.{gathered_as}
use Rattle.thread_cell.proofs.cell.Cell.into_parts.Goals as goal

pub returns-clause-base : goal.returns-clause-base
returns-clause-base g c =
    let v = c.args.base.now.me.0 in
    let w = c.self.inside.seat.me.0 in
    let i = c.self.invariant.1.seat in
    subst (λ known. Gathers (g.P.Spot.PLACE ∷ []) [] known v c.meet.new.seat.me.0) (ap (λ x. x.seen.known) c.self.view_is)
    (gathered_as v w c.meet.new.seat.me.0 (g.P.Spot.PLACE ∷ []) [] (ap (λ m. m.0) c.meet.ensures.seat.1) i.places i.clients c.meet.ensures.looked)
