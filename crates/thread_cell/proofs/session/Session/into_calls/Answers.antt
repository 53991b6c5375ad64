use Rattle.std.proofs.Common.{[], ◌∷◌, ap, subst}
use Rattle.thread_cell.specs.Seats.{client}
use Rattle.thread_cell.specs.Values.{client_calls}
use Rattle.thread_cell.specs.Endings.{Gathers}
use Rattle.thread_cell.proofs.Finishing.{gathered_as}
use Rattle.thread_cell.proofs.session.Session.into_calls.Goals as goal

pub returns-clause-base : goal.returns-clause-base
returns-clause-base g c =
    let v = c.args.base.now.me.0 in
    let w = c.self.inside.seat.me.0 in
    let i = c.self.invariant.seat in
    subst (λ x. Gathers [] (client_calls x ∷ []) x.seen.known v c.meet.new.seat.me.0) c.self.view_is
    (gathered_as v w c.meet.new.seat.me.0 [] (client c.self.inside.number c.self.inside.calls.items ∷ []) (ap (λ m. m.0) c.meet.ensures.seat.1) i.places i.clients c.meet.ensures.looked)
