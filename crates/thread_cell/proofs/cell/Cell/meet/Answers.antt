use Rattle.thread_cell.proofs.Meetings.{cell_met, whole_met}
use Rattle.thread_cell.proofs.cell.Cell.meet.Goals as goal

pub invariant_of-self : goal.invariant_of-self
invariant_of-self g c =
    let me = c.self.inside.seat.me in
    let me' = c.note.inside.seat.me in
    (c.meet.ensures.seat.0, rw (c.meet.ensures.seat.1, c.max-self-inside.ensures) (cell_met me me' c.note.inside.stamp c.note.invariant c.meet.ensures.looked g.M.Machine g.P.Spot.PLACE c.self.inside.machine c.self.inside.history.items c.self.inside.clock c.self.invariant.1))

pub returns-clause-history : goal.returns-clause-history
returns-clause-history g c =
    let me = c.self.inside.seat.me in
    let me' = c.note.inside.seat.me in
    rw (c.meet.ensures.seat.1, ← c.self.view_is) (whole_met me me' c.note.inside.stamp c.note.invariant c.meet.ensures.looked g.M.Machine g.P.Spot.PLACE c.self.inside.machine c.self.inside.history.items c.self.inside.clock c.self.invariant.1)

pub returns-clause-knew : goal.returns-clause-knew
returns-clause-knew g c =
    let looked = c.meet.ensures.looked in
    λ p. rw (c.meet.ensures.seat.1, ← c.self.view_is, ← c.note.view_is) (looked.first p, looked.second p)
