use Rattle.thread_cell.proofs.Meetings.{session_met}
use Rattle.thread_cell.proofs.session.Session.meet.Goals as goal

pub invariant_of-self : goal.invariant_of-self
invariant_of-self g c =
    let me = c.self.inside.seat.me in
    let me' = c.note.inside.seat.me in
    rw (c.meet.ensures.seat.1, c.max-self-inside.ensures) (session_met me me' c.note.inside.stamp c.note.invariant c.meet.ensures.looked c.self.inside.number c.self.inside.calls.items c.self.inside.stamp c.self.invariant)

pub returns-clause-knew : goal.returns-clause-knew
returns-clause-knew g c =
    let looked = c.meet.ensures.looked in
    λ p. rw (c.meet.ensures.seat.1, ← c.self.view_is, ← c.note.view_is) (looked.first p, looked.second p)
