use Rattle.std.proofs.Common.{inr, arith}
use Rattle.sqlite.specs.Held.{state}
use Rattle.sqlite.specs.State.{HasCleanDisk}
use Rattle.member_sqlite.proofs.Matching.{match_then}
use Rattle.member_sqlite.proofs.adopting.find.Goals as goal

pub returns-in-Ok-clause-found : goal.returns-in-Ok-clause-found
returns-in-Ok-clause-found g c clean =
    let early : HasCleanDisk (state g.S.Store c.check.new.conn) = omega (arith, c.read.ensures.clean) in
    let checked = c.in-Ok.ensures.checked early in
    match_then c.read.result (c.read.ensures.read clean) (λ table read. (c.check.new.conn, checked, read)) (λ e unread. inr (c.check.new.conn, checked, unread))
