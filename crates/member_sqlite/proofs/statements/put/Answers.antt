use Rattle.std.proofs.Common.{◌≡◌, inl, inr, arith}
use Rattle.member_sqlite.proofs.statements.put.Goals as goal

pub returns-then-changed-gt0 : goal.returns-then-changed-gt0
returns-then-changed-gt0 g c clean = inl (c.in-Ok.changed, c.if-changed-gt0.true, rw c.args.writes.now.changes at (c.in-Ok.ensures.ran clean))

pub returns-else-changed-gt0 : goal.returns-else-changed-gt0
returns-else-changed-gt0 g c clean =
    let none : c.in-Ok.changed ≡ 0 = omega (arith, c.if-changed-gt0.false) in
    inr (c.write.new.conn, rw (c.args.writes.now.changes, none) at (c.in-Ok.ensures.ran (omega (arith, c.add.ensures.clean))), c.add.ensures.ran clean)

pub returns-in-Err : goal.returns-in-Err
returns-in-Err g c clean = inl (rw c.args.writes.now.changes at (c.in-Err.ensures.ran clean))
