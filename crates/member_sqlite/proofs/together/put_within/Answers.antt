use Rattle.std.proofs.Common.{◌≡◌, inl, inr, arith}
use Rattle.sqlite.proofs.InsideLemmas.{keeps_then}
use Rattle.member_sqlite.proofs.together.put_within.Goals as goal

pub returns-then-changed-gt0-clause-put : goal.returns-then-changed-gt0-clause-put
returns-then-changed-gt0-clause-put g c clean inside = inl (c.in-Ok.changed, c.if-changed-gt0.true, rw c.args.writes.now.changes at (c.in-Ok.ensures.ran clean inside))

pub returns-else-changed-gt0-clause-put : goal.returns-else-changed-gt0-clause-put
returns-else-changed-gt0-clause-put g c clean inside =
    let none : c.in-Ok.changed ≡ 0 = omega (arith, c.if-changed-gt0.false) in
    let ran = rw (c.args.writes.now.changes, none) at (c.in-Ok.ensures.ran (omega (arith, c.add_within.ensures.clean)) inside) in
    inr (c.write_within.new.all.conn.now, ran, c.add_within.ensures.ran clean ran.1.mode)

pub returns-else-changed-gt0-clause-kept : goal.returns-else-changed-gt0-clause-kept
returns-else-changed-gt0-clause-kept g c clean =
    keeps_then _ _ _ (c.write_within.ensures.kept (omega (arith, c.add_within.ensures.clean))) (c.add_within.ensures.kept clean)

pub returns-in-Err-clause-put : goal.returns-in-Err-clause-put
returns-in-Err-clause-put g c clean inside = inl (rw c.args.writes.now.changes at (c.in-Err.ensures.ran clean inside))
