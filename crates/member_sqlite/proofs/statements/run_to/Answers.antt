use Rattle.member_sqlite.proofs.statements.run_to.Goals as goal

pub returns-in-Ok : goal.returns-in-Ok
returns-in-Ok g c clean = (c.in-Ok.field-0, c.in-Ok.ensures clean)

pub returns-in-Err : goal.returns-in-Err
returns-in-Err g c clean = c.in-Err.ensures clean
