use Rattle.member_sqlite.proofs.statements.run.Goals as goal

pub returns-in-Err : goal.returns-in-Err
returns-in-Err g c clean = (c.in-Err.error, c.refusal_of.ensures, c.in-Err.ensures.runs clean)

pub returns-in-Ok : goal.returns-in-Ok
returns-in-Ok g c clean = c.in-Ok.ensures.runs clean
