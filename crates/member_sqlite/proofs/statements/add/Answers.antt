use Rattle.member_sqlite.proofs.statements.add.Goals as goal

pub returns-in-Ok-clause-ran : goal.returns-in-Ok-clause-ran
returns-in-Ok-clause-ran g c clean = (c.in-Ok.field-0, rw c.args.writes.now.adds at (c.in-Ok.ensures.ran clean))

pub returns-in-Err-clause-ran : goal.returns-in-Err-clause-ran
returns-in-Err-clause-ran g c clean = rw c.args.writes.now.adds at (c.in-Err.ensures.ran clean)
