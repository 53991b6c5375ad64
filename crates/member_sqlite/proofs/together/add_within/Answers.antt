use Rattle.member_sqlite.proofs.together.add_within.Goals as goal

pub returns-in-Ok-clause-ran : goal.returns-in-Ok-clause-ran
returns-in-Ok-clause-ran g c clean inside = (c.in-Ok.field-0, rw c.args.writes.now.adds at (c.in-Ok.ensures.ran clean inside))

pub returns-in-Err-clause-ran : goal.returns-in-Err-clause-ran
returns-in-Err-clause-ran g c clean inside = rw c.args.writes.now.adds at (c.in-Err.ensures.ran clean inside)
