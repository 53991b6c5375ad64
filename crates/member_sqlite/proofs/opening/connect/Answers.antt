use Rattle.member_sqlite.proofs.opening.connect.Goals as goal

pub returns-in-Ok-clause-opened : goal.returns-in-Ok-clause-opened
returns-in-Ok-clause-opened g c clean = (c.in-Ok.ensures.opened clean, c.in-Ok.ensures.found clean)

pub returns-in-Err-clause-cause : goal.returns-in-Err-clause-cause
returns-in-Err-clause-cause g c = record { error = c.in-Err.refused.0; is = c.told.ensures; named = c.in-Err.ensures.named; left = c.in-Err.refused.1; cause = c.in-Err.ensures.cause }
