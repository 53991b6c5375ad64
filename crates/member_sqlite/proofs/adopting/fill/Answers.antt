use Rattle.member_sqlite.proofs.adopting.fill.Goals as goal

pub returns-in-Ok-clause-filled : goal.returns-in-Ok-clause-filled
returns-in-Ok-clause-filled g c clean = (c.new.ensures, c.in-Ok.ensures.laid clean)
