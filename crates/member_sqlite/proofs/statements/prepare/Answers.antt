use Rattle.std.proofs.Common.{[]}
use Rattle.member_sqlite.proofs.statements.prepare.Goals as goal

pub returns-in-Err-clause-err : goal.returns-in-Err-clause-err
returns-in-Err-clause-err g c clean = (c.in-Err.error, c.refusal_of.ensures, c.in-Err.ensures.err clean [])

pub returns-in-Ok-clause-text : goal.returns-in-Ok-clause-text
returns-in-Ok-clause-text g c clean = (c.in-Ok.ensures.ok clean).0

pub returns-in-Ok-clause-ok : goal.returns-in-Ok-clause-ok
returns-in-Ok-clause-ok g c clean = (c.in-Ok.ensures.ok clean).1
