use Rattle.std.proofs.Common.{refl, inl, inr}
use Rattle.member_sqlite.proofs.database.Database.open.Goals as goal

pub returns-in-Err-clause-unopened : goal.returns-in-Err-clause-unopened
returns-in-Err-clause-unopened c = inl refl

pub returns-in-Ok-make-clause-opened : goal.returns-in-Ok-make-clause-opened
returns-in-Ok-make-clause-opened c = (c.in-Ok.conn, c.in-Ok.ensures.empty, c.in-Ok-make.ensures)

pub returns-in-Err-make-clause-unopened : goal.returns-in-Err-make-clause-unopened
returns-in-Err-make-clause-unopened c = inr (c.in-Ok.conn, c.make.new.conn, c.in-Ok.ensures.empty, c.in-Err-make.ensures)
