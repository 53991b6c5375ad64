use Rattle.std.proofs.Common.{rules}
use Rattle.member_sqlite.proofs.Asking.{ready_open, ready_opened, none_open}
use Rattle.member_sqlite.proofs.keeper.open.Goals as goal

pub returns-then-is_some-clause-ready : goal.returns-then-is_some-clause-ready
returns-then-is_some-clause-ready c = ready_open c.args.database.now (search rules)

pub returns-in-Ok-clause-ready : goal.returns-in-Ok-clause-ready
returns-in-Ok-clause-ready c = ready_opened c.args.database.now c.in-Ok.opened (search rules) c.in-Ok.ensures.opened

pub returns-in-Err-clause-unopened : goal.returns-in-Err-clause-unopened
returns-in-Err-clause-unopened c = c.in-Err.ensures.unopened

pub returns-in-Err-clause-none : goal.returns-in-Err-clause-none
returns-in-Err-clause-none c = none_open c.args.database.now (search rules)
