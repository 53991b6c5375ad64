use Rattle.std.proofs.Common.{subst}
use Rattle.member_sqlite.specs.Asked.{PutsAll, IsReady}
use Rattle.member_sqlite.proofs.Asking.{asks_ready, asks_nothing, never_unready}
use Rattle.member_sqlite.proofs.keeper.put_in.Goals as goal

pub returns-in-Err : goal.returns-in-Err
returns-in-Err c = asks_nothing (PutsAll c.args.entries.now) c.args.database.now c.open.new.database c.in-Err.why c.in-Err.ensures.none.0 c.in-Err.ensures.none.1 c.in-Err.ensures.unopened

pub returns-in-Some : goal.returns-in-Some
returns-in-Some c =
    asks_ready (PutsAll c.args.entries.now) c.args.database.now c.in-Some.database c.put_all.new.self c.put_all.result (subst (IsReady c.args.database.now) c.in-Some.is c.in-Ok.ensures.ready) c.put_all.ensures

pub returns-in-None : goal.returns-in-None
returns-in-None c = absurd (never_unready c.args.database.now (subst (IsReady c.args.database.now) c.in-None.is c.in-Ok.ensures.ready))
