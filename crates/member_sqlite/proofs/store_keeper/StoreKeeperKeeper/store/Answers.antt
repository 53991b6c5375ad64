use Rattle.std.proofs.Common.{Ok, Err, refl, inr}
use Rattle.std.proofs.lemmas.Result.{err_from_is_err_and}
use Rattle.member_sqlite.specs.InStore.{PutsAllIn}
use Rattle.member_sqlite.proofs.Asking.{answers_in}
use Rattle.member_sqlite.proofs.store_keeper.StoreKeeperKeeper.store.Goals as goal

pub returns-in_err-copies-clause-asked : goal.returns-in_err-copies-clause-asked
returns-in_err-copies-clause-asked g c clean =
    let p = err_from_is_err_and c.from_residual.result c.from_residual.ensures.1 in rw (p.1, p.2) (inr refl)

pub returns-in-Ok-clause-asked : goal.returns-in-Ok-clause-asked
returns-in-Ok-clause-asked g c clean =
    answers_in (PutsAllIn g.S.Store c.args.entries.now) c.args.self.now.conn c.put_rows-outcome.new.conn c.put_rows-outcome.result (Ok tt) c.in-Ok.ensures.answer (c.put_rows-outcome.ensures clean)

pub returns-in-Err-clause-asked : goal.returns-in-Err-clause-asked
returns-in-Err-clause-asked g c clean =
    answers_in (PutsAllIn g.S.Store c.args.entries.now) c.args.self.now.conn c.put_rows-outcome.new.conn c.put_rows-outcome.result (Err c.in-Err.error) c.in-Err.ensures.answer (c.put_rows-outcome.ensures clean)
