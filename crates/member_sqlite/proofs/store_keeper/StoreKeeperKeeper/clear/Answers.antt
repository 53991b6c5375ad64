use Rattle.std.proofs.Common.{Ok, Err}
use Rattle.member_sqlite.specs.InStore.{DeletesAllIn}
use Rattle.member_sqlite.proofs.Asking.{answers_in}
use Rattle.member_sqlite.proofs.store_keeper.StoreKeeperKeeper.clear.Goals as goal

pub returns-in-Ok-clause-asked : goal.returns-in-Ok-clause-asked
returns-in-Ok-clause-asked g c clean =
    answers_in (DeletesAllIn g.S.Store) c.args.self.now.conn c.clear_rows-outcome.new.conn c.clear_rows-outcome.result (Ok tt) c.in-Ok.ensures.answer (c.clear_rows-outcome.ensures clean)

pub returns-in-Err-clause-asked : goal.returns-in-Err-clause-asked
returns-in-Err-clause-asked g c clean =
    answers_in (DeletesAllIn g.S.Store) c.args.self.now.conn c.clear_rows-outcome.new.conn c.clear_rows-outcome.result (Err c.in-Err.error) c.in-Err.ensures.answer (c.clear_rows-outcome.ensures clean)
