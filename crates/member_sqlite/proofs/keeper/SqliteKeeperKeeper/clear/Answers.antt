use Rattle.std.proofs.Common.{Ok, Err, subst}
use Rattle.member_sqlite.specs.InDatabase.{Kept}
use Rattle.member_sqlite.specs.Asked.{Asks, DeletesAll}
use Rattle.member_sqlite.proofs.Asking.{answers_told}
use Rattle.member_sqlite.proofs.keeper.SqliteKeeperKeeper.clear.Goals as goal

pub returns-in-Ok-clause-asked : goal.returns-in-Ok-clause-asked
returns-in-Ok-clause-asked c =
    answers_told DeletesAll c.args.self.now.database c.clear_in-outcome.new.database c.clear_in-outcome.result (Ok tt) c.in-Ok.ensures.answer
    (subst (λ (k : Kept). Asks DeletesAll k.database c.clear_in-outcome.new.database c.clear_in-outcome.result) c.self.view_is c.clear_in-outcome.ensures)

pub returns-in-Err-clause-asked : goal.returns-in-Err-clause-asked
returns-in-Err-clause-asked c =
    answers_told DeletesAll c.args.self.now.database c.clear_in-outcome.new.database c.clear_in-outcome.result (Err c.in-Err.error) c.in-Err.ensures.answer
    (subst (λ (k : Kept). Asks DeletesAll k.database c.clear_in-outcome.new.database c.clear_in-outcome.result) c.self.view_is c.clear_in-outcome.ensures)
