use Rattle.std.proofs.Common.{Ok, Err, ap, subst, inr}
use Rattle.std.proofs.lemmas.Result.{err_from_is_err_and}
use Rattle.member_sqlite.specs.InDatabase.{Kept}
use Rattle.member_sqlite.specs.Asked.{Asks, PutsAll}
use Rattle.member_sqlite.proofs.Asking.{answers_told}
use Rattle.member_sqlite.proofs.keeper.SqliteKeeperKeeper.store.Goals as goal

pub returns-in_err-copies-clause-asked : goal.returns-in_err-copies-clause-asked
returns-in_err-copies-clause-asked c =
    let p = err_from_is_err_and c.from_residual.result c.from_residual.ensures.1 in rw (p.1, p.2) (inr (ap (λ (k : Kept). k.database) c.self.view_is))

pub returns-in-Ok-clause-asked : goal.returns-in-Ok-clause-asked
returns-in-Ok-clause-asked c =
    answers_told (PutsAll c.args.entries.now) c.args.self.now.database c.put_in-outcome.new.database c.put_in-outcome.result (Ok tt) c.in-Ok.ensures.answer
    (subst (λ (k : Kept). Asks (PutsAll c.args.entries.now) k.database c.put_in-outcome.new.database c.put_in-outcome.result) c.self.view_is c.put_in-outcome.ensures)

pub returns-in-Err-clause-asked : goal.returns-in-Err-clause-asked
returns-in-Err-clause-asked c =
    answers_told (PutsAll c.args.entries.now) c.args.self.now.database c.put_in-outcome.new.database c.put_in-outcome.result (Err c.in-Err.error) c.in-Err.ensures.answer
    (subst (λ (k : Kept). Asks (PutsAll c.args.entries.now) k.database c.put_in-outcome.new.database c.put_in-outcome.result) c.self.view_is c.put_in-outcome.ensures)
