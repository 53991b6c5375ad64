use Rattle.std.proofs.Common.{◌≡◌, Ok, Err, refl, subst, inr, ◌∙◌}
use Rattle.std.specs.Prelude.{Vec}
use Rattle.std.specs.declared.alloc.Global.{Global}
use Rattle.std.proofs.lemmas.Result.{err_from_is_err_and}
use Rattle.member_keeper.specs.declared.stored.Stored.{Stored}
use Rattle.member_sqlite.specs.InStore.{FindsAllIn}
use Rattle.member_sqlite.proofs.Asking.{answers_in, err_in}
use Rattle.member_sqlite.proofs.store_keeper.StoreKeeperKeeper.load.Goals as goal

pub returns-in_err-copies-clause-asked : goal.returns-in_err-copies-clause-asked
returns-in_err-copies-clause-asked g c clean =
    let p = err_from_is_err_and c.from_residual.result c.from_residual.ensures.1 in rw (p.1, p.2) (inr refl)

pub returns-clause-asked : goal.returns-clause-asked
returns-clause-asked g c clean =
    let table : c.deref.result.now ≡ c.args.self.now.table.entries = c.deref.ensures.value ∙ c.in_ok-copies.ensures.copies in
    answers_in (FindsAllIn g.S.Store c.args.self.now.table.entries) c.args.self.now.conn c.find_rows-outcome.new.conn c.find_rows-outcome.result (Ok tt) c.in-Ok.ensures.answer
    (subst (λ t. FindsAllIn g.S.Store t c.args.self.now.conn c.find_rows-outcome.new.conn c.find_rows-outcome.result) table (c.find_rows-outcome.ensures clean))

pub returns-in-Err-clause-asked : goal.returns-in-Err-clause-asked
returns-in-Err-clause-asked g c clean =
    let table : c.deref.result.now ≡ c.args.self.now.table.entries = c.deref.ensures.value ∙ c.in_ok-copies.ensures.copies in
    err_in (FindsAllIn g.S.Store c.args.self.now.table.entries) (Vec Stored Global) c.args.self.now.conn c.find_rows-outcome.new.conn c.in-Err.error
    (answers_in (FindsAllIn g.S.Store c.args.self.now.table.entries) c.args.self.now.conn c.find_rows-outcome.new.conn c.find_rows-outcome.result (Err c.in-Err.error) c.in-Err.ensures.answer
    (subst (λ t. FindsAllIn g.S.Store t c.args.self.now.conn c.find_rows-outcome.new.conn c.find_rows-outcome.result) table (c.find_rows-outcome.ensures clean)))
