use Rattle.std.proofs.Common.{◌≡◌, Ok, Err, refl, ap, subst, inr, arith}
use Rattle.std.specs.Prelude.{Vec}
use Rattle.std.specs.declared.alloc.Global.{Global}
use Rattle.std.proofs.lemmas.Result.{err_from_is_err_and}
use Rattle.member_keeper.specs.declared.stored.Stored.{Stored}
use Rattle.member_sqlite.specs.InDatabase.{Kept}
use Rattle.member_sqlite.specs.Asked.{Asks, FindsAll}
use Rattle.member_sqlite.proofs.Asking.{answers_told, err_told}
use Rattle.member_sqlite.proofs.keeper.SqliteKeeperKeeper.load.Goals as goal

pub returns-in_err-copies-clause-asked : goal.returns-in_err-copies-clause-asked
returns-in_err-copies-clause-asked c =
    let p = err_from_is_err_and c.from_residual.result c.from_residual.ensures.1 in rw (p.1, p.2) (inr refl)

pub returns-clause-asked : goal.returns-clause-asked
returns-clause-asked c =
    let same = ap (λ (k : Kept). k.table) c.self.view_is in
    let table : c.deref.result.now ≡ c.args.self.now.table = grind (arith, same, c.deref.ensures.value, c.in_ok-copies.ensures.copies) in
    let asked = subst (λ (k : Kept). Asks (FindsAll c.deref.result.now) k.database c.find_in-outcome.new.database c.find_in-outcome.result) c.self.view_is c.find_in-outcome.ensures in
    answers_told (FindsAll c.args.self.now.table) c.args.self.now.database c.find_in-outcome.new.database c.find_in-outcome.result (Ok tt) c.in-Ok.ensures.answer
    (subst (λ t. Asks (FindsAll t) c.args.self.now.database c.find_in-outcome.new.database c.find_in-outcome.result) table asked)

pub returns-in-Err-clause-asked : goal.returns-in-Err-clause-asked
returns-in-Err-clause-asked c =
    let same = ap (λ (k : Kept). k.table) c.self.view_is in
    let table : c.deref.result.now ≡ c.args.self.now.table = grind (arith, same, c.deref.ensures.value, c.in_ok-copies.ensures.copies) in
    let asked = subst (λ (k : Kept). Asks (FindsAll c.deref.result.now) k.database c.find_in-outcome.new.database c.find_in-outcome.result) c.self.view_is c.find_in-outcome.ensures in
    err_told (FindsAll c.args.self.now.table) (Vec Stored Global) c.args.self.now.database c.find_in-outcome.new.database c.in-Err.error
    (answers_told (FindsAll c.args.self.now.table) c.args.self.now.database c.find_in-outcome.new.database c.find_in-outcome.result (Err c.in-Err.error) c.in-Err.ensures.answer
    (subst (λ t. Asks (FindsAll t) c.args.self.now.database c.find_in-outcome.new.database c.find_in-outcome.result) table asked))
