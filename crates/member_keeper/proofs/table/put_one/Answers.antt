use Rattle.std.proofs.Common.{sym, ◌∙◌, subst}
use Rattle.member_keeper.specs.Tables.{Table}
use Rattle.member_keeper.specs.Places.{IsPlace}
use Rattle.member_keeper.specs.declared.search.Place.TheVariants.{At}
use Rattle.member_keeper.proofs.Places.{set_here}
use Rattle.member_keeper.proofs.table.put_one.Goals as goal

pub returns-in-At-clause-put : goal.returns-in-At-clause-put
returns-in-At-clause-put c =
    let place = subst (λ (t : Table). IsPlace t c.args.entry (At c.in-At.index)) c.deref.ensures.value c.in-At.ensures in
    set_here c.args.table.now.items c.args.entry c.in-At.index place.0 ∙ sym place.1
