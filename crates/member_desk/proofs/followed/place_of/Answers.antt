use Rattle.std.proofs.Common.{ap, sym, ◌∙◌}
use Rattle.member_desk.specs.declared.followed.Followed.{Followed}
use Rattle.member_desk.specs.Subscriptions.{by_key}
use Rattle.member_desk.proofs.Searches.{search_equal}
use Rattle.member_desk.proofs.followed.place_of.Goals as goal

pub returns-in-Equal : goal.returns-in-Equal
returns-in-Equal g c =
    search_equal (by_key c.args.key.now) c.args.desk.now c.index-desk-index.result c.loop-index.index c.loop-index-test.true c.index-desk-index.is c.loop-index.invariant
    (ap (λ (x : Followed g.row.V.Denot). by_key c.args.key.now x) c.index-desk-index.is ∙ sym c.in-Equal.ensures)
