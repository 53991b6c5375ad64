use Rattle.std.proofs.Common.{sym}
use Rattle.member_desk.specs.Subscriptions.{by_number}
use Rattle.member_desk.proofs.Searches.{search_equal_at}
use Rattle.member_desk.proofs.client.place_of.Goals as goal

pub returns-in-Equal : goal.returns-in-Equal
returns-in-Equal c = search_equal_at (by_number c.args.number) c.args.clients.now c.loop-index.index _ c.loop-index-test.true c.loop-index.invariant (sym c.in-Equal.ensures)
