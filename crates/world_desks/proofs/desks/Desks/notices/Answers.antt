use Rattle.std.proofs.Common.{List, sym, subst}
use Rattle.member_desk.specs.declared.notice.Notice.{Notice}
use Rattle.world_desks.specs.Watched.{Tells}
use Rattle.world_desks.proofs.Notified.{tells_nothing, tells_on_ok}
use Rattle.world_desks.proofs.desks.Desks.notices.Goals as goal

pub returns-in-Some : goal.returns-in-Some
returns-in-Some g c = tells_on_ok g.T.SpelledData c.args.world.now c.args.at c.in-Some.node.now c.args.self.now c.notices_of.new.self c.notices_of.result c.in-Some.ensures c.notices_of.ensures.told c.notices_of.ensures.others

pub returns-in-None : goal.returns-in-None
returns-in-None g c =
    subst (λ (notices : List Notice). Tells g.T.SpelledData c.args.world.now c.args.at notices c.args.self.now c.args.self.now) (sym c.new.ensures)
    (tells_nothing g.T.SpelledData c.args.world.now c.args.at c.args.self.now c.in-None.ensures)
