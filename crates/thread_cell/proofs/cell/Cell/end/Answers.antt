use Rattle.thread_cell.proofs.Taking.{takes_cell, gives_cell}
use Rattle.thread_cell.proofs.cell.Cell.end.Goals as goal

pub returns-in-Some-clause-takes : goal.returns-in-Some-clause-takes
returns-in-Some-clause-takes g c =
    let e = c.into_parts-machine.ensures in
    takes_cell g.M.Machine c.args.table.now g.P.Spot.PLACE c.args.base.now.me.0 c.requires.began c.into_parts-machine.new.base.me.0 c.in-Some.cell.seen.known c.into_parts-machine.result.0 c.into_parts-machine.result.1.items e.history e.base e.rises e.replay

pub returns-in-Some-clause-gives : goal.returns-in-Some-clause-gives
returns-in-Some-clause-gives g c =
    let e = c.into_parts-machine.ensures in
    gives_cell g.P.Spot.PLACE c.args.cell c.in-Some.cell c.into_parts-machine.result.1.items c.into_parts-machine.new.base.me.0.known c.in-Some.is e.history e.base.other_knew
