use Rattle.std.proofs.Common.{subst}
use Rattle.thread_cell.specs.Endings.{Ends}
use Rattle.thread_cell.proofs.Finishing.{ends}
use Rattle.thread_cell.proofs.table.CellTable.close.Goals as goal

pub returns : goal.returns
returns g c =
    let final = c.close_with.ensures.values.2 in
    subst (λ key. Ends key c.args.seat.me.0) c.self.view_is (ends c.self.inside.table.shared.key c.args.seat.id c.args.seat.me.0 final.0 final.1)
