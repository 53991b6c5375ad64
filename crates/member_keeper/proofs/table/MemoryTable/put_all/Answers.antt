use Rattle.std.proofs.Common.{subst, sym}
use Rattle.member_keeper.specs.Tables.{IsTable}
use Rattle.member_keeper.proofs.Orders.{table_put_all}
use Rattle.member_keeper.proofs.table.MemoryTable.put_all.Goals as goal

pub invariant_of-self : goal.invariant_of-self
invariant_of-self c = subst IsTable (sym c.put_each.ensures) (table_put_all c.self.inside.entries.items c.args.entries.items c.self.invariant)
