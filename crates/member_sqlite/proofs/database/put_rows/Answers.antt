use Rattle.std.proofs.Common.{arith, rules}
use Rattle.member_sqlite.proofs.Asking.{puts_alone, puts_several}
use Rattle.member_sqlite.proofs.database.put_rows.Goals as goal

pub returns-in-len1 : goal.returns-in-len1
returns-in-len1 g c clean = puts_alone g.S.Store c.args.entries.now _ c.args.conn.now c.put.new.conn c.put.result (omega arith) (search rules) (c.put.ensures clean)

pub returns-in_default : goal.returns-in_default
returns-in_default g c clean = puts_several g.S.Store c.args.entries.now c.args.conn.now c.put_together.new.conn c.put_together.result (search rules) (c.put_together.ensures clean)
