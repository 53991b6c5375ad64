use Rattle.std.proofs.Common.{sym}
use Rattle.data_orset.proofs.Tables.{shifted_none}
use Rattle.data_orset.proofs.dot_list.make_room.Goals as goal

pub returns-else-from-len : goal.returns-else-from-len
returns-else-from-len c = sym (shifted_none c.args.from c.args.len c.args.spots.now c.if-from-len.false c.requires)
