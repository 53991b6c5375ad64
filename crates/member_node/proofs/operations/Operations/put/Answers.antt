use Rattle.std.proofs.Common.{sym}
use Rattle.member_node.proofs.Operating.{kept-set}
use Rattle.member_node.proofs.operations.Operations.put.Goals as goal

pub returns : goal.returns
returns c = sym (kept-set c.args.self.now.forgotten c.args.op c.args.self.now.kept.items c.args.operation c.requires.kept)
