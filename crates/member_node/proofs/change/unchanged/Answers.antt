use Rattle.std.proofs.Common.{length, ap, ◌∙◌}
use Rattle.member_node.specs.Changes.{each_of}
use Rattle.member_node.proofs.Sparse.{each_none}
use Rattle.member_node.proofs.change.unchanged.Goals as goal

pub returns : goal.returns
returns g c = ap (each_of (length c.args.keys.now)) c.new.ensures.items ∙ each_none c.args.keys.now
