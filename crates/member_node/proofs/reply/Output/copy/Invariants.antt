use Rattle.std.proofs.Common.{◌≡◌, take}
use Rattle.member_node.proofs.reply.Output.copy.Given as goal

abbrev pub invariant-loop-post : goal.invariant-loop-post
invariant-loop-post g l = l.posts ≡ take l.post-index l.post-items
