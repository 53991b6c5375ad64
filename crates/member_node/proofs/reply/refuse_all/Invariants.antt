use Rattle.std.proofs.Common.{◌≡◌}
use Rattle.member_node.specs.Outputs.{refused_post}
use Rattle.member_node.proofs.Lists.{mapped_before}
use Rattle.member_node.proofs.reply.refuse_all.Given as goal

-- those so far are refused
abbrev pub invariant-loop-post : goal.invariant-loop-post
invariant-loop-post g l = l.posts ≡ mapped_before refused_post l.fn.posts l.post-index
