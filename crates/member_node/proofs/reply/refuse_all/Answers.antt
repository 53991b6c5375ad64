use Rattle.std.proofs.Common.{sym, ap, ◌∙◌, arith}
use Rattle.member_node.specs.Outputs.{refused_post}
use Rattle.member_node.proofs.Lists.{mapped_all, mapped_more}
use Rattle.member_node.proofs.reply.refuse_all.Goals as goal

pub loop-post-preserved : goal.loop-post-preserved
loop-post-preserved g c =
    mapped_more refused_post c.args.posts.now c.loop-post.posts c.loop-post.post-index c.post-item.result c.refuse.new.post c.loop-post.invariant c.loop-post-test.true c.post-item.is (c.refuse.ensures ∙ ap refused_post (sym c.post-item.is))

pub returns : goal.returns
returns g c = c.loop-post.invariant ∙ mapped_all refused_post c.args.posts.now c.loop-post.post-index (omega arith)
