use Rattle.std.proofs.Common.{◌++◌, ◌∷◌, [], sym, ◌∙◌, arith, take_all}
use Rattle.member_node.proofs.Lists.{one_more}
use Rattle.member_node.proofs.reply.Output.copy.Goals as goal

pub loop-post-preserved : goal.loop-post-preserved
loop-post-preserved g c =
    let post = c.post-item.result in
    c.in_ok-push.ensures.ok ∙ (λ i. c.loop-post.invariant i ++ record { to = post.to; message = c.in_ok-message.ensures i } ∷ [])
    ∙ sym (one_more c.as_slice-post-items.result.now c.loop-post.post-index post c.loop-post-test.true c.post-item.is)

pub returns : goal.returns
returns g c =
    let posts = c.loop-post.invariant ∙ take_all c.loop-post.post-index c.as_slice-post-items.result.now (omega arith) ∙ c.as_slice-post-items.ensures in
    λ i. record { reply = c.in_ok-reply.ensures i; posts = posts i; finished = c.in_ok-finished.ensures i }
