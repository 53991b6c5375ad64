use Rattle.thread_cluster.proofs.Copying.{left_more, copies_more}
use Rattle.thread_cluster.proofs.node.copy_to.Goals as goal

pub loop-post-preserved : goal.loop-post-preserved
loop-post-preserved g c =
    let i = c.loop-post.post-index in
    let posts = c.args.posts.now in
    let post = c.post-item.result in
    let inv = c.loop-post.invariant in record {
      left = left_more c.args.to c.args.skip c.loop-post.left c.in_ok-left.left posts i post c.loop-post-test.true c.post-item.is inv.left c.in_ok-left.ensures.left;
      copies = copies_more c.args.to c.args.skip c.loop-post.left c.args.copies.now.items c.loop-post.copies.items c.copy_one.new.copies.items posts i post c.loop-post-test.true c.post-item.is inv.left inv.copies c.in_ok-left.ensures.copies;
    }
