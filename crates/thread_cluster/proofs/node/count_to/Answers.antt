use Rattle.std.proofs.Common.{arith}
use Rattle.thread_cluster.proofs.Copying.{count_more}
use Rattle.thread_cluster.proofs.node.count_to.Goals as goal

pub loop-post-preserved : goal.loop-post-preserved
loop-post-preserved g c =
    let inv = c.loop-post.invariant in
    let few = inv.few in
    let one = c.one_to-count.ensures.one in
    let counted = c.one_to-count.ensures.count in record {
      count = count_more c.args.to c.loop-post.count _ c.args.posts.now c.loop-post.post-index c.post-item.result c.loop-post-test.true c.post-item.is inv.count (omega arith);
      few = omega arith;
    }
