use Rattle.std.proofs.Common.{◌≡◌, ◌≤◌, take, length}
use Rattle.thread_cluster.specs.Messages.{messages_to}
use Rattle.thread_cluster.proofs.node.count_to.Given as goal

abbrev pub invariant-loop-post : goal.invariant-loop-post
invariant-loop-post g l = record {
  count : l.count ≡ length (messages_to l.to (take l.post-index l.posts));
  few : l.count ≤ l.post-index;
}
