use Rattle.std.proofs.Common.{◌≡◌, ◌-◌, ◌++◌, take, drop, length}
use Rattle.thread_cluster.specs.Messages.{messages_to}
use Rattle.thread_cluster.proofs.node.copy_to.Given as goal

abbrev pub invariant-loop-post : goal.invariant-loop-post
invariant-loop-post g l = record {
  left : l.left ≡ l.skip - length (messages_to l.to (take l.post-index l.posts));
  copies : l.copies.items ≡ l.initial.copies.items ++ drop l.skip (messages_to l.to (take l.post-index l.posts));
}
