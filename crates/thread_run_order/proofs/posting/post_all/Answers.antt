use Rattle.std.proofs.Common.{◌≡◌, ◌∙◌, subst, List}
use Rattle.std.proofs.lemmas.Iterator.Adapters.{YieldsList-from_vec}
use Rattle.std.proofs.lemmas.Iterator.Consumers.{YieldsList-end}
use Rattle.member_messages.specs.declared.message.Post.{Post}
use Rattle.world_places.specs.Sending.{Sends}
use Rattle.model_kinds.specs.declared.operation.Op.{Op}
use Rattle.thread_run_order.proofs.Finishing.{sends_none, sends_more, all_yielded}
use Rattle.thread_run_order.proofs.posting.post_all.Goals as goal

pub loop-post-init : goal.loop-post-init
loop-post-init g c = sends_none c.args.from c.args.links.now

pub loop-post-preserved : goal.loop-post-preserved
loop-post-preserved g c = sends_more c.args.from c.loop-post.yielded c.in-Some.post c.args.links.now c.loop-post.links c.append.new.self c.loop-post.invariant c.in_ok-append.ensures.ok

pub returns : goal.returns
returns g c =
    let posts = c.args.posts.items in
    let ends = YieldsList-end (YieldsList-from_vec posts c.into_iter-post-iterator.ensures.into_iter_gives.0 (c.into_iter-post-iterator.ensures.into_iter_gives.1 ∙ c.args.posts.ok.0)) c.loop-post.yielded c.loop-post.post-iterator c.loop-post.yielded_by c.next.result c.next.new.self c.in-None.is c.next.ensures.steps in
    let whole : c.loop-post.yielded ≡ posts = all_yielded c.loop-post.yielded posts ends.0 in
    subst (λ (these : List (Post g.row.T.Denot g.row.T-Kind.Denot Op g.row.T-Delta.Denot g.T.Replica)). Sends c.args.from these c.args.links.now c.loop-post.links) whole c.loop-post.invariant
