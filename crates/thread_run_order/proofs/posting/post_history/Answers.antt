use Rattle.std.proofs.Common.{◌≡◌, ◌∙◌, subst, List, Some}
use Rattle.std.proofs.lemmas.Iterator.Adapters.{YieldsList-from_vec}
use Rattle.std.proofs.lemmas.Iterator.Consumers.{YieldsList-end}
use Rattle.world_places.specs.Sending.{Sends}
use Rattle.thread_run_order.specs.Images.{EntryOf}
use Rattle.thread_run_order.specs.Finishing.{IsSent}
use Rattle.thread_run_order.proofs.Finishing.{sent_none, sent_more, all_yielded}
use Rattle.thread_run_order.proofs.posting.post_history.Goals as goal

pub loop-entry-init : goal.loop-entry-init
loop-entry-init g c = sent_none g.K.Keeper c.args.from c.args.links.now

pub loop-entry-preserved : goal.loop-entry-preserved
loop-entry-preserved g c =
    sent_more {keeping = g.K.Keeper} c.args.from c.loop-entry.yielded c.in-Some.entry c.args.links.now c.loop-entry.links c.post_all.new.links c.loop-entry.invariant
    (subst (λ posts. Sends c.args.from posts c.loop-entry.links c.post_all.new.links) c.posts_of.ensures c.in_ok-post_all.ensures)

pub returns : goal.returns
returns g c =
    let history = c.args.history.items in
    let ends = YieldsList-end (YieldsList-from_vec history c.into_iter-entry-iterator.ensures.into_iter_gives.0 (c.into_iter-entry-iterator.ensures.into_iter_gives.1 ∙ c.args.history.ok.0)) c.loop-entry.yielded c.loop-entry.entry-iterator c.loop-entry.yielded_by c.next.result c.next.new.self c.in-None.is c.next.ensures.steps in
    let whole : c.loop-entry.yielded ≡ history = all_yielded c.loop-entry.yielded history ends.0 in
    subst (λ (these : List (EntryOf g.T.Replica g.K.Keeper)). IsSent (Some c.args.from) these c.args.links.now c.loop-entry.links) whole c.loop-entry.invariant
