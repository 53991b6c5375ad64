use Rattle.std.proofs.Common.{◌≡◌, ◌∙◌, sym, ap, subst, arith, List, length, map, ◌+◌, ◌-◌, ◌++◌}
use Rattle.std.specs.Prelude.{is_ok, slice_get, option_map, true}
use Rattle.std.specs.List.{list_all}
use Rattle.std.proofs.lemmas.List.{map-id}
use Rattle.std.proofs.lemmas.Iterator.Adapters.{YieldsList-from_vec}
use Rattle.std.proofs.lemmas.Iterator.Consumers.{YieldsList-end}
use Rattle.member_messages.specs.declared.message.Post.{Post}
use Rattle.world_places.specs.Channels.{row_of, extended}
use Rattle.world_places.specs.Sending.{messages_to, told_of}
use Rattle.world_places.proofs.Sendings.{less_room, none_yet, sent_more, told_more}
use Rattle.world_places.proofs.sending.send.Goals as goal

pub loop-post-init : goal.loop-post-init
loop-post-init g c = let start = none_yet c.args.row.now c.args.sent.now in record { row = start.0; told = start.1 }

pub loop-post-preserved : goal.loop-post-preserved
loop-post-preserved g c =
    record {
      row = sent_more c.args.row.now c.loop-post.row c.append.new.row c.loop-post.yielded c.in-Some.post c.from.result (c.from.ensures ∙ c.number.ensures.value) c.loop-post.invariant.row c.append.ensures.sent c.append.ensures.room;
      told = told_more c.args.sent.now c.loop-post.sent c.push.new.self c.loop-post.yielded c.in-Some.post (record { to = c.in-Some.post.to; sketch = c.sketch-sketch.result }) (is_ok c.push.result)
          (ap (λ s. record { to = c.in-Some.post.to; sketch = s }) c.sketch-sketch.ensures) c.loop-post.invariant.told c.push.ensures.succeeds c.push.ensures.items c.push.ensures.len c.push.ensures.capacity;
    }

pub returns-clause-row : goal.returns-clause-row
returns-clause-row g c = λ ids room has within all.
    let posts = c.args.posts.items in
    let ends = YieldsList-end (YieldsList-from_vec posts c.into_iter-post-iterator.ensures.into_iter_gives.0 (c.into_iter-post-iterator.ensures.into_iter_gives.1 ∙ c.args.posts.ok.0)) c.loop-post.yielded c.loop-post.post-iterator c.loop-post.yielded_by c.next.result c.next.new.self c.in-None.is c.next.ensures.steps in
    let whole : c.loop-post.yielded ≡ posts = sym (map-id c.loop-post.yielded) ∙ ends.0 in
    let count : length c.loop-post.yielded ≡ length posts = ap length whole in
    λ b.
    subst (λ (these : List (Post g.row.T.Denot g.row.T-Kind.Denot g.row.T-Op.Denot g.row.T-Delta.Denot g.T.Replica)). slice_get (row_of c.loop-post.row) b ≡ option_map (extended (messages_to these b)) (slice_get (row_of c.args.row.now) b)) whole
    (c.loop-post.invariant.row.sent ids (room - length posts) (less_room ids c.args.row.now room (room - length posts + length c.loop-post.yielded) (omega arith) has)
    (subst (λ (these : List (Post g.row.T.Denot g.row.T-Kind.Denot g.row.T-Op.Denot g.row.T-Delta.Denot g.T.Replica)). list_all (λ (post : Post g.row.T.Denot g.row.T-Kind.Denot g.row.T-Op.Denot g.row.T-Delta.Denot g.T.Replica). ids post.to) these ≡ true) (sym whole) all) b)

pub returns-clause-told : goal.returns-clause-told
returns-clause-told g c = λ has.
    let posts = c.args.posts.items in
    let ends = YieldsList-end (YieldsList-from_vec posts c.into_iter-post-iterator.ensures.into_iter_gives.0 (c.into_iter-post-iterator.ensures.into_iter_gives.1 ∙ c.args.posts.ok.0)) c.loop-post.yielded c.loop-post.post-iterator c.loop-post.yielded_by c.next.result c.next.new.self c.in-None.is c.next.ensures.steps in
    let whole : c.loop-post.yielded ≡ posts = sym (map-id c.loop-post.yielded) ∙ ends.0 in
    let count : length c.loop-post.yielded ≡ length posts = ap length whole in
    c.loop-post.invariant.told.told (omega arith) ∙ ap (λ (these : List (Post g.row.T.Denot g.row.T-Kind.Denot g.row.T-Op.Denot g.row.T-Delta.Denot g.T.Replica)). c.args.sent.now.items ++ map told_of these) whole
