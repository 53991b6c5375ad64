use Rattle.std.proofs.Common.{◌≡◌, ◌∙◌, ℕ, ◌+◌, ◌≤◌, ◌++◌, ap, subst, arith, List, length, map}
use Rattle.std.specs.Prelude.{slice_get, option_map, true, vec_len, vec_capacity}
use Rattle.std.specs.List.{list_all}
use Rattle.member_messages.specs.declared.message.Post.{Post}
use Rattle.world_places.specs.declared.sent.SentTo.{SentTo}
use Rattle.world_places.specs.Channels.{row_of, extended}
use Rattle.world_places.specs.Sending.{messages_to, told_of}
use Rattle.world_places.proofs.sending.posted.Goals as goal

pub returns-clause-row : goal.returns-clause-row
returns-clause-row g c = λ ids room has.
    subst
    (λ (posts : List (Post g.row.T.Denot g.row.T-Kind.Denot g.row.T-Op.Denot g.row.T-Delta.Denot g.T.Replica)). length posts ≤ room → list_all (λ (post : Post g.row.T.Denot g.row.T-Kind.Denot g.row.T-Op.Denot g.row.T-Delta.Denot g.T.Replica). ids post.to) posts ≡ true
    → (b : ℕ) → slice_get (row_of c.send.new.row) b ≡ option_map (extended (messages_to posts b)) (slice_get (row_of c.args.row.now) b)) c.into_vec.ensures (c.send.ensures.row ids room has)

pub returns-clause-told : goal.returns-clause-told
returns-clause-told g c = λ none fits.
    let told = c.args.sent in
    let tells =
    subst (λ (posts : List (Post g.row.T.Denot g.row.T-Kind.Denot g.row.T-Op.Denot g.row.T-Delta.Denot g.T.Replica)). vec_len told + length posts ≤ vec_capacity told → c.send.new.sent.items ≡ told.items ++ map told_of posts) c.into_vec.ensures c.send.ensures.told in
    c.from_vec-sent.ensures ∙ tells (omega (arith, told.ok.0, ap length none)) ∙ ap (λ (items : List SentTo). items ++ map told_of c.args.output.posts) none
