-- Links that stand for those of the model go on doing so as messages are sent, taken and lost.
--     posts_here, moved_here        what posts, deliveries and losses leave on each link of the model
--     links_sent, links_moved        what they leave of links of the program
--     same_sketch, same_told        what is printed of a message
use Rattle.std.proofs.Common.{◌≡◌, ◌≢◌, ℕ, suc, List, [], ◌∷◌, ◌++◌, map, refl, sym, ap, ◌∙◌, append_assoc, Bool, true, false, inl, inr, length, subst, Option, Some, None}
use Rattle.std.specs.Prelude.{if◌then◌else◌, ◌==◌, filter, slice_get, ◌&&◌, option_map}
use Rattle.std.specs.List.{AllZip}
use Rattle.std.proofs.lemmas.Bool.Decides.{eqb_tells}
use Rattle.std.proofs.lemmas.List.{length-map}
use Rattle.model_history.specs.Table.{with_at}
use Rattle.model_history.specs.Texts.{Text}
use Rattle.model_history.specs.History.{History}
use Rattle.model_history.proofs.HistoryLaws.{with_at_same, with_at_other, append_nothing}
use Rattle.model_members.specs.Message.{Message as Sent, Post as SentPost}
use Rattle.model_members.specs.World.{Link, Links, with_link, with_post, with_posts, moved_on}
use Rattle.data_lattice.specs.declared.replica.Replica.{Ghosts}
use Rattle.member_messages.specs.declared.sketch.MessageKind.TheVariants as kind
use Rattle.member_messages.specs.declared.message.Message.{Message}
use Rattle.member_messages.specs.declared.message.Message.TheVariants.{Deltas, Status, Gossip, Write, ReadAnswer}
use Rattle.member_messages.specs.declared.message.Post.{Post}
use Rattle.member_messages.specs.Sketches.{sketch_of}
use Rattle.member_messages.specs.Standing.{digest_told}
use Rattle.member_node.specs.Members.{StandsForKeyed, StandsForKeyedGroup, StandsForMessage, StandsForPosts}
use Rattle.world_places.specs.Channels.{Channel, next_on, count_on, message_on, passed, extended}
use Rattle.world_places.specs.Sending.{messages_to, told_of}
use Rattle.world_places.specs.Standing.{StandsForLink}
use Rattle.world_places.specs.Sketched.{sketched, sketched_post}
use Rattle.world_places.proofs.Lists.{zip_append, zip_length, IsPair, zip_at}

module _ {Op : Type 0} where
  -- the messages that go to a member
  abbrev pub sent_to : List (SentPost Op) → ℕ → List (Sent Op)
  sent_to posts to = map (λ (post : SentPost Op). post.message) (filter (λ (post : SentPost Op). post.to == to) posts)

  link_here : (links : Links Op) (from to : ℕ) (link : Link Op) → with_link links from to link from to ≡ link
  link_here links from to link = ap (λ row. row to) (with_at_same links from (with_at (links from) to link)) ∙ with_at_same (links from) to link

  link_beside : (links : Links Op) (from to b : ℕ) (link : Link Op) → b ≢ to → with_link links from to link from b ≡ links from b
  link_beside links from to b link other = ap (λ row. row b) (with_at_same links from (with_at (links from) to link)) ∙ with_at_other (links from) to link b other

  link_elsewhere : (links : Links Op) (from to a b : ℕ) (link : Link Op) → a ≢ from → with_link links from to link a b ≡ links a b
  link_elsewhere links from to a b link other = ap (λ row. row b) (with_at_other links from (with_at (links from) to link) a other)

  -- the messages go to the end of their links, and the links of others stay
  pub posts_here : (posts : List (SentPost Op)) (links : Links Op) (from to : ℕ) → with_posts links from posts from to ≡ record { messages = (links from to).messages ++ sent_to posts to; next = (links from to).next }
  posts_here [] links from to = ap (λ messages. record { messages = messages; next = (links from to).next }) (sym (append_nothing (links from to).messages))
  posts_here (post ∷ posts) links from to = posts_here posts (with_post from links post) from to ∙ elim (eqb_tells post.to to) [
    | inl here ↦
        let sent : Link Op = record { messages = (links from to).messages ++ post.message ∷ []; next = (links from to).next } in
        let now : with_post from links post from to ≡ sent =
        ap (λ j. with_link links from j (record { messages = (links from j).messages ++ post.message ∷ []; next = (links from j).next }) from to) here.1 ∙ link_here links from to sent in
        ap (λ (link : Link Op). record { messages = link.messages ++ sent_to posts to; next = link.next }) now
        ∙ ap (λ messages. record { messages = messages; next = (links from to).next }) (append_assoc (links from to).messages (post.message ∷ []) (sent_to posts to))
        ∙ ap (λ b. record { messages = (links from to).messages ++ map (λ (post : SentPost Op). post.message) (if b then post ∷ filter (λ (post : SentPost Op). post.to == to) posts else filter (λ (post : SentPost Op). post.to == to) posts); next = (links from to).next }) (sym here.0)
    | inr there ↦
        let now : with_post from links post from to ≡ links from to = link_beside links from post.to to (record { messages = (links from post.to).messages ++ post.message ∷ []; next = (links from post.to).next }) (λ e. there.1 (sym e)) in
        ap (λ (link : Link Op). record { messages = link.messages ++ sent_to posts to; next = link.next }) now
        ∙ ap (λ b. record { messages = (links from to).messages ++ map (λ (post : SentPost Op). post.message) (if b then post ∷ filter (λ (post : SentPost Op). post.to == to) posts else filter (λ (post : SentPost Op). post.to == to) posts); next = (links from to).next }) (sym there.0)
  ]

  pub posts_elsewhere : (posts : List (SentPost Op)) (links : Links Op) (from a b : ℕ) → a ≢ from → with_posts links from posts a b ≡ links a b
  posts_elsewhere [] links from a b other = refl
  posts_elsewhere (post ∷ posts) links from a b other = posts_elsewhere posts (with_post from links post) from a b other ∙ link_elsewhere links from post.to a b _ other

  -- the message of this number was taken or lost
  abbrev pub moved_link : ℕ → Link Op → Link Op
  moved_link index link = record link { next = if link.next == index then suc index else link.next }

  pub moved_here : (links : Links Op) (from to index : ℕ) → moved_on links from to index from to ≡ moved_link index (links from to)
  moved_here links from to index = go ((links from to).next == index)
    where
      go : (b : Bool) → (if b then with_link links from to (record (links from to) { next = suc index }) else links) from to ≡ record (links from to) { next = if b then suc index else (links from to).next }
      go true = link_here links from to (record (links from to) { next = suc index })
      go false = refl

  pub moved_beside : (links : Links Op) (from to index b : ℕ) → b ≢ to → moved_on links from to index from b ≡ links from b
  moved_beside links from to index b other = go ((links from to).next == index)
    where
      go : (x : Bool) → (if x then with_link links from to (record (links from to) { next = suc index }) else links) from b ≡ links from b
      go true = link_beside links from to b _ other
      go false = refl

  pub moved_elsewhere : (links : Links Op) (from to index a b : ℕ) → a ≢ from → moved_on links from to index a b ≡ links a b
  moved_elsewhere links from to index a b other = go ((links from to).next == index)
    where
      go : (x : Bool) → (if x then with_link links from to (record (links from to) { next = suc index }) else links) a b ≡ links a b
      go true = link_elsewhere links from to a b _ other
      go false = refl

-- LINKS OF THE PROGRAM

module _ {T Kind Op Delta : Type 0} {ghosts : Ghosts T Kind Op Delta} (kinds : Text → Kind) (logs : Text → History Op) where
  abbrev Stands : Message T Kind Op Delta ghosts → Sent Op → Type 0
  Stands message sent = StandsForMessage ghosts.kind_of ghosts.IsDataOf kinds logs message sent

  abbrev IsLink : Option (Channel (Message T Kind Op Delta ghosts)) → Link Op → Type 0
  IsLink channel link = StandsForLink {ghosts = ghosts} kinds logs channel link

  -- WHAT IS ASKED OF A LINK

  pub link_next : (o : Option (Channel (Message T Kind Op Delta ghosts))) (link : Link Op) → IsLink o link → link.next ≡ next_on o
  link_next None link s = absurd s
  link_next (Some channel) link s = s.next

  pub link_count : (o : Option (Channel (Message T Kind Op Delta ghosts))) (link : Link Op) → IsLink o link → length link.messages ≡ count_on o
  link_count None link s = absurd s
  link_count (Some channel) link s = sym (zip_length Stands channel.messages link.messages s.messages)

  pub link_message : (o : Option (Channel (Message T Kind Op Delta ghosts))) (link : Link Op) (index : ℕ) → IsLink o link → IsPair Stands (message_on o index) (slice_get link.messages index)
  link_message None link index s = absurd s
  link_message (Some channel) link index s = zip_at Stands channel.messages link.messages index s.messages

  -- MESSAGES ARE SENT

  push : (b : Bool) (post : Post T Kind Op Delta ghosts) (sent : SentPost Op) (posts : List (Post T Kind Op Delta ghosts)) (sents : List (SentPost Op)) → Stands post.message sent.message → AllZip Stands (map (λ (p : Post T Kind Op Delta ghosts). p.message) posts) (map (λ (p : SentPost Op). p.message) sents)
      → AllZip Stands (map (λ (p : Post T Kind Op Delta ghosts). p.message) (if b then post ∷ posts else posts)) (map (λ (p : SentPost Op). p.message) (if b then sent ∷ sents else sents))
  push true post sent posts sents here rest = (here, rest)
  push false post sent posts sents here rest = rest

  pub messages_stand : (posts : List (Post T Kind Op Delta ghosts)) (sents : List (SentPost Op)) (to : ℕ) → StandsForPosts ghosts.kind_of ghosts.IsDataOf kinds logs posts sents → AllZip Stands (messages_to posts to) (sent_to sents to)
  messages_stand [] [] to all = tt
  messages_stand [] (sent ∷ sents) to all = absurd all
  messages_stand (post ∷ posts) [] to all = absurd all
  messages_stand (post ∷ posts) (sent ∷ sents) to all =
      subst (λ (b : Bool). AllZip Stands (messages_to (post ∷ posts) to) (map (λ (p : SentPost Op). p.message) (if b then sent ∷ filter (λ (p : SentPost Op). p.to == to) sents else filter (λ (p : SentPost Op). p.to == to) sents))) (ap (λ i. i == to) (sym all.0.to))
      (push (post.to == to) post sent (filter (λ (p : Post T Kind Op Delta ghosts). p.to == to) posts) (filter (λ (p : SentPost Op). p.to == to) sents) all.0.message (messages_stand posts sents to all.1))

  link_extended : (o : Option (Channel (Message T Kind Op Delta ghosts))) (link : Link Op) (messages : List (Message T Kind Op Delta ghosts)) (sents : List (Sent Op)) → AllZip Stands messages sents → IsLink o link
      → IsLink (option_map (extended messages) o) (record { messages = link.messages ++ sents; next = link.next })
  link_extended None link messages sents all s = absurd s
  link_extended (Some channel) link messages sents all s = record { next = s.next; messages = zip_append Stands channel.messages messages link.messages sents s.messages all }

  module _ (old new : ℕ → ℕ → Option (Channel (Message T Kind Op Delta ghosts))) (links : Links Op) (from : ℕ) (posts : List (Post T Kind Op Delta ghosts)) (sents : List (SentPost Op)) (all : StandsForPosts ghosts.kind_of ghosts.IsDataOf kinds logs posts sents)
      (sends : (a b : ℕ) → new a b ≡ (if a == from then option_map (extended (messages_to posts b)) (old a b) else old a b)) where
    -- the posts of a member at the ends of its links
    pub links_sent : (a b : ℕ) → IsLink (old a b) (links a b) → IsLink (new a b) (with_posts links from sents a b)
    links_sent a b s = elim (eqb_tells a from) [
      | inl here ↦
          let now : new a b ≡ option_map (extended (messages_to posts b)) (old a b) = sends a b ∙ ap (λ x. if x then option_map (extended (messages_to posts b)) (old a b) else old a b) here.0 in
          let link : with_posts links from sents a b ≡ record { messages = (links a b).messages ++ sent_to sents b; next = (links a b).next } =
          ap (λ i. with_posts links i sents a b) (sym here.1) ∙ posts_here sents links a b in
          subst (λ o. IsLink o (with_posts links from sents a b)) (sym now) (subst (IsLink (option_map (extended (messages_to posts b)) (old a b))) (sym link) (link_extended (old a b) (links a b) (messages_to posts b) (sent_to sents b) (messages_stand posts sents b all) s))
      | inr other ↦
          let now : new a b ≡ old a b = sends a b ∙ ap (λ x. if x then option_map (extended (messages_to posts b)) (old a b) else old a b) other.0 in
          subst (λ o. IsLink o (with_posts links from sents a b)) (sym now) (subst (IsLink (old a b)) (sym (posts_elsewhere sents links from a b other.1)) s)
    ]

  -- A MESSAGE IS TAKEN OR LOST

  link_moved : (o : Option (Channel (Message T Kind Op Delta ghosts))) (link : Link Op) (index : ℕ) → IsLink o link → IsLink (option_map (passed index) o) (moved_link index link)
  link_moved None link index s = absurd s
  link_moved (Some channel) link index s = record { next = ap (λ n. if n == index then suc index else n) s.next; messages = s.messages }

  module _ (old new : ℕ → ℕ → Option (Channel (Message T Kind Op Delta ghosts))) (links : Links Op) (from to index : ℕ) (changes : (a b : ℕ) → new a b ≡ (if (a == from) && (b == to) then option_map (passed index) (old a b) else old a b)) where
    beside : (a b : ℕ) → new a b ≡ old a b → moved_on links from to index a b ≡ links a b → IsLink (old a b) (links a b) → IsLink (new a b) (moved_on links from to index a b)
    beside a b now link s = subst (λ o. IsLink o (moved_on links from to index a b)) (sym now) (subst (IsLink (old a b)) (sym link) s)

    neither_way : (x : Bool) (one other : Option (Channel (Message T Kind Op Delta ghosts))) → (if x && false then one else other) ≡ other
    neither_way true one other = refl
    neither_way false one other = refl

    pub links_moved : (a b : ℕ) → IsLink (old a b) (links a b) → IsLink (new a b) (moved_on links from to index a b)
    links_moved a b s = elim (eqb_tells a from) [
      | inl here ↦ elim (eqb_tells b to) [
        | inl there ↦
            let now : new a b ≡ option_map (passed index) (old a b) =
            changes a b ∙ ap (λ x. if x && (b == to) then option_map (passed index) (old a b) else old a b) here.0 ∙ ap (λ x. if x then option_map (passed index) (old a b) else old a b) there.0 in
            let link : moved_on links from to index a b ≡ moved_link index (links a b) = ap (λ i. moved_on links i to index a b) (sym here.1) ∙ ap (λ i. moved_on links a i index a b) (sym there.1) ∙ moved_here links a b index in
            subst (λ o. IsLink o (moved_on links from to index a b)) (sym now) (subst (IsLink (option_map (passed index) (old a b))) (sym link) (link_moved (old a b) (links a b) index s))
        | inr other ↦
            beside a b (changes a b ∙ ap (λ x. if (a == from) && x then option_map (passed index) (old a b) else old a b) other.0 ∙ neither_way (a == from) (option_map (passed index) (old a b)) (old a b))
            (ap (λ i. moved_on links i to index a b) (sym here.1) ∙ moved_beside links a to index b other.1) s
      ]
      | inr other ↦
          beside a b (changes a b ∙ ap (λ x. if x && (b == to) then option_map (passed index) (old a b) else old a b) other.0)
          (moved_elsewhere links from to index a b other.1) s
    ]

  -- WHAT IS PRINTED OF A MESSAGE

  pub same_sketch : (message : Message T Kind Op Delta ghosts) (sent : Sent Op) → Stands message sent → sketch_of message ≡ sketched sent
  same_sketch (Deltas groups entries) sent s =
      (λ i. record {
        kind = kind.Deltas;
        first = zip_length (StandsForKeyedGroup kinds logs) groups s.sent_groups s.groups_stand i;
        second = zip_length (StandsForKeyed ghosts.kind_of ghosts.IsDataOf kinds logs) entries s.sent_entries s.entries_stand i;
      })
      ∙ sym (ap sketched s.is)
  same_sketch (Status digests) sent s = (λ i. record { kind = kind.Status; first = sym (length-map digests digest_told) i; second = 0 }) ∙ sym (ap sketched s)
  same_sketch (Gossip entries wants) sent s =
      (λ i. record { kind = kind.Gossip; first = zip_length (StandsForKeyed ghosts.kind_of ghosts.IsDataOf kinds logs) entries s.sent_entries s.entries_stand i; second = length wants }) ∙ sym (ap sketched s.is)
  same_sketch (Write op key envelope) sent s = sym (ap sketched s.is)
  same_sketch (ReadAnswer op key (Some envelope)) sent s = sym (ap sketched s.is)
  same_sketch _ sent s = sym (ap sketched s)

  pub same_told : (posts : List (Post T Kind Op Delta ghosts)) (sents : List (SentPost Op)) → StandsForPosts ghosts.kind_of ghosts.IsDataOf kinds logs posts sents → map told_of posts ≡ map sketched_post sents
  same_told [] [] all = refl
  same_told [] (sent ∷ sents) all = absurd all
  same_told (post ∷ posts) [] all = absurd all
  same_told (post ∷ posts) (sent ∷ sents) all = λ i. record { to = sym all.0.to i; sketch = same_sketch post.message sent.message all.0.message i } ∷ same_told posts sents all.1 i

module _ {M : Type 0} where
  commute : (index : ℕ) (messages : List M) (o : Option (Channel M)) → option_map (passed index) (option_map (extended messages) o) ≡ option_map (extended messages) (option_map (passed index) o)
  commute index messages None = refl
  commute index messages (Some channel) = refl

  -- what is first sent and then passed may be first passed and then sent
  pub passed_first : (old mid new : ℕ → ℕ → Option (Channel M)) (at : ℕ) (messages : ℕ → List M) (from to index : ℕ)
      → ((a b : ℕ) → mid a b ≡ (if a == at then option_map (extended (messages b)) (old a b) else old a b))
      → ((a b : ℕ) → new a b ≡ (if (a == from) && (b == to) then option_map (passed index) (mid a b) else mid a b))
      → (a b : ℕ) → new a b ≡ (if a == at then option_map (extended (messages b)) (if (a == from) && (b == to) then option_map (passed index) (old a b) else old a b) else (if (a == from) && (b == to) then option_map (passed index) (old a b) else old a b))
  passed_first old mid new at messages from to index sends passes a b = passes a b ∙ ap (λ o. if (a == from) && (b == to) then option_map (passed index) o else o) (sends a b) ∙ go (a == at) ((a == from) && (b == to))
    where
      go : (x y : Bool) → (if y then option_map (passed index) (if x then option_map (extended (messages b)) (old a b) else old a b) else (if x then option_map (extended (messages b)) (old a b) else old a b))
          ≡ (if x then option_map (extended (messages b)) (if y then option_map (passed index) (old a b) else old a b) else (if y then option_map (passed index) (old a b) else old a b))
      go true true = commute index (messages b) (old a b)
      go true false = refl
      go false true = refl
      go false false = refl
