-- A member's posts at the ends of its links.
--     row_at, changed_one        what a change of one row leaves at each channel
--     room_after, sends_more        links with room for more messages, one message later
--     IsSentSoFar, steps_on_links        how far the posts have come, and the step whose posts they are
use Rattle.std.proofs.Common.{◌≡◌, ◌≢◌, ℕ, ◌<◌, ◌≤◌, List, length, map, get_or, set, replicate, refl, sym, ap, ◌∙◌, arith, Bool, true, false, Option, Some, None, inl, inr, ◌+◌, [], ◌∷◌, ◌++◌, take, subst, ◌⊎◌, Vec, Global, append_assoc, length-append, Result, Ok, Err}
use Rattle.std.specs.Prelude.{if◌then◌else◌, slice_get, option_map, option_and_then, ◌==◌, ◌&&◌, nat_lt, ◌||◌, vec_len, vec_capacity, filter, OnErr}
use Rattle.std.specs.List.{list_any, list_all}
use Rattle.std.proofs.lemmas.Bool.Decides.{eqb_tells}
use Rattle.std.proofs.lemmas.Option.{slice_get-map, slice_get-get_or, slice_get_past}
use Rattle.std.proofs.lemmas.List.Elements.{filter-append}
use Rattle.std.proofs.lemmas.List.{map-append}
use Rattle.std.proofs.lemmas.Bool.{eq-eqb, ne_eqb, eqb-true, or_cases, and_parts}
use Rattle.std.proofs.lemmas.List.Folds.{list_any_more, list_all-append}
use Rattle.std.proofs.Math.Seq.{map-set_same}
use Rattle.model_history.specs.Vector.{IdentitySet}
use Rattle.model_history.proofs.HistoryLaws.{append_nothing}
use Rattle.model_members.specs.View.{Member, View}
use Rattle.member_keeper.specs.declared.keeper.Keeper.{Ghosts as Keeping}
use Rattle.data_lattice.specs.declared.replica.Replica.{Ghosts}
use Rattle.data_lattice.specs.declared.spelled.SpelledData.{Ghosts as Spelling}
use Rattle.member_messages.specs.declared.message.Message.{Message}
use Rattle.member_messages.specs.declared.message.Post.{Post}
use Rattle.member_node.specs.declared.node.Node.{Node}
use Rattle.member_node.specs.declared.input.Input.{Input}
use Rattle.member_node.specs.declared.reply.Output.{Output}
use Rattle.member_node.specs.Steps.{MakesStep, IsStepOf}
use Rattle.world_places.specs.Channels.{Channel, channel_at, ChangesOne, channel_of, row_of, made, channels_in, extended, Channels}
use Rattle.world_places.specs.declared.links.Link.{Link}
use Rattle.world_places.specs.Sending.{HasRoom, messages_to, AreAppended, told_of, receivers, most_posts, Sends, IsStepOnRow, IsStepOnLinks}
use Rattle.world_places.specs.declared.sending.Answered.{Answered}
use Rattle.world_places.specs.declared.sent.SentTo.{SentTo}
use Rattle.world_places.proofs.Lists.{slice_get-set_same, slice_get-set_other, slice_get-replicate}
use Rattle.world_places.proofs.Made.{made_mapped}

module _ {R M : Type 0} (seen : R → List (Channel M)) where
  in_row : (o : Option R) (rows : List R) (a b : ℕ) → slice_get rows a ≡ o → channel_at (map seen rows) a b ≡ option_and_then (λ (row : R). slice_get (seen row) b) o
  in_row None rows a b e = ap (option_and_then (λ (row : List (Channel M)). slice_get row b)) (slice_get-map seen rows a ∙ ap (option_map seen) e)
  in_row (Some row) rows a b e = ap (option_and_then (λ (row : List (Channel M)). slice_get row b)) (slice_get-map seen rows a ∙ ap (option_map seen) e)

  pub row_at : (rows : List R) (a b : ℕ) (old : R) → a < length rows → old ≡ get_or rows a old → channel_at (map seen rows) a b ≡ slice_get (seen old) b
  row_at rows a b old within is = in_row (Some old) rows a b (slice_get-get_or rows a old within ∙ ap Some (sym is))

  pub row_past : (rows : List R) (a b : ℕ) → length rows ≤ a → channel_at (map seen rows) a b ≡ None
  row_past rows a b past = in_row None rows a b (slice_get_past rows a past)

  pub row_set : (rows : List R) (a b : ℕ) (new : R) → a < length rows → channel_at (map seen (set rows a new)) a b ≡ slice_get (seen new) b
  row_set rows a b new within = in_row (Some new) (set rows a new) a b (slice_get-set_same rows a new within)

  pub row_kept : (rows : List R) (from a b : ℕ) (new : R) → a ≢ from → channel_at (map seen (set rows from new)) a b ≡ channel_at (map seen rows) a b
  row_kept rows from a b new other =
      in_row (slice_get rows a) (set rows from new) a b (slice_get-set_other rows from a new other) ∙ sym (in_row (slice_get rows a) rows a b refl)

  module _ (h : Channel M → Channel M) where
    pub changed_one : (rows : List R) (from to : ℕ) (old new : R) → from < length rows → old ≡ get_or rows from old
        → ((b : ℕ) → slice_get (seen new) b ≡ (if b == to then option_map h (slice_get (seen old) b) else slice_get (seen old) b)) → ChangesOne h from to (map seen rows) (map seen (set rows from new))
    changed_one rows from to old new within is each a b = elim (eqb_tells a from) [
      | inl here ↦
          let there : channel_at (map seen rows) a b ≡ slice_get (seen old) b = ap (λ i. channel_at (map seen rows) i b) here.1 ∙ row_at rows from b old within is in
          ap (λ i. channel_at (map seen (set rows from new)) i b) here.1 ∙ row_set rows from b new within ∙ each b
          ∙ sym (ap (λ x. if x && (b == to) then option_map h (channel_at (map seen rows) a b) else channel_at (map seen rows) a b) here.0 ∙ ap (λ o. if b == to then option_map h o else o) there)
      | inr other ↦ row_kept rows from a b new other.1 ∙ sym (ap (λ x. if x && (b == to) then option_map h (channel_at (map seen rows) a b) else channel_at (map seen rows) a b) other.0)
    ]

    pub changed_none : (rows : List R) (from to : ℕ) → length rows ≤ from → ChangesOne h from to (map seen rows) (map seen rows)
    changed_none rows from to past a b = elim (eqb_tells a from) [
      | inl here ↦
          let none : channel_at (map seen rows) a b ≡ None = row_past rows a b (let e = here.1 in omega arith) in
          none ∙ sym (ap (λ o. if (a == from) && (b == to) then option_map h o else o) none ∙ both_none ((a == from) && (b == to)))
      | inr other ↦ sym (ap (λ x. if x && (b == to) then option_map h (channel_at (map seen rows) a b) else channel_at (map seen rows) a b) other.0)
    ]
      where
        both_none : (x : Bool) → (if x then option_map h None else None) ≡ None
        both_none true = refl
        both_none false = refl

-- links between so many members that are all alike
pub channel_at-replicate : {M : Type 0} (n : ℕ) (channel : Channel M) (from to : ℕ) → channel_at (replicate n (replicate n channel)) from to ≡ (if nat_lt from n && nat_lt to n then Some channel else None)
channel_at-replicate n channel from to = ap (option_and_then (λ (row : List (Channel _)). slice_get row to)) (slice_get-replicate n from (replicate n channel)) ∙ go (nat_lt from n)
  where
    go : (b : Bool) → option_and_then (λ (row : List (Channel _)). slice_get row to) (if b then Some (replicate n channel) else None) ≡ (if b && nat_lt to n then Some channel else None)
    go true = slice_get-replicate n to channel
    go false = refl

-- ROOM

module _ {M : Type 0} where
  pub less_room : (ids : IdentitySet) (row : Vec (Link M) Global) (more room : ℕ) → room ≤ more → HasRoom ids more row → HasRoom ids room row
  less_room ids row more room le has k link in_ids here = let h = has k link in_ids here in omega arith

  -- the link that is at a place has room
  pub room_at : (ids : IdentitySet) (row : Vec (Link M) Global) (room to : ℕ) (old : Link M) → to < length row.items → ids to ≡ true → old ≡ get_or row.items to old → HasRoom ids room row → vec_len old.messages + room ≤ vec_capacity old.messages
  room_at ids row room to old within in_ids is has = has to old in_ids (slice_get-get_or row.items to old within ∙ ap Some (sym is))

  -- at another place, and where the capacity and the count at one place are others
  pub room_set : (ids : IdentitySet) (row new : Vec (Link M) Global) (room less to : ℕ) (link : Link M) → to < length row.items → new.items ≡ set row.items to link → less ≤ room → HasRoom ids room row → (ids to ≡ true → vec_len link.messages + less ≤ vec_capacity link.messages) → HasRoom ids less new
  room_set ids row new room less to link within items le has here_room k other in_ids here =
      let there : slice_get (set row.items to link) k ≡ Some other = sym (ap (λ (xs : List (Link M)). slice_get xs k) items) ∙ here in
      elim (eqb_tells k to) [
        | inl same ↦
            let this : link ≡ other = (let e : Some link ≡ Some other = sym (slice_get-set_same row.items to link within) ∙ sym (ap (slice_get (set row.items to link)) same.1) ∙ there in cc e) in
            subst (λ (l : Link M). vec_len l.messages + less ≤ vec_capacity l.messages) this (here_room (sym (ap ids same.1) ∙ in_ids))
        | inr apart ↦ let h = has k other in_ids (sym (slice_get-set_other row.items to k link apart.1) ∙ there) in omega arith
      ]

  -- one link has a message more
  pub room_after : (ids : IdentitySet) (row new : Vec (Link M) Global) (room to : ℕ) (old link : Link M) → to < length row.items → old ≡ get_or row.items to old → new.items ≡ set row.items to link → HasRoom ids (room + 1) row
      → vec_len link.messages ≤ vec_len old.messages + 1 → vec_capacity old.messages ≤ vec_capacity link.messages → HasRoom ids room new
  room_after ids row new room to old link within is items has longer kept =
      room_set ids row new (room + 1) room to link within items (omega arith) has (λ in_ids. let h = room_at ids row (room + 1) to old within in_ids is has in omega arith)

  -- one link has more room
  pub room_kept : (ids : IdentitySet) (row new : Vec (Link M) Global) (room to : ℕ) (old link : Link M) → to < length row.items → old ≡ get_or row.items to old → new.items ≡ set row.items to link
      → vec_len link.messages ≡ vec_len old.messages → vec_capacity old.messages ≤ vec_capacity link.messages → HasRoom ids room row → HasRoom ids room new
  room_kept ids row new room to old link within is items same kept has =
      room_set ids row new room room to link within items (omega arith) has (λ in_ids. let h = room_at ids row room to old within in_ids is has in omega arith)

  -- the link to one identity has room
  pub room_made : (row new : Vec (Link M) Global) (room to : ℕ) (link : Link M) → to < length row.items → new.items ≡ set row.items to link → vec_len link.messages + room ≤ vec_capacity link.messages → HasRoom (λ id. id == to) room new
  room_made row new room to link within items has k other in_ids here =
      let same : k ≡ to = eqb-true k to in_ids in
      let there : slice_get (set row.items to link) to ≡ Some other = sym (ap (λ (xs : List (Link M)). slice_get xs to) items) ∙ ap (slice_get new.items) (sym same) ∙ here in
      let this : link ≡ other = (let e : Some link ≡ Some other = sym (slice_get-set_same row.items to link within) ∙ there in cc e) in
      subst (λ (l : Link M). vec_len l.messages + room ≤ vec_capacity l.messages) this has

  -- room for these, and for one more
  pub room_more : (ids more all : IdentitySet) (row : Vec (Link M) Global) (room : ℕ) → ((k : ℕ) → all k ≡ true → (ids k ≡ true) ⊎ (more k ≡ true)) → HasRoom ids room row → HasRoom more room row → HasRoom all room row
  room_more ids more all row room either has has_more k link in_all here = elim (either k in_all) [ inl e ↦ has k link e here | inr e ↦ has_more k link e here ]

  pub extended_none : (b : ℕ) (o : Option (Channel M)) → o ≡ option_map (extended []) o
  extended_none b None = refl
  extended_none b (Some channel) = ap (λ messages. Some (record channel { messages = messages })) (sym (append_nothing channel.messages))

  pub extended_twice : (xs ys : List M) (o : Option (Channel M)) → option_map (extended ys) (option_map (extended xs) o) ≡ option_map (extended (xs ++ ys)) o
  extended_twice xs ys None = refl
  extended_twice xs ys (Some channel) = ap (λ messages. Some (record channel { messages = messages })) (append_assoc channel.messages xs ys)

module _ {T Kind Op Delta : Type 0} {ghosts : Ghosts T Kind Op Delta} where
  pub messages_push : (posts : List (Post T Kind Op Delta ghosts)) (post : Post T Kind Op Delta ghosts) (b : ℕ) → messages_to (posts ++ post ∷ []) b ≡ messages_to posts b ++ (if post.to == b then post.message ∷ [] else [])
  messages_push posts post b =
      ap (map (λ (p : Post T Kind Op Delta ghosts). p.message)) (filter-append (λ (p : Post T Kind Op Delta ghosts). p.to == b) posts (post ∷ [])) ∙ map-append (λ (p : Post T Kind Op Delta ghosts). p.message) (filter (λ (p : Post T Kind Op Delta ghosts). p.to == b) posts) _
      ∙ ap (λ xs. messages_to posts b ++ xs) (one (post.to == b))
    where
      one : (x : Bool) → map (λ (p : Post T Kind Op Delta ghosts). p.message) (if x then post ∷ [] else []) ≡ (if x then post.message ∷ [] else [])
      one true = refl
      one false = refl

  -- the posts so far, and one more
  pub sends_more : (posts : List (Post T Kind Op Delta ghosts)) (post : Post T Kind Op Delta ghosts) (start now later : ℕ → Option (Channel (Message T Kind Op Delta ghosts))) → ((b : ℕ) → now b ≡ option_map (extended (messages_to posts b)) (start b))
      → ((b : ℕ) → later b ≡ (if b == post.to then option_map (extended (post.message ∷ [])) (now b) else now b)) → (b : ℕ) → later b ≡ option_map (extended (messages_to (posts ++ post ∷ []) b)) (start b)
  sends_more posts post start now later so_far step b = elim (eqb_tells b post.to) [
    | inl here ↦
        step b ∙ ap (λ x. if x then option_map (extended (post.message ∷ [])) (now b) else now b) here.0 ∙ ap (option_map (extended (post.message ∷ []))) (so_far b)
        ∙ extended_twice (messages_to posts b) (post.message ∷ []) (start b)
        ∙ ap (λ xs. option_map (extended (messages_to posts b ++ xs)) (start b)) (sym (ap (λ x. if x then post.message ∷ [] else []) (ap (λ i. post.to == i) here.1 ∙ eq-eqb post.to post.to refl)))
        ∙ ap (λ xs. option_map (extended xs) (start b)) (sym (messages_push posts post b))
    | inr there ↦
        step b ∙ ap (λ x. if x then option_map (extended (post.message ∷ [])) (now b) else now b) there.0 ∙ so_far b
        ∙ ap (λ xs. option_map (extended xs) (start b)) (sym (append_nothing (messages_to posts b)) ∙ ap (λ xs. messages_to posts b ++ xs) (sym (ap (λ x. if x then post.message ∷ [] else []) (ne_eqb post.to b (λ e. there.1 (sym e))))) ∙ sym (messages_push posts post b))
  ]

module _ {M : Type 0} where
  -- room for the members so far, and for one more
  pub room_for_more : (members : List Member) (i : ℕ) (member : Member) → i < length members → member ≡ get_or members i member → (row : Vec (Link M) Global) (room : ℕ) → HasRoom (λ id. list_any (λ (m : Member). m.identity == id) (take i members)) room row → HasRoom (λ id. id == member.identity) room row
      → HasRoom (λ id. list_any (λ (m : Member). m.identity == id) (take (i + 1) members)) room row
  room_for_more members i member within is row room has one =
      room_more (λ id. list_any (λ (m : Member). m.identity == id) (take i members)) (λ id. id == member.identity) (λ id. list_any (λ (m : Member). m.identity == id) (take (i + 1) members)) row room
      (λ k in_all. elim (or_cases (list_any (λ (m : Member). m.identity == k) (take i members)) ((get_or members i member).identity == k) (sym (list_any_more (λ (m : Member). m.identity == k) members i member within) ∙ in_all)) [
        | inl e ↦ inl e
        | inr e ↦ inr (eq-eqb k member.identity (sym (ap (λ (m : Member). m.identity) is ∙ eqb-true (get_or members i member).identity k e)))
      ]) has one

  pub room_for_members : (members taken : List Member) → taken ≡ members → (row : Vec (Link M) Global) (room : ℕ) → HasRoom (λ id. list_any (λ (m : Member). m.identity == id) taken) room row → HasRoom (λ id. list_any (λ j. j == id) (map (λ (m : Member). m.identity) members)) room row
  room_for_members members taken same row room has k link in_ids = has k link (ap (list_any (λ (m : Member). m.identity == k)) same ∙ sym (any_map members) ∙ in_ids)
    where
      any_map : (ms : List Member) → list_any (λ j. j == k) (map (λ (m : Member). m.identity) ms) ≡ list_any (λ (m : Member). m.identity == k) ms
      any_map [] = refl
      any_map (m ∷ ms) = ap (λ b. (m.identity == k) || b) (any_map ms)

  -- a link whose messages are the same is seen as before
  pub same_row : (row : Vec (Link M) Global) (index : ℕ) (old : Link M) (messages : Vec M Global) → old ≡ get_or row.items index old → messages.items ≡ old.messages.items → map channel_of (set row.items index (record old { messages = messages })) ≡ row_of row
  same_row row index old messages is same = map-set_same channel_of row.items index (record old { messages = messages }) old (ap (λ (xs : List M). record { messages = xs; next = old.next }) same ∙ ap channel_of is)

-- POSTS

module _ {T Kind Op Delta : Type 0} {ghosts : Ghosts T Kind Op Delta} where
  -- where there was room, these posts stand at the ends, and there is room for the rest
  pub record IsSentSoFar (start : Vec (Link (Message T Kind Op Delta ghosts)) Global) (posts : List (Post T Kind Op Delta ghosts)) (now : Vec (Link (Message T Kind Op Delta ghosts)) Global) : Type 0 where
    pub room : (ids : IdentitySet) (rest : ℕ) → HasRoom ids (rest + length posts) start → HasRoom ids rest now
    pub sent : (ids : IdentitySet) (rest : ℕ) → HasRoom ids (rest + length posts) start → list_all (λ (post : Post T Kind Op Delta ghosts). ids post.to) posts ≡ true → (b : ℕ) → slice_get (row_of now) b ≡ option_map (extended (messages_to posts b)) (slice_get (row_of start) b)

  pub record IsToldSoFar (start : Vec SentTo Global) (posts : List (Post T Kind Op Delta ghosts)) (now : Vec SentTo Global) : Type 0 where
    pub room : vec_len start + length posts ≤ vec_capacity start → vec_len now ≡ vec_len start + length posts
    pub capacity : vec_capacity start ≤ vec_capacity now
    pub told : vec_len start + length posts ≤ vec_capacity start → now.items ≡ start.items ++ map told_of posts

  sent_none : (start : Vec (Link (Message T Kind Op Delta ghosts)) Global) → IsSentSoFar start [] start
  sent_none start =
      record {
        room = λ ids rest has. less_room ids start (rest + 0) rest (omega arith) has;
        sent = λ ids rest has all b. extended_none b (slice_get (row_of start) b);
      }

  told_none : (start : Vec SentTo Global) → IsToldSoFar start [] start
  told_none start = record { room = λ h. omega arith; capacity = omega arith; told = λ h. sym (append_nothing start.items) }

  pub none_yet : (row : Vec (Link (Message T Kind Op Delta ghosts)) Global) (told : Vec SentTo Global) → IsSentSoFar row [] row × IsToldSoFar told [] told
  none_yet row told = (sent_none row, told_none told)

  pub sent_more : (start now later : Vec (Link (Message T Kind Op Delta ghosts)) Global) (posts : List (Post T Kind Op Delta ghosts)) (post : Post T Kind Op Delta ghosts) (to : ℕ) → to ≡ post.to → IsSentSoFar start posts now
      → ((ids : IdentitySet) (room : ℕ) → HasRoom ids (room + 1) now → ids to ≡ true → (b : ℕ) → slice_get (row_of later) b ≡ (if b == to then option_map (extended (post.message ∷ [])) (slice_get (row_of now) b) else slice_get (row_of now) b))
      → ((ids : IdentitySet) (room : ℕ) → HasRoom ids (room + 1) now → HasRoom ids room later) → IsSentSoFar start (posts ++ post ∷ []) later
  sent_more start now later posts post to is so_far sent room =
      let longer = length-append posts (post ∷ []) in
      let before : (ids : IdentitySet) (rest : ℕ) → HasRoom ids (rest + length (posts ++ post ∷ [])) start → HasRoom ids (rest + 1 + length posts) start = λ ids rest has. less_room ids start (rest + length (posts ++ post ∷ [])) (rest + 1 + length posts) (omega arith) has in
      record {
        room = λ ids rest has. room ids rest (so_far.room ids (rest + 1) (before ids rest has));
        sent = λ ids rest has all b.
            let goes = λ (p : Post T Kind Op Delta ghosts). ids p.to in
            let parts = and_parts (list_all goes posts) (list_all goes (post ∷ [])) (sym (list_all-append goes posts (post ∷ [])) ∙ all) in
            let last = and_parts (ids post.to) true parts.1 in
            sends_more posts post (slice_get (row_of start)) (slice_get (row_of now)) (slice_get (row_of later)) (so_far.sent ids (rest + 1) (before ids rest has) parts.0)
            (λ b. sent ids rest (so_far.room ids (rest + 1) (before ids rest has)) (ap ids is ∙ last.0) b ∙ ap (λ i. if b == i then option_map (extended (post.message ∷ [])) (slice_get (row_of now) b) else slice_get (row_of now) b) is) b;
      }

  pub told_more : (start now later : Vec SentTo Global) (posts : List (Post T Kind Op Delta ghosts)) (post : Post T Kind Op Delta ghosts) (sent : SentTo) (pushed : Bool) → sent ≡ told_of post → IsToldSoFar start posts now
      → (vec_len now < vec_capacity now → pushed ≡ true) → later.items ≡ (if pushed then now.items ++ sent ∷ [] else now.items) → vec_len later ≡ (if pushed then vec_len now + 1 else vec_len now) → vec_capacity now ≤ vec_capacity later → IsToldSoFar start (posts ++ post ∷ []) later
  told_more start now later posts post sent pushed is so_far succeeds items len capacity =
      let longer = length-append posts (post ∷ []) in
      let first : vec_len start + length (posts ++ post ∷ []) ≤ vec_capacity start → vec_len start + length posts ≤ vec_capacity start = λ h. omega arith in
      let ok : vec_len start + length (posts ++ post ∷ []) ≤ vec_capacity start → pushed ≡ true = λ h. succeeds (let a = so_far.room (first h) in let b = so_far.capacity in omega arith) in
      record {
        room = λ h. let a = so_far.room (first h) in let b = len ∙ ap (λ x. if x then vec_len now + 1 else vec_len now) (ok h) in omega arith;
        capacity = let a = so_far.capacity in omega arith;
        told = λ h.
            items ∙ ap (λ x. if x then now.items ++ sent ∷ [] else now.items) (ok h) ∙ ap (λ (x : List SentTo). x ++ sent ∷ []) (so_far.told (first h)) ∙ append_assoc start.items (map told_of posts) (sent ∷ [])
            ∙ ap (λ (x : SentTo). start.items ++ (map told_of posts ++ x ∷ [])) is ∙ ap (λ (x : List SentTo). start.items ++ x) (sym (map-append told_of posts (post ∷ [])));
      }

-- WEAKER CLAUSES

pub weaker_err : {A B : Type 0} (r : Result A B) (P Q : Type 0) → (P → Q) → OnErr r P → OnErr r Q
weaker_err (Ok x) P Q f h = tt
weaker_err (Err e) P Q f h = f h

-- ROWS AND LINKS

module _ {T Kind Op Delta : Type 0} {ghosts : Ghosts T Kind Op Delta} where
  -- a row whose posts stand at the ends of its channels, among all rows
  pub row_sends : (rows : List (Vec (Link (Message T Kind Op Delta ghosts)) Global)) (from : ℕ) (old new : Vec (Link (Message T Kind Op Delta ghosts)) Global) (posts : List (Post T Kind Op Delta ghosts)) → from < length rows → old ≡ get_or rows from old
      → ((b : ℕ) → slice_get (channels_in new) b ≡ option_map (extended (messages_to posts b)) (slice_get (channels_in old) b)) → Sends from posts (map channels_in rows) (map channels_in (set rows from new))
  row_sends rows from old new posts within is each a b = elim (eqb_tells a from) [
    | inl here ↦
        ap (λ i. channel_at (map channels_in (set rows from new)) i b) here.1 ∙ row_set channels_in rows from b new within ∙ each b
        ∙ ap (option_map (extended (messages_to posts b))) (sym (ap (λ i. channel_at (map channels_in rows) i b) here.1 ∙ row_at channels_in rows from b old within is))
        ∙ sym (ap (λ x. if x then option_map (extended (messages_to posts b)) (channel_at (map channels_in rows) a b) else channel_at (map channels_in rows) a b) here.0)
    | inr other ↦
        row_kept channels_in rows from a b new other.1 ∙ sym (ap (λ x. if x then option_map (extended (messages_to posts b)) (channel_at (map channels_in rows) a b) else channel_at (map channels_in rows) a b) other.0)
  ]

  pub same_rows : (rows : List (Vec (Link (Message T Kind Op Delta ghosts)) Global)) (from : ℕ) (old new : Vec (Link (Message T Kind Op Delta ghosts)) Global) → old ≡ get_or rows from old → channels_in new ≡ channels_in old → map channels_in (set rows from new) ≡ map channels_in rows
  same_rows rows from old new is same = map-set_same channels_in rows from new old (same ∙ ap channels_in is)

-- STEPS

module _ {T K Kind Op Delta : Type 0} {ghosts : Ghosts T Kind Op Delta} {keeping : Keeping K} (spelling : Spelling T Kind Op Delta) (before : Node T K Kind Op Delta ghosts keeping) (input : Input T Kind Op Delta ghosts) (answered : Answered) (after : Node T K Kind Op Delta ghosts keeping) where
  -- a step whose posts went to the ends of a row that had been given room
  pub steps_on_row : (output : Output T Kind Op Delta ghosts) (old roomy new : Vec (Link (Message T Kind Op Delta ghosts)) Global) (told : Vec SentTo Global) (view : View) (room : ℕ) → MakesStep spelling before input output after → answered.reply ≡ output.reply → answered.finished ≡ output.finished
      → view ≡ before.view → room ≡ most_posts view input → row_of roomy ≡ row_of old → HasRoom (receivers view input) room roomy
      → ((ids : IdentitySet) (room : ℕ) → HasRoom ids room roomy → length output.posts ≤ room → list_all (λ (post : Post T Kind Op Delta ghosts). ids post.to) output.posts ≡ true → (b : ℕ) → slice_get (row_of new) b ≡ option_map (extended (messages_to output.posts b)) (slice_get (row_of roomy) b))
      → (told.items ≡ [] → length output.posts ≤ vec_capacity told → answered.sent ≡ map told_of output.posts) → told.items ≡ [] → room ≤ vec_capacity told → IsStepOnRow spelling before input answered after (row_of old) (row_of new)
  steps_on_row output old roomy new told view room made reply finished viewed is_room same has sends tells none fits =
      let most : room ≡ most_posts before.view input = is_room ∙ ap (λ (v : View). most_posts v input) viewed in
      let has_room : HasRoom (receivers before.view input) room roomy = subst (λ (v : View). HasRoom (receivers v input) room roomy) viewed has in
      record {
        fate = made.fate;
        posts = output.posts;
        makes = subst (λ (o : Output T Kind Op Delta ghosts). IsStepOf spelling before input made.fate o after) (λ i. record { reply = sym reply i; posts = output.posts; finished = sym finished i }) made.makes;
        sends = λ few b. sends (receivers before.view input) room has_room (let n = few.few in omega arith) few.received b ∙ ap (λ (row : List (Channel (Message T Kind Op Delta ghosts))). option_map (extended (messages_to output.posts b)) (slice_get row b)) same;
        tells = λ few. tells none (let n = few.few in omega arith);
      }

  -- its links were made before
  pub step_made : (old mid new : List (Channel (Message T Kind Op Delta ghosts))) → mid ≡ made old → IsStepOnRow spelling before input answered after mid new → IsStepOnRow spelling before input answered after (made old) (made new)
  step_made old mid new e s =
      record {
        fate = s.fate;
        posts = s.posts;
        makes = s.makes;
        tells = s.tells;
        sends = λ few. let each = appended (s.sends few) in subst (AreAppended s.posts (made old)) (sym (made_mapped old new (extended (messages_to s.posts 0)) (each 0))) each;
      }
    where
      appended : AreAppended s.posts mid new → AreAppended s.posts (made old) new
      appended each = subst (λ (xs : List (Channel (Message T Kind Op Delta ghosts))). AreAppended s.posts xs new) e each

  -- the row among all rows
  pub steps_on_links : (rows : List (Vec (Link (Message T Kind Op Delta ghosts)) Global)) (sender from : ℕ) (old new : Vec (Link (Message T Kind Op Delta ghosts)) Global) (links : Channels (Message T Kind Op Delta ghosts)) → sender < length rows → old ≡ get_or rows sender old → sender ≡ from → map channels_in rows ≡ links
      → IsStepOnRow spelling before input answered after (channels_in old) (channels_in new) → IsStepOnLinks spelling before input answered after from links (map channels_in (set rows sender new))
  steps_on_links rows sender from old new links within is here seen s =
      let later = map channels_in (set rows sender new) in
      record {
        fate = s.fate;
        posts = s.posts;
        makes = s.makes;
        tells = s.tells;
        sends = λ few.
            subst (λ (l : Channels (Message T Kind Op Delta ghosts)). Sends from s.posts l later) seen
            (subst (λ (i : ℕ). Sends i s.posts (map channels_in rows) later) here (row_sends rows sender old new s.posts within is (s.sends few)));
      }
