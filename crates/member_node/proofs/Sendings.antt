-- What a member sends: gossip, a flush, and what it answers to a message.
-- How the keys of a member stand to digests, and what it answers.
-- A flush: what is sent, and what counts as sent after it.
-- What a member answers to a message: its reply and its posts.
use Rattle.std.proofs.Common.{◌≡◌, ℕ, arith, ◌<◌, List, [], ◌∷◌, ◌++◌, length, nat_eq, refl, sym, ap, ◌∙◌, subst, Bool, true, false, Option, Some, None, map, filter, find, option_map, if◌then◌else◌, ◌&&◌, bytes_eq, append-nil, ◌+◌, get_or, take, not, nat_lt, All, ◌==◌, ◌||◌, ◌≤◌, inl, inr}
use Rattle.std.specs.List.{AllZip, list_any, list_all}
use Rattle.std.proofs.lemmas.Bool.Decides.{Decides-eqb, eqb_tells}
use Rattle.std.proofs.lemmas.List.{map-append}
use Rattle.std.proofs.lemmas.List.Elements.{filter-append, All-head, All-tail}
use Rattle.std.proofs.lemmas.Simd.{map-map}
use Rattle.std.proofs.lemmas.Bool.{and_parts, eqb-true}
use Rattle.member_node.proofs.Common.{Text, VersionVector, IdentitySet, History, at, versions, uncleaned, Replication, has_records, is_unchanged, state_of, one_step_later, keyed_entry, gossip_to, after_groups, after_entries, step_of_take, named_entries, identities_of, number_at, performed_in, Shown, Ghosts, Keeping, Envelope, parts_of, entry_digest, Keyed, digest_told, StandsForEntry, StandsForKeyed, StandsForPosts, StandsForMessage, StandsForPost, Message, KeyState, declared_by, HoldsKey, Node, Change, Flushed, own_number, state_in, IsHeldBy, peers_of, changed, IsFlush, StandsForKey, StandsForNode, Reply, meant, is_pending, StandsForTaken, TellsGroups, TellsEntries, gap_told}
use Rattle.model_history.specs.Texts.{contains_text}
use Rattle.model_members.specs.Entry as model
use Rattle.model_members.specs.Entry.{group_after}
use Rattle.model_members.specs.Message as sending
use Rattle.model_members.specs.Message.{Message as Sent}
use Rattle.model_members.specs.Node as nodes
use Rattle.model_members.specs.Node.{key_states, Reply as Meant, Fate}
use Rattle.model_members.specs.Step as steps
use Rattle.model_members.specs.Step.{is_digest, named_digest, digest_of, deltas_for, goes_as_group, KeyGap, is_changed, take_reply, nack_to}
use Rattle.model_members.specs.View.{others}
use Rattle.model_members.proofs.Taking.{is_changed-any}
use Rattle.member_messages.specs.declared.message.Message.TheVariants.{Gossip, Deltas, Nack, Status, ReadAnswer}
use Rattle.member_messages.specs.Sketches.{groups_of as message_groups, entries_of as message_entries, names_of}
use Rattle.member_node.specs.Taking.{KeepsOwn}
use Rattle.member_node.specs.Gossip.{is_told}
use Rattle.member_node.specs.declared.change.Change.TheVariants.{Entry}
use Rattle.member_node.specs.Sending.{is_behind, groups_of, entries_of, is_sent, post_to, flushed_to}
use Rattle.member_node.specs.Answers.{reply_to, is_status, is_exchange, only_asks, nack_of, gossip_of, answers_of}
use Rattle.member_node.specs.declared.reply.Reply.TheVariants as reply
use Rattle.member_node.specs.Inputs.Tells.{nothing}
use Rattle.member_node.proofs.Standing.{find-map}
use Rattle.member_node.proofs.Lists.{one_more}

-- GOSSIP

-- what passes a test, one more
module _ {X Y Z : Type 0} (h : X → Y) (p : Y → Bool) (f : Y → Z) where
  chosen_more : (xs : List X) (x : X) (b : Bool) → p (h x) ≡ b → map f (filter p (map h (xs ++ x ∷ []))) ≡ map f (filter p (map h xs)) ++ (if b then f (h x) ∷ [] else [])
  chosen_more xs x b is =
      ap (λ ys. map f (filter p ys)) (map-append h xs (x ∷ []))
      ∙ ap (map f) (filter-append p (map h xs) (h x ∷ []))
      ∙ map-append f (filter p (map h xs)) (filter p (h x ∷ []))
      ∙ ap (λ ys. map f (filter p (map h xs)) ++ ys) (ap (λ c. map f (if c then h x ∷ [] else [])) is ∙ go b)
    where
      go : (b : Bool) → map f (if b then h x ∷ [] else []) ≡ (if b then f (h x) ∷ [] else [])
      go true = refl
      go false = refl

  pub chosen_one : (xs : List X) (x : X) → p (h x) ≡ true → map f (filter p (map h (xs ++ x ∷ []))) ≡ map f (filter p (map h xs)) ++ f (h x) ∷ []
  chosen_one xs x is = chosen_more xs x true is

  pub chosen_none : (xs : List X) (x : X) → p (h x) ≡ false → map f (filter p (map h (xs ++ x ∷ []))) ≡ map f (filter p (map h xs))
  chosen_none xs x is = chosen_more xs x false is ∙ append-nil (map f (filter p (map h xs)))

-- DIGESTS

module _ {Kind Op : Type 0} (D : Replication Kind Op Shown) where
  -- what is told of a key, as the model says it
  pub told_named : (digests : List (Keyed (List ℕ))) (key : Text) → option_map (λ (told : Keyed (List ℕ)). told.item) (find (λ (told : Keyed (List ℕ)). bytes_eq told.key key) digests) ≡ named_digest D (map digest_told digests) key
  told_named digests key = sym (ap (option_map (λ (d : sending.Keyed (List ℕ)). d.item)) (find-map (λ (d : sending.Keyed (List ℕ)). bytes_eq d.key key) digest_told digests) ∙ go (find (λ (told : Keyed (List ℕ)). bytes_eq told.key key) digests))
    where
      go : (o : Option (Keyed (List ℕ))) → option_map (λ (d : sending.Keyed (List ℕ)). d.item) (option_map digest_told o) ≡ option_map (λ (told : Keyed (List ℕ)). told.item) o
      go None = refl
      go (Some told) = refl

  pub is_told_is : (told : Option (List ℕ)) (own : List ℕ) → is_told told own ≡ is_digest D told own
  is_told_is None own = refl
  is_told_is (Some told) own = refl

-- KEYS

module _ {T Kind Op Delta : Type 0} where
  -- the keys of the model's member
  pub states_are : (node : nodes.Node Kind Op Shown) (keys : List (KeyState T Kind Op Delta)) → node.keys ≡ map declared_by keys → map (λ (state : KeyState T Kind Op Delta). state_of node (declared_by state)) keys ≡ key_states node
  states_are node keys declares = sym (ap (map (state_of node)) declares ∙ map-map (state_of node) declared_by keys)

  -- a key's entry, as it is sent
  pub keyed_of : (kind_of : T → Kind) (IsDataOf : T → History Op → VersionVector → IdentitySet → Type 0) (kinds : Text → Kind) (logs : Text → History Op) (node : nodes.Node Kind Op Shown) (state : KeyState T Kind Op Delta) (key : Text) (item : Envelope T Kind Op Delta)
      → HoldsKey kind_of IsDataOf kinds logs node state → key ≡ state.name → item ≡ state.entry → StandsForKeyed kind_of IsDataOf kinds logs (record { key = key; item = item }) (record { key = state.name; item = node.entries state.name })
  keyed_of kind_of IsDataOf kinds logs node state key item holds same same_item = record {
    same = sym same;
    held = subst (λ (k : Text). StandsForEntry kind_of IsDataOf kinds logs k item (node.entries state.name)) (sym same) (subst (λ (e : Envelope T Kind Op Delta). StandsForEntry kind_of IsDataOf kinds logs state.name e (node.entries state.name)) (sym same_item) holds.held);
  }

-- POSTS

some_left : (n : ℕ) (b : Bool) → 0 < n → (nat_eq n 0 && b) ≡ true → ⊥
some_left n b some e = let none = (Decides-eqb n 0).0 (and_parts (nat_eq n 0) b e).0 in omega arith

none_left : (n : ℕ) → 0 < n → nat_eq n 0 ≡ true → ⊥
none_left n some e = let none = (Decides-eqb n 0).0 e in omega arith

pub one_pushed : {X : Type 0} (R : List X → Type 0) (before after : List X) (x : X) → before ≡ [] → after ≡ before ++ x ∷ [] → R (x ∷ []) → R after
one_pushed R before after x none pushed r = subst R (sym (pushed ∙ ap (λ xs. xs ++ x ∷ []) none)) r

module _ {T Kind Op Delta : Type 0} (ghosts : Ghosts T Kind Op Delta) (kind_of : T → Kind) (IsDataOf : T → History Op → VersionVector → IdentitySet → Type 0) (kinds : Text → Kind) (logs : Text → History Op) (D : Replication Kind Op Shown) (to : ℕ) where
  pub nothing_stands : (entries : List (Keyed (Envelope T Kind Op Delta))) (wants : List Text) (sent : List (sending.Keyed (model.Entry Op))) → (nat_eq (length entries) 0 && nat_eq (length wants) 0) ≡ true
      → AllZip (StandsForKeyed kind_of IsDataOf kinds logs) entries sent → StandsForPosts {ghosts = ghosts} kind_of IsDataOf kinds logs [] (gossip_to D to sent wants)
  nothing_stands [] [] [] none z = tt
  nothing_stands [] [] (y ∷ ys) none z = absurd z
  nothing_stands [] (w ∷ ws) sent none z = absurd (none_left (length (w ∷ ws)) (omega arith) none)
  nothing_stands (x ∷ xs) wants sent none z = absurd (some_left (length (x ∷ xs)) (nat_eq (length wants) 0) (omega arith) none)

  pub gossip_stands : (entries : List (Keyed (Envelope T Kind Op Delta))) (wants : List Text) (sent : List (sending.Keyed (model.Entry Op))) → (nat_eq (length entries) 0 && nat_eq (length wants) 0) ≡ false
      → AllZip (StandsForKeyed kind_of IsDataOf kinds logs) entries sent → StandsForPosts {ghosts = ghosts} kind_of IsDataOf kinds logs (record { to = to; message = Gossip entries wants } ∷ []) (gossip_to D to sent wants)
  gossip_stands [] [] sent some z = absurd (cc some)
  gossip_stands [] (w ∷ ws) [] some z = (record { to = refl; message = record { sent_entries = []; is = refl; entries_stand = z } }, tt)
  gossip_stands [] (w ∷ ws) (y ∷ ys) some z = absurd z
  gossip_stands (x ∷ xs) wants [] some z = absurd z
  gossip_stands (x ∷ xs) [] (y ∷ ys) some z = (record { to = refl; message = record { sent_entries = y ∷ ys; is = refl; entries_stand = z } }, tt)
  gossip_stands (x ∷ xs) (w ∷ ws) (y ∷ ys) some z = (record { to = refl; message = record { sent_entries = y ∷ ys; is = refl; entries_stand = z } }, tt)

-- DIGESTS OF KEYS

module _ {T Kind Op Delta : Type 0} (history_byte : Kind → History Op → ℕ) (history_spelled : Kind → History Op → List ℕ) (kind_of : T → Kind) (IsDataOf : T → History Op → VersionVector → IdentitySet → Type 0) (kinds : Text → Kind) (logs : Text → History Op) (D : Replication Kind Op Shown) where
  -- the digest of a key's entry, as the model says it
  pub digest_is : D.digest ≡ entry_digest history_byte history_spelled → (node : nodes.Node Kind Op Shown) (state : KeyState T Kind Op Delta) → HoldsKey kind_of IsDataOf kinds logs node state
      → entry_digest history_byte history_spelled (kind_of state.entry.value) (node.entries state.name) ≡ digest_of D (state_of node (declared_by state))
  digest_is same node state holds =
      ap (λ kind. entry_digest history_byte history_spelled kind (node.entries state.name)) (holds.held.kind ∙ holds.kind) ∙ sym (λ i. same i state.kind (node.entries state.name))

-- A FLUSH

pub any_mapped : {X Y : Type 0} (h : X → Y) (p : X → Bool) (q : Y → Bool) (xs : List X) → All (λ x. p x ≡ q (h x)) xs → list_any p xs ≡ list_any q (map h xs)
any_mapped h p q [] each = refl
any_mapped h p q (x ∷ xs) each = λ i. (All-head (λ x. p x ≡ q (h x)) x xs each i || any_mapped h p q xs (All-tail (λ x. p x ≡ q (h x)) x xs each) i)

-- what passes one test after the other, one more
module _ {X Y : Type 0} (p q : X → Bool) (f : X → Y) where
  pub passing_more : (xs : List X) (x : X) → map f (filter q (filter p (xs ++ x ∷ []))) ≡ map f (filter q (filter p xs)) ++ map f (filter q (filter p (x ∷ [])))
  passing_more xs x =
      ap (λ ys. map f (filter q ys)) (filter-append p xs (x ∷ [])) ∙ ap (map f) (filter-append q (filter p xs) (filter p (x ∷ [])))
      ∙ map-append f (filter q (filter p xs)) (filter q (filter p (x ∷ [])))

  pub passes_neither : (x : X) → p x ≡ false → map f (filter q (filter p (x ∷ []))) ≡ []
  passes_neither x e = ap (λ b. map f (filter q (if b then x ∷ [] else []))) e

  pub passes_first : (x : X) → p x ≡ true → q x ≡ false → map f (filter q (filter p (x ∷ []))) ≡ []
  passes_first x e e' = ap (λ b. map f (filter q (if b then x ∷ [] else []))) e ∙ ap (λ b. map f (if b then x ∷ [] else [])) e'

  pub passes_both : (x : X) → p x ≡ true → q x ≡ true → map f (filter q (filter p (x ∷ []))) ≡ f x ∷ []
  passes_both x e e' = ap (λ b. map f (filter q (if b then x ∷ [] else []))) e ∙ ap (λ b. map f (if b then x ∷ [] else [])) e'

  passes_all : (x : X) (a b : Bool) → p x ≡ a → q x ≡ b → (a && b) ≡ true → map f (filter q (filter p (x ∷ []))) ≡ f x ∷ []
  passes_all x true true e e' both = passes_both x e e'
  passes_all x true false e e' both = absurd (cc both)
  passes_all x false b e e' both = absurd (cc both)

  passes_not : (x : X) (a b : Bool) → p x ≡ a → q x ≡ b → (a && b) ≡ false → map f (filter q (filter p (x ∷ []))) ≡ []
  passes_not x true true e e' either = absurd (cc either)
  passes_not x true false e e' either = passes_first x e e'
  passes_not x false b e e' either = passes_neither x e

  -- one that passes both, and one that doesn't
  pub passing_one : (xs : List X) (x : X) → (p x && q x) ≡ true → map f (filter q (filter p (xs ++ x ∷ []))) ≡ map f (filter q (filter p xs)) ++ f x ∷ []
  passing_one xs x both = passing_more xs x ∙ ap (λ ys. map f (filter q (filter p xs)) ++ ys) (passes_all x (p x) (q x) refl refl both)

  pub passing_none : (xs : List X) (x : X) → (p x && q x) ≡ false → map f (filter q (filter p (xs ++ x ∷ []))) ≡ map f (filter q (filter p xs))
  passing_none xs x either = passing_more xs x ∙ ap (λ ys. map f (filter q (filter p xs)) ++ ys) (passes_not x (p x) (q x) refl refl either) ∙ append-nil (map f (filter q (filter p xs)))

-- WHAT COUNTS AS SENT

any_last : {X : Type 0} (p : X → Bool) (xs : List X) (x : X) → list_any p (xs ++ x ∷ []) ≡ (list_any p xs || p x)
any_last p [] x = go (p x)
  where
    go : (b : Bool) → (b || false) ≡ b
    go true = refl
    go false = refl
any_last p (y ∷ xs) x = ap (λ b. p y || b) (any_last p xs x) ∙ go (p y)
  where
    go : (b : Bool) → (b || (list_any p xs || p x)) ≡ ((b || list_any p xs) || p x)
    go true = refl
    go false = refl

-- what was flushed to one peer more
module _ (id own before i : ℕ) (members : List ℕ) (peer : ℕ) where
  pub flushed_to-peer : (peer == id) ≡ false → flushed_to own (peers_of id (members ++ peer ∷ [])) before i ≡ (if peer == i then own else flushed_to own (peers_of id members) before i)
  flushed_to-peer other =
      ap (λ ps. flushed_to own ps before i) (filter-append (λ j. not (j == id)) members (peer ∷ []) ∙ ap (λ b. peers_of id members ++ (if not b then peer ∷ [] else [])) other)
      ∙ ap (λ b. if b then own else before) (any_last (λ j. j == i) (peers_of id members) peer) ∙ go (list_any (λ j. j == i) (peers_of id members)) (peer == i)
    where
      go : (a b : Bool) → (if a || b then own else before) ≡ (if b then own else (if a then own else before))
      go true true = refl
      go true false = refl
      go false true = refl
      go false false = refl

  pub flushed_to-itself : (peer == id) ≡ true → flushed_to own (peers_of id (members ++ peer ∷ [])) before i ≡ flushed_to own (peers_of id members) before i
  flushed_to-itself same =
      ap (λ ps. flushed_to own ps before i) (filter-append (λ j. not (j == id)) members (peer ∷ []) ∙ ap (λ b. peers_of id members ++ (if not b then peer ∷ [] else [])) same ∙ append-nil (peers_of id members))

-- a flush after which each peer has the own number changes none of the numbers
module _ (id own : ℕ) (sent : ℕ → ℕ) (i : ℕ) where
  abbrev has_own : ℕ → Bool
  has_own peer = (peer == id) || (sent peer == own)

  peer_flushed : (members : List ℕ) → list_all has_own members ≡ true → list_any (λ j. j == i) (peers_of id members) ≡ true → sent i ≡ own
  peer_flushed [] all any = absurd (cc any)
  peer_flushed (m ∷ ms) all any = go (m == id) (sent m == own) (m == i) refl refl refl (peer_flushed ms) all any
    where
      go : (itself same here : Bool) → (m == id) ≡ itself → (sent m == own) ≡ same → (m == i) ≡ here
          → (list_all has_own ms ≡ true → list_any (λ j. j == i) (peers_of id ms) ≡ true → sent i ≡ own)
          → ((itself || same) && list_all has_own ms) ≡ true → list_any (λ j. j == i) (if not itself then m ∷ peers_of id ms else peers_of id ms) ≡ true → sent i ≡ own
      go true same here is is' is'' rest all any = rest all any
      go false false here is is' is'' rest all any = absurd (cc all)
      go false true true is is' is'' rest all any = ap sent (sym (eqb-true m i is'')) ∙ eqb-true (sent m) own is'
      go false true false is is' is'' rest all any = rest all (ap (λ b. b || list_any (λ j. j == i) (peers_of id ms)) (sym is'') ∙ any)

  pub all_flushed : (members : List ℕ) → list_all has_own members ≡ true → sent i ≡ flushed_to own (peers_of id members) (sent i) i
  all_flushed members all = go (list_any (λ j. j == i) (peers_of id members)) refl
    where
      go : (b : Bool) → list_any (λ j. j == i) (peers_of id members) ≡ b → sent i ≡ (if list_any (λ j. j == i) (peers_of id members) then own else sent i)
      go true is = peer_flushed members all is ∙ sym (ap (λ b. if b then own else sent i) is)
      go false is = sym (ap (λ b. if b then own else sent i) is)

-- ONE KEY IN THE MODEL

module _ {Kind Op : Type 0} (D : Replication Kind Op Shown) (node : nodes.Node Kind Op Shown) (peer : ℕ) where
  abbrev group_of : nodes.KeyState Kind Op → sending.Keyed (model.Group Op)
  group_of k = record { key = k.name; item = group_after k.entry node.identity (node.flushed k.name peer) }

  pub groups_of-one : (k : nodes.KeyState Kind Op) → steps.is_behind D node peer k ≡ true → goes_as_group D node peer k ≡ true
      → groups_of D node peer (k ∷ []) ≡ record { key = k.name; item = group_after k.entry node.identity (node.flushed k.name peer) } ∷ []
  groups_of-one k = passes_both (steps.is_behind D node peer) (goes_as_group D node peer) group_of k

  pub entries_of-grouped : (k : nodes.KeyState Kind Op) → steps.is_behind D node peer k ≡ true → goes_as_group D node peer k ≡ true → entries_of D node peer (k ∷ []) ≡ []
  entries_of-grouped k behind goes = passes_first (steps.is_behind D node peer) (λ k. not (goes_as_group D node peer k)) keyed_entry k behind (ap not goes)

  pub groups_of-whole : (k : nodes.KeyState Kind Op) → steps.is_behind D node peer k ≡ true → goes_as_group D node peer k ≡ false → groups_of D node peer (k ∷ []) ≡ []
  groups_of-whole k = passes_first (steps.is_behind D node peer) (goes_as_group D node peer) group_of k

  pub entries_of-one : (k : nodes.KeyState Kind Op) → steps.is_behind D node peer k ≡ true → goes_as_group D node peer k ≡ false → entries_of D node peer (k ∷ []) ≡ keyed_entry k ∷ []
  entries_of-one k behind goes = passes_both (steps.is_behind D node peer) (λ k. not (goes_as_group D node peer k)) keyed_entry k behind (ap not goes)

  -- one key more
  module _ {T Delta : Type 0} (keys : List (KeyState T Kind Op Delta)) (i : ℕ) (state : KeyState T Kind Op Delta) (within : i < length keys) (is : state ≡ get_or keys i state) where
    states_more : map (state_in node) (take (i + 1) keys) ≡ map (state_in node) (take i keys) ++ state_in node state ∷ []
    states_more = ap (map (state_in node)) (one_more keys i state within is) ∙ map-append (state_in node) (take i keys) (state ∷ [])

    pub groups_of-more : groups_of D node peer (map (state_in node) (take (i + 1) keys)) ≡ groups_of D node peer (map (state_in node) (take i keys)) ++ groups_of D node peer (state_in node state ∷ [])
    groups_of-more = ap (groups_of D node peer) states_more ∙ passing_more (steps.is_behind D node peer) (goes_as_group D node peer) group_of (map (state_in node) (take i keys)) (state_in node state)

    pub entries_of-more : entries_of D node peer (map (state_in node) (take (i + 1) keys)) ≡ entries_of D node peer (map (state_in node) (take i keys)) ++ entries_of D node peer (state_in node state ∷ [])
    entries_of-more = ap (entries_of D node peer) states_more ∙ passing_more (steps.is_behind D node peer) (λ k. not (goes_as_group D node peer k)) keyed_entry (map (state_in node) (take i keys)) (state_in node state)

-- KEYS THAT ARE HELD

module _ {T Kind Op Delta : Type 0} (node : nodes.Node Kind Op Shown) (keys : List (KeyState T Kind Op Delta)) (declares : node.keys ≡ map declared_by keys) where
  -- a peer is sent the groups and entries of all keys
  pub deltas_are : (D : Replication Kind Op Shown) (peer : ℕ) → deltas_for D node peer ≡ sending.Message.Deltas (groups_of D node peer (map (state_in node) keys)) (entries_of D node peer (map (state_in node) keys))
  deltas_are D peer = ap (λ ks. sending.Message.Deltas (groups_of D node peer ks) (entries_of D node peer ks)) (sym (states_are node keys declares))

module _ {T Kind Op Delta : Type 0} (kind_of : T → Kind) (IsDataOf : T → History Op → VersionVector → IdentitySet → Type 0) (IsDeltaOf : Delta → History Op → ℕ → ℕ → ℕ → Type 0) (kinds : Text → Kind) (logs : Text → History Op) (id : ℕ) (node : nodes.Node Kind Op Shown) where
  -- the own number is how many own records the history has
  own_is : (state : KeyState T Kind Op Delta) → IsHeldBy kind_of IsDataOf IsDeltaOf kinds logs id node state → own_number id state ≡ at (node.entries state.name).history id
  own_is state h = h.held.held.image.holds.numbers id ∙ uncleaned (performed_in (parts_of state.entry).marks) (versions (node.entries state.name).history) id h.unpruned

  -- a peer is behind where the model says so
  pub behind_is : (D : Replication Kind Op Shown) (peer : ℕ) (state : KeyState T Kind Op Delta) → IsHeldBy kind_of IsDataOf IsDeltaOf kinds logs id node state → is_behind id peer state ≡ steps.is_behind D node peer (state_in node state)
  behind_is D peer state h = (λ i. nat_lt (h.held.sent peer i) (own_is state h i)) ∙ ap (λ j. nat_lt (node.flushed state.name peer) (at (node.entries state.name).history j)) (sym h.identity)

  -- and is sent something where one of the keys is behind
  pub sent_is : (D : Replication Kind Op Shown) (peer : ℕ) (keys : List (KeyState T Kind Op Delta)) → All (IsHeldBy kind_of IsDataOf IsDeltaOf kinds logs id node) keys → node.keys ≡ map declared_by keys
      → list_any (is_behind id peer) keys ≡ is_sent D node peer
  sent_is D peer keys held declares =
      any_mapped (state_in node) (is_behind id peer) (steps.is_behind D node peer) keys (λ k d within. behind_is D peer (get_or keys k d) (held k d within))
      ∙ ap (list_any (steps.is_behind D node peer)) (states_are node keys declares)

-- POSTS

module _ {Kind Op : Type 0} (D : Replication Kind Op Shown) (node : nodes.Node Kind Op Shown) (id : ℕ) where
  -- the posts to these members
  abbrev pub posts_to : List ℕ → List (sending.Post Op)
  posts_to members = map (post_to D node) (filter (is_sent D node) (peers_of id members))

  module _ (members : List ℕ) (i peer : ℕ) (within : i < length members) (is : peer ≡ get_or members i peer) where
    pub posts_to-one : (not (peer == id) && is_sent D node peer) ≡ true → posts_to (take (i + 1) members) ≡ posts_to (take i members) ++ post_to D node peer ∷ []
    posts_to-one both = ap posts_to (one_more members i peer within is) ∙ passing_one (λ j. not (j == id)) (is_sent D node) (post_to D node) (take i members) peer both

    pub posts_to-none : (not (peer == id) && is_sent D node peer) ≡ false → posts_to (take (i + 1) members) ≡ posts_to (take i members)
    posts_to-none either = ap posts_to (one_more members i peer within is) ∙ passing_none (λ j. not (j == id)) (is_sent D node) (post_to D node) (take i members) peer either

  -- they are those of the model's flush
  pub posts_are : (members : List ℕ) → node.identity ≡ id → identities_of node.view ≡ members → posts_to members ≡ (steps.step_of_flush D node).output.posts
  posts_are members own viewed = λ i. map (post_to D node) (filter (is_sent D node) (filter (λ j. not (j == sym own i)) (sym viewed i)))

-- MEMBERS

module _ {T K Kind Op Delta : Type 0} {ghosts : Ghosts T Kind Op Delta} {keeping : Keeping K} (kind_of : T → Kind) (IsDataOf : T → History Op → VersionVector → IdentitySet → Type 0) (kinds : Text → Kind) (logs : Text → History Op)
    (code : Node T K Kind Op Delta ghosts keeping) (node : nodes.Node Kind Op Shown) (s : StandsForNode kind_of IsDataOf kinds logs code node) where
  peers_are : others (one_step_later node).view (one_step_later node).identity ≡ peers_of code.id (identities_of code.view)
  peers_are = λ i. filter (λ j. not (j == s.identity i)) (identities_of (s.view i))

  flushed_is : (state : KeyState T Kind Op Delta) (entry : model.Entry Op) (before : VersionVector) → performed_in (parts_of state.entry).marks code.id ≡ false → StandsForKey kind_of IsDataOf ghosts.IsDeltaOf kinds logs state entry before
      → (i : ℕ) → flushed_to (own_number code.id state) (peers_of code.id (identities_of code.view)) (number_at state.flushed i) i
      ≡ (if list_any (λ j. j == i) (others (one_step_later node).view (one_step_later node).identity) then at entry.history (one_step_later node).identity else before i)
  flushed_is state entry before unpruned stands i =
      let own : own_number code.id state ≡ at entry.history code.id = stands.held.image.holds.numbers code.id ∙ uncleaned (performed_in (parts_of state.entry).marks) (versions entry.history) code.id unpruned in
      (λ k. if list_any (λ j. j == i) (sym peers_are k) then own k else stands.sent i k)
      ∙ ap (λ id. if list_any (λ j. j == i) (others (one_step_later node).view (one_step_later node).identity) then at entry.history id else before i) (sym s.identity)

  pub stands_flushed : (state : KeyState T Kind Op Delta) (change : Option (Change T Kind Op Delta)) (entry : model.Entry Op) (before : VersionVector) → performed_in (parts_of state.entry).marks code.id ≡ false
      → IsFlush code.id (identities_of code.view) state change → StandsForKey kind_of IsDataOf ghosts.IsDeltaOf kinds logs state entry before
      → StandsForKey kind_of IsDataOf ghosts.IsDeltaOf kinds logs (changed state change) entry (λ i. if list_any (λ j. j == i) (others (one_step_later node).view (one_step_later node).identity) then at entry.history (one_step_later node).identity else before i)
  stands_flushed state None entry before unpruned flush stands = record {
    kind = stands.kind;
    held = stands.held;
    logged = stands.logged;
    sent = λ i. flush i ∙ flushed_is state entry before unpruned stands i;
  }
  stands_flushed state (Some (Flushed flushed)) entry before unpruned flush stands = record {
    kind = stands.kind;
    held = stands.held;
    logged = stands.logged;
    sent = λ i. flush i ∙ flushed_is state entry before unpruned stands i;
  }
  stands_flushed state (Some (Entry new)) entry before unpruned flush stands = absurd flush

-- what the keys hold when a flush begins
module _ {T K Kind Op Delta : Type 0} {ghosts : Ghosts T Kind Op Delta} {keeping : Keeping K} (IsDataOf : T → History Op → VersionVector → IdentitySet → Type 0) (kinds : Text → Kind) (logs : Text → History Op) (code : Node T K Kind Op Delta ghosts keeping) (node : nodes.Node Kind Op Shown)
    (s : StandsForNode ghosts.kind_of IsDataOf kinds logs code node) where
  pub held_by : All (IsHeldBy ghosts.kind_of IsDataOf ghosts.IsDeltaOf kinds logs code.id (one_step_later node)) code.keys.items
  held_by k d within = record { identity = s.identity; unpruned = code.unpruned k d within; own = code.logged k d within; held = s.entries k d within }

-- a flush changes no entry
module _ {T Kind Op Delta : Type 0} (id : ℕ) (members : List ℕ) where
  pub flush_keeps : (kind_of : T → Kind) (state : KeyState T Kind Op Delta) (change : Option (Change T Kind Op Delta)) → IsFlush id members state change → KeepsOwn kind_of id state.entry (changed state change).entry
  flush_keeps kind_of state None flush = record { kind = refl; own = λ before. refl; unpruned = λ before. before }
  flush_keeps kind_of state (Some (Flushed flushed)) flush = record { kind = refl; own = λ before. refl; unpruned = λ before. before }
  flush_keeps kind_of state (Some (Entry entry)) flush = absurd flush

-- AN ANSWER TO A MESSAGE

zip_both : {A B : Type 0} (R : A → B → Type 0) (xs xs' : List A) (ys ys' : List B) → AllZip R xs ys → AllZip R xs' ys' → AllZip R (xs ++ xs') (ys ++ ys')
zip_both R [] xs' [] ys' z w = w
zip_both R [] xs' (y ∷ ys) ys' z w = absurd z
zip_both R (x ∷ xs) xs' [] ys' z w = absurd z
zip_both R (x ∷ xs) xs' (y ∷ ys) ys' z w = (z.0, zip_both R xs xs' ys ys' z.1 w)

keys_told : (gs : List KeyGap) → map (λ (g : Keyed ℕ). g.key) (map gap_told gs) ≡ map (λ (g : KeyGap). g.key) gs
keys_told [] = refl
keys_told (g ∷ gs) = ap (λ ks. g.key ∷ ks) (keys_told gs)

-- THE MODEL

module _ {Kind Op : Type 0} (D : Replication Kind Op Shown) where
  -- of no names there are no entries
  none_named : (node : nodes.Node Kind Op Shown) → named_entries D node [] ≡ []
  none_named node = ap (map keyed_entry) (none (key_states node))
    where
      none : (ks : List (nodes.KeyState Kind Op)) → filter (λ (k : nodes.KeyState Kind Op). contains_text [] k.name && has_records k.entry) ks ≡ []
      none [] = refl
      none (k ∷ ks) = none ks

  -- groups, then entries, then the names that are asked for
  pub record Takes (node : nodes.Node Kind Op Shown) (from : ℕ) (groups : List (sending.Keyed (model.Group Op))) (entries : List (sending.Keyed (model.Entry Op))) (names : List Text) (asks : Bool) (stepped : nodes.Stepped Kind Op Shown) : Type 0 where
    pub next : stepped.node ≡ after_entries (after_groups node groups).node entries
    pub reply : stepped.output.reply ≡ take_reply D Fate.NoStore (after_groups node groups).gaps (if asks then false else not (is_changed node (after_entries (after_groups node groups).node entries)))
    pub posts : stepped.output.posts ≡ nack_to D from (after_groups node groups).gaps ++ gossip_to D from (named_entries D (after_entries (after_groups node groups).node entries) names) []
    pub ends : stepped.output.ended ≡ None

  -- a message of the program
  pub record Brings {T Delta : Type 0} {ghosts : Ghosts T Kind Op Delta} (kinds : Text → Kind) (logs : Text → History Op) (keys : List (KeyState T Kind Op Delta)) (node : nodes.Node Kind Op Shown) (from : ℕ)
      (message : Message T Kind Op Delta ghosts) (sent : Sent Op) : Type 0 where
    pub sent_groups : List (sending.Keyed (model.Group Op))
    pub sent_entries : List (sending.Keyed (model.Entry Op))
    pub groups_stand : TellsGroups ghosts kinds logs keys (message_groups message) sent_groups
    pub entries_stand : TellsEntries ghosts kinds logs keys (message_entries message) sent_entries
    pub takes : Takes node from sent_groups sent_entries (names_of message) (only_asks message) (step_of_take D node from Fate.NoStore sent)

  pub brings : {T Delta : Type 0} {ghosts : Ghosts T Kind Op Delta} (kinds : Text → Kind) (logs : Text → History Op) (keys : List (KeyState T Kind Op Delta)) (node : nodes.Node Kind Op Shown) (from : ℕ)
      (message : Message T Kind Op Delta ghosts) (sent : Sent Op) → StandsForTaken kinds logs keys message sent → is_status message ≡ false → is_exchange message ≡ true → Brings kinds logs keys node from message sent
  brings kinds logs keys node from (Deltas groups entries) sent s other exchange =
      let gs = s.told_groups in
      let es = s.told_entries in
      let after = after_groups node gs in
      record {
        sent_groups = s.told_groups;
        sent_entries = s.told_entries;
        groups_stand = s.groups_stand;
        entries_stand = s.entries_stand;
        takes = subst (λ m. Takes node from gs es [] false (step_of_take D node from Fate.NoStore m)) (sym s.is) (record {
          next = refl;
          reply = refl;
          ends = refl;
          posts = sym (ap (λ named. nack_to D from after.gaps ++ gossip_to D from named []) (none_named (after_entries after.node es)) ∙ append-nil (nack_to D from after.gaps));
        });
      }
  brings kinds logs keys node from (Nack names) sent s other exchange = record {
    sent_groups = [];
    sent_entries = [];
    groups_stand = nothing;
    entries_stand = nothing;
    takes = subst (λ m. Takes node from [] [] names true (step_of_take D node from Fate.NoStore m)) (sym s) (record { next = refl; reply = refl; posts = refl; ends = refl });
  }
  brings kinds logs keys node from (Status digests) sent s other exchange = absurd (cc other)
  brings kinds logs keys node from (Gossip entries wants) sent s other exchange = record {
    sent_groups = [];
    sent_entries = s.told_entries;
    groups_stand = nothing;
    entries_stand = s.entries_stand;
    takes = subst (λ m. Takes node from [] s.told_entries wants false (step_of_take D node from Fate.NoStore m)) (sym s.is) (record { next = refl; reply = refl; posts = refl; ends = refl });
  }
  brings kinds logs keys node from _ sent s other exchange = absurd (cc exchange)

  -- THE REPLY

  pub replies : (asks changed : Bool) (gaps : List (Keyed ℕ)) (told : List KeyGap) → gaps ≡ map gap_told told → reply_to asks gaps changed ≡ take_reply D Fate.NoStore told (if asks then false else not changed)
  replies asks changed gaps told is = ap (λ gs. reply_to asks gs changed) is ∙ go told asks changed
    where
      go : (gs : List KeyGap) (a b : Bool) → reply_to a (map gap_told gs) b ≡ take_reply D Fate.NoStore gs (if a then false else not b)
      go (g ∷ gs) a b = refl
      go [] true b = refl
      go [] false true = refl
      go [] false false = refl

  -- a message with entries alone, in which nothing lacks
  pub took_reply : (told : Reply) (changed : Bool) (before after : nodes.Node Kind Op Shown) → meant told ≡ (if changed then Meant.Taken else Meant.Already) → changed ≡ is_changed before after
      → meant told ≡ take_reply D Fate.NoStore [] (not (is_changed before after))
  took_reply told changed before after is same = is ∙ ap (reply_to false []) same ∙ replies false (is_changed before after) [] [] refl

  -- THE POSTS

  module _ {T Delta : Type 0} (ghosts : Ghosts T Kind Op Delta) (kind_of : T → Kind) (IsDataOf : T → History Op → VersionVector → IdentitySet → Type 0) (kinds : Text → Kind) (logs : Text → History Op) (from : ℕ) where
    nacks : (gs : List KeyGap) → StandsForPosts {ghosts = ghosts} kind_of IsDataOf kinds logs (nack_of from (map gap_told gs)) (nack_to D from gs)
    nacks [] = tt
    nacks (g ∷ gs) = (record { to = refl; message = ap (λ ks. Sent.Nack (g.key ∷ ks)) (sym (keys_told gs)) }, tt)

    gossips : (entries : List (Keyed (Envelope T Kind Op Delta))) (sent : List (sending.Keyed (model.Entry Op))) → AllZip (StandsForKeyed kind_of IsDataOf kinds logs) entries sent
        → StandsForPosts {ghosts = ghosts} kind_of IsDataOf kinds logs (gossip_of from entries) (gossip_to D from sent [])
    gossips [] [] z = tt
    gossips [] (y ∷ ys) z = absurd z
    gossips (x ∷ xs) [] z = absurd z
    gossips (x ∷ xs) (y ∷ ys) z = (record { to = refl; message = record { sent_entries = y ∷ ys; is = refl; entries_stand = z } }, tt)

    pub answers_stand : (gaps : List (Keyed ℕ)) (told : List KeyGap) (entries : List (Keyed (Envelope T Kind Op Delta))) (sent : List (sending.Keyed (model.Entry Op))) → gaps ≡ map gap_told told → AllZip (StandsForKeyed kind_of IsDataOf kinds logs) entries sent
        → StandsForPosts {ghosts = ghosts} kind_of IsDataOf kinds logs (answers_of from gaps entries) (nack_to D from told ++ gossip_to D from sent [])
    answers_stand gaps told entries sent is stand =
        zip_both (StandsForPost {ghosts = ghosts} kind_of IsDataOf kinds logs) (nack_of from gaps) (gossip_of from entries) (nack_to D from told) (gossip_to D from sent [])
        (subst (λ gs. StandsForPosts {ghosts = ghosts} kind_of IsDataOf kinds logs (nack_of from gs) (nack_to D from told)) (sym is) (nacks told)) (gossips entries sent stand)

-- an answer to a read: the entry, where it has records
pub read_stands : {T Kind Op Delta : Type 0} (ghosts : Ghosts T Kind Op Delta) (kinds : Text → Kind) (logs : Text → History Op) (op : ℕ) (key : Text) (b : Bool) (envelope : Envelope T Kind Op Delta) (entry : model.Entry Op)
    → StandsForEntry ghosts.kind_of ghosts.IsDataOf kinds logs key envelope entry
    → StandsForMessage {ghosts = ghosts} ghosts.kind_of ghosts.IsDataOf kinds logs (ReadAnswer op key (if b then Some envelope else None)) (Sent.ReadAnswer op key (if b then Some entry else None))
read_stands ghosts kinds logs op key true envelope entry s = record { entry = entry; is = refl; held = s }
read_stands ghosts kinds logs op key false envelope entry s = refl

-- a reply to a message opens no operation
pub not_opened : (told : Reply) (asks changed : Bool) (gaps : List (Keyed ℕ)) → meant told ≡ reply_to asks gaps changed → is_pending told ≡ false
not_opened (reply.Pending op) asks changed (gap ∷ gaps) is = absurd (cc is)
not_opened (reply.Pending op) true changed [] is = absurd (cc is)
not_opened (reply.Pending op) false true [] is = absurd (cc is)
not_opened (reply.Pending op) false false [] is = absurd (cc is)
not_opened told asks changed gaps is = refl

-- THE POSTS OF THE PROGRAM

pub empty_is : {X : Type 0} (xs : List X) → (length xs == 0) ≡ true → xs ≡ []
empty_is [] e = refl
empty_is (x ∷ xs) e = absurd (let never : ⊥ = elim (eqb_tells (length (x ∷ xs)) 0) [ inl t ↦ omega (arith, t.1) | inr f ↦ cc (e, f.0) ] in never)

module _ {T Kind Op Delta : Type 0} (ghosts : Ghosts T Kind Op Delta) (from : ℕ) where
  pub nack_so : (gaps : List (Keyed ℕ)) → (length gaps == 0) ≡ false → record { to = from; message = Nack (map (λ (g : Keyed ℕ). g.key) gaps) } ∷ [] ≡ nack_of {ghosts = ghosts} from gaps
  nack_so [] e = absurd (cc e)
  nack_so (gap ∷ gaps) e = refl

  pub gossip_so : (entries : List (Keyed (Envelope T Kind Op Delta))) → (length entries == 0) ≡ false → record { to = from; message = Gossip entries [] } ∷ [] ≡ gossip_of {ghosts = ghosts} from entries
  gossip_so [] e = absurd (cc e)
  gossip_so (keyed ∷ entries) e = refl

-- WHETHER SOMETHING CHANGED

pub changed_is : {T Kind Op Delta : Type 0} (node after : nodes.Node Kind Op Shown) (keys : List (KeyState T Kind Op Delta)) → after.keys ≡ map declared_by keys
    → is_changed node after ≡ list_any (λ (state : KeyState T Kind Op Delta). not (is_unchanged (node.entries state.name) (after.entries state.name))) keys
changed_is {T} {Kind} {Op} {Delta} node after keys declares =
    is_changed-any node after
    ∙ ap (list_any (λ (decl : nodes.KeyDecl Kind). not (is_unchanged (node.entries decl.name) (after.entries decl.name)))) declares
    ∙ sym (any_mapped declared_by (λ (state : KeyState T Kind Op Delta). not (is_unchanged (node.entries state.name) (after.entries state.name)))
    (λ (decl : nodes.KeyDecl Kind). not (is_unchanged (node.entries decl.name) (after.entries decl.name))) keys (λ k d within. refl))

-- at most two answers
pub few_answers : {T Kind Op Delta : Type 0} (ghosts : Ghosts T Kind Op Delta) (from : ℕ) (gaps : List (Keyed ℕ)) (entries : List (Keyed (Envelope T Kind Op Delta))) → length (answers_of {ghosts = ghosts} from gaps entries) ≤ 2
few_answers ghosts from [] [] = omega arith
few_answers ghosts from [] (e ∷ es) = omega arith
few_answers ghosts from (g ∷ gs) [] = omega arith
few_answers ghosts from (g ∷ gs) (e ∷ es) = omega arith
