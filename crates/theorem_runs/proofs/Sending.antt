-- What a step sends and stores are entries that the member then holds, and groups of its own records.
use Rattle.std.proofs.Common.{◌≡◌, ◌≢◌, ℕ, ◌+◌, ◌<◌, List, [], ◌∷◌, length, drop, map, refl, sym, ap, Bool, true, false, Option, Some, None}
use Rattle.std.specs.Prelude.{if◌then◌else◌, find, filter, is_some, nat_le, not, ◌==◌, ◌&&◌, ◌||◌}
use Rattle.std.specs.List.{AllByRecursion, list_any}
use Rattle.std.specs.Str.{bytes_eq}
use Rattle.std.proofs.lemmas.Slice.Eq.{bytes_eq-Decides}
use Rattle.std.proofs.lemmas.Bool.{ltb-true, eqb-false, not-true}
use Rattle.model_history.specs.Texts.{Text}
use Rattle.model_members.specs.View.{is_member, leader, others, identities_of}
use Rattle.model_history.specs.History.{Record, at}
use Rattle.model_members.specs.Entry.{Entry, Group, has_records, group_after, is_prune}
use Rattle.model_meanings.specs.Refusal.{Refusal}
use Rattle.model_members.specs.DataType.{Replication}
use Rattle.model_members.specs.Message.{Keyed, Message, Post, entries_in, groups_in}
use Rattle.model_members.specs.Message.Message.{Deltas, Nack, Status, Gossip, Write, WriteAck, WriteNack, Read, ReadAnswer}
use Rattle.model_members.specs.Node.{KeyState, Node, Level, Input, Fate, Stepped, OpenOperation, key_state, key_states, state_of, with_entry, needed, keyed_entry, keyed_entry as stored_form}
use Rattle.model_members.specs.Node.Reply.{Deleted, WrongKind, Taken, NotFromMember, NotAPeer, Done}
use Rattle.model_history.specs.Vector.{members_of}
use Rattle.model_members.specs.Node.Input.{Update, Get, Take, Install, Flush, GossipTo, PruneTick, Timeout}
use Rattle.model_members.specs.Step.{is_answered_by, status_of, took_deltas, answer_to, value_reply, meaning_of, with_answer, KeyGap, AfterGroups, after_groups, after_entries, answered, sent, opened, step_of_take, gossip_to, nack_to, keyed_option, answered_entry, took, step_of_flush, deltas_for, is_behind, goes_as_group, step_of, step, has_failed, member_count, to_store, changed_keys}
use Rattle.model_members.proofs.Cases.{accepted, updated, updated_undeleted, updated_needing, updated_unless, got, got_needing, counted_for}
use Rattle.theorem_runs.proofs.Keeping.{if_holds, found_entry}

-- LISTS

pub all_filtered : {X : Type 0} (P : X → Type 0) (p : X → Bool) (xs : List X) → AllByRecursion P xs → AllByRecursion P (filter p xs)
all_filtered P p [] all = tt
all_filtered P p (x ∷ xs) all = if_holds (λ ys. AllByRecursion P ys) (p x) (x ∷ filter p xs) (filter p xs) (all.0, all_filtered P p xs all.1) (all_filtered P p xs all.1)

-- each element that passes the test has P
pub all_passing : {X : Type 0} (P : X → Type 0) (p : X → Bool) → ((x : X) → p x ≡ true → P x) → (xs : List X) → AllByRecursion P (filter p xs)
all_passing P p h [] = tt
all_passing P p h (x ∷ xs) = go (p x) refl (all_passing P p h xs)
  where
    go : (b : Bool) → p x ≡ b → AllByRecursion P (filter p xs) → AllByRecursion P (if b then x ∷ filter p xs else filter p xs)
    go true is rest = (h x is, rest)
    go false is rest = rest

pub all_mapped_by : {X Y : Type 0} (P : X → Type 0) (Q : Y → Type 0) (f : X → Y) → ((x : X) → P x → Q (f x)) → (xs : List X) → AllByRecursion P xs → AllByRecursion Q (map f xs)
all_mapped_by P Q f h [] all = tt
all_mapped_by P Q f h (x ∷ xs) all = (h x all.0, all_mapped_by P Q f h xs all.1)

pub all_mapped : {X Y : Type 0} (Q : Y → Type 0) (f : X → Y) → ((x : X) → Q (f x)) → (xs : List X) → AllByRecursion Q (map f xs)
all_mapped Q f h [] = tt
all_mapped Q f h (x ∷ xs) = (h x, all_mapped Q f h xs)

pub all_both : {X : Type 0} (P Q R : X → Type 0) → ((x : X) → P x → Q x → R x) → (xs : List X) → AllByRecursion P xs → AllByRecursion Q xs → AllByRecursion R xs
all_both P Q R h [] p q = tt
all_both P Q R h (x ∷ xs) p q = (h x p.0 q.0, all_both P Q R h xs p.1 q.1)

same_bytes : (xs : List ℕ) → bytes_eq xs xs ≡ true
same_bytes xs = (bytes_eq-Decides xs xs).1 refl

-- WHAT IS FROM A MEMBER

module _ {Op : Type 0} (held : Text → Entry Op) (i to : ℕ) where
  -- a group of the member's own records after a number, up to its last, that goes to another member
  pub record IsOwnGroup (key : Text) (group : Group Op) : Type 0 where
    pub away : to ≢ i
    pub origin : group.origin ≡ i
    pub upto : group.upto ≡ at (held key).history i
    pub some : group.after < group.upto
    pub these : group.group_records ≡ drop group.after ((held key).history i)
    pub plain : list_any (λ (r : Record Op). is_prune r.action) group.group_records ≡ false

  pub record IsFrom (message : Message Op) : Type 0 where
    pub entries : AllByRecursion (λ (e : Keyed (Entry Op)). e.item ≡ held e.key) (entries_in message)
    pub groups : AllByRecursion (λ (g : Keyed (Group Op)). IsOwnGroup g.key g.item) (groups_in message)

abbrev pub AreFrom : {Op : Type 0} → (Text → Entry Op) → ℕ → List (Post Op) → Type 0
AreFrom {Op} held i posts = AllByRecursion (λ (post : Post Op). IsFrom held i post.to post.message) posts

module _ {Kind Op Shown : Type 0} (node : Node Kind Op Shown) where
  -- the entries of the member's keys, each as it holds it
  own_states : AllByRecursion (λ (k : KeyState Kind Op). k.entry ≡ node.entries k.name) (key_states node)
  own_states = all_mapped _ (state_of node) (λ decl. refl) node.keys

module _ {Kind Op Shown : Type 0} (D : Replication Kind Op Shown) (node : Node Kind Op Shown) where
  own_entries : (p : KeyState Kind Op → Bool) → AllByRecursion (λ (e : Keyed (Entry Op)). e.item ≡ node.entries e.key) (map keyed_entry (filter p (key_states node)))
  own_entries p = all_mapped_by _ _ keyed_entry (λ k e. e) (filter p (key_states node)) (all_filtered _ p (key_states node) (own_states node))

  from_gossip : (i : ℕ) (entries : List (Keyed (Entry Op))) (wants : List Text) → AllByRecursion (λ (e : Keyed (Entry Op)). e.item ≡ node.entries e.key) entries → AreFrom node.entries node.identity (gossip_to D i entries wants)
  from_gossip i [] [] all = tt
  from_gossip i [] (w ∷ wants) all = (record { entries = tt; groups = tt }, tt)
  from_gossip i (e ∷ entries) wants all = (record { entries = all; groups = tt }, tt)

  from_nack : (i : ℕ) (gaps : List KeyGap) → AreFrom node.entries node.identity (nack_to D i gaps)
  from_nack i [] = tt
  from_nack i (gap ∷ gaps) = (record { entries = tt; groups = tt }, tt)

module _ {Kind Op Shown : Type 0} (D : Replication Kind Op Shown) where
  abbrev SendsOwn : Stepped Kind Op Shown → Type 0
  SendsOwn s = AreFrom s.node.entries s.node.identity s.output.posts

  -- UPDATE AND GET

  sends_accepted : (node : Node Kind Op Shown) (key : Text) (n : ℕ) (fate : Fate) (entry : Entry Op) → AreFrom (accepted D node key n fate entry).node.entries (accepted D node key n fate entry).node.identity (accepted D node key n fate entry).output.posts
  sends_accepted node key n fate entry =
      let after = with_entry node key entry in
      let here : entry ≡ after.entries key = sym (ap (λ b. if b then entry else node.entries key) (same_bytes key)) in
      if_holds (λ (s : Stepped Kind Op Shown). AreFrom s.node.entries s.node.identity s.output.posts) (has_failed fate) _ _ tt
      (if_holds (λ (s : Stepped Kind Op Shown). AreFrom s.node.entries s.node.identity s.output.posts) (nat_le n 1) _ _ tt
      (all_mapped _ (λ i. record { to = i; message = Write node.next_op key entry }) (λ i. record { entries = (here, tt); groups = tt }) (others node.view node.identity)))

  sends_unless : (node : Node Kind Op Shown) (k : KeyState Kind Op) (op : Op) (n : ℕ) (fate : Fate) (refusal : Option Refusal) → SendsOwn (updated_unless D node k op n fate refusal)
  sends_unless node k op n fate None = sends_accepted node k.name n fate _
  sends_unless node k op n fate (Some refusal) = tt

  sends_needing : (node : Node Kind Op Shown) (k : KeyState Kind Op) (op : Op) (n : Option ℕ) (fate : Fate) → SendsOwn (updated_needing D node k op n fate)
  sends_needing node k op None fate = tt
  sends_needing node k op (Some n) fate = sends_unless node k op n fate (D.data_type.refusal k.kind node.identity op k.entry.history)

  sends_updated : (node : Node Kind Op Shown) (o : Option (KeyState Kind Op)) (op : Op) (level : Level) (fate : Fate) → SendsOwn (updated D node o op level fate)
  sends_updated node None op level fate = tt
  sends_updated node (Some k) op level fate =
      if_holds SendsOwn (D.data_type.deleted k.entry.history) (answered node Deleted) (updated_undeleted D node k op level fate) tt
      (if_holds SendsOwn (D.data_type.fits k.kind op) (updated_needing D node k op (needed level (member_count node)) fate) (answered node WrongKind) (sends_needing node k op (needed level (member_count node)) fate) tt)

  sends_got_needing : (node : Node Kind Op Shown) (k : KeyState Kind Op) (n : Option ℕ) → SendsOwn (got_needing D node k n)
  sends_got_needing node k None = tt
  sends_got_needing node k (Some n) =
      if_holds SendsOwn (nat_le n 1) (answered node (value_reply D (meaning_of D k))) (opened node k.name true n (Read node.next_op k.name)) tt
      (all_mapped _ (λ i. record { to = i; message = Read node.next_op k.name }) (λ i. record { entries = tt; groups = tt }) (others node.view node.identity))

  sends_got : (node : Node Kind Op Shown) (o : Option (KeyState Kind Op)) (level : Level) → SendsOwn (got D node o level)
  sends_got node None level = tt
  sends_got node (Some k) level = sends_got_needing node k (needed level (member_count node))

  -- COUNTING SENDS NOTHING MORE

  sends_counted : (s : Stepped Kind Op Shown) (from : ℕ) (o : Option OpenOperation) → SendsOwn s → SendsOwn (counted_for D s from o)
  sends_counted s from None h = h
  sends_counted s from (Some operation) h =
      if_holds SendsOwn (nat_le operation.needed (length (members_of (with_answer from operation).counted))) _ _ h h

  -- TAKING

  from_answer : (held : Text → Entry Op) (i to : ℕ) (b : Bool) (op : ℕ) → IsFrom held i to (if b then WriteNack op else WriteAck op)
  from_answer held i to true op = record { entries = tt; groups = tt }
  from_answer held i to false op = record { entries = tt; groups = tt }

  sends_deltas : (node : Node Kind Op Shown) (from : ℕ) (fate : Fate) (groups_in : AfterGroups Kind Op Shown) (entries : List (Keyed (Entry Op))) → SendsOwn (took_deltas D node from fate groups_in entries)
  sends_deltas node from fate groups_in entries = from_nack D (after_entries groups_in.node entries) from groups_in.gaps

  sends_read : (node : Node Kind Op Shown) (from op : ℕ) (key : Text) (o : Option (KeyState Kind Op)) → key_state node key ≡ o → AreFrom node.entries node.identity (answer_to D from (ReadAnswer op key (answered_entry D o)))
  sends_read node from op key None e = (record { entries = tt; groups = tt }, tt)
  sends_read node from op key (Some k) e = (
    if_holds (λ (o : Option (Entry Op)). IsFrom node.entries node.identity from (ReadAnswer op key o)) (has_records k.entry) (Some k.entry) None
        (record { entries = (found_entry node key k e, tt); groups = tt }) (record { entries = tt; groups = tt }),
    tt,
  )

  sends_taken : (node : Node Kind Op Shown) (from : ℕ) (fate : Fate) (message : Message Op) → SendsOwn (step_of_take D node from fate message)
  sends_taken node from fate (Deltas groups entries) = sends_deltas node from fate (after_groups node groups) entries
  sends_taken node from fate (Nack keys) = from_gossip D node from _ [] (own_entries D node _)
  sends_taken node from fate (Status digests) = from_gossip D node from _ _ (own_entries D node _)
  sends_taken node from fate (Gossip entries wants) = from_gossip D (after_entries node entries) from _ [] (own_entries D (after_entries node entries) _)
  sends_taken node from fate (Write op key entry) =
      let after = after_entries node (record { key = key; item = entry } ∷ []) in
      if_holds (AreFrom after.entries after.identity) (is_some (key_state node key)) _ _ (from_answer after.entries after.identity from (has_failed fate) op, tt) tt
  sends_taken node from fate (WriteAck op) = sends_counted (answered node Taken) from _ tt
  sends_taken node from fate (WriteNack op) = tt
  sends_taken node from fate (Read op key) = sends_read node from op key (key_state node key) refl
  sends_taken node from fate (ReadAnswer op key entry) =
      let s = took D node (after_entries node (keyed_option D key entry)) fate [] [] in
      sends_counted s from (find (λ (o : OpenOperation). is_answered_by true op o && bytes_eq o.key key) s.node.open_operations) tt

  -- FLUSH AND THE REST

  -- what a key behind a peer brings
  own_and_behind : (node : Node Kind Op Shown) (peer : ℕ) → AllByRecursion (λ (k : KeyState Kind Op). (k.entry ≡ node.entries k.name) × (node.flushed k.name peer < at k.entry.history node.identity)) (filter (is_behind D node peer) (key_states node))
  own_and_behind node peer =
      all_both _ _ _ (λ k p q. (p, q)) (filter (is_behind D node peer) (key_states node))
      (all_filtered _ (is_behind D node peer) (key_states node) (own_states node))
      (all_passing _ (is_behind D node peer) (λ k e. ltb-true (node.flushed k.name peer) (at k.entry.history node.identity) e) (key_states node))

  not_false : (a b : Bool) → (a && not b) ≡ true → b ≡ false
  not_false true true e = absurd (cc e)
  not_false true false e = refl
  not_false false b e = absurd (cc e)

  own_group : (node : Node Kind Op Shown) (peer : ℕ) → peer ≢ node.identity → (k : KeyState Kind Op) → (k.entry ≡ node.entries k.name) × (node.flushed k.name peer < at k.entry.history node.identity) → goes_as_group D node peer k ≡ true → IsOwnGroup node.entries node.identity peer k.name (group_after k.entry node.identity (node.flushed k.name peer))
  own_group node peer other k h plain =
      record {
        away = other;
        origin = refl;
        upto = ap (λ (e : Entry Op). at e.history node.identity) h.0;
        some = h.1;
        these = ap (λ (e : Entry Op). drop (node.flushed k.name peer) (e.history node.identity)) h.0;
        plain = not_false _ _ plain;
      }

  from_deltas : (node : Node Kind Op Shown) (peer : ℕ) → peer ≢ node.identity → IsFrom node.entries node.identity peer (deltas_for D node peer)
  from_deltas node peer other =
      let behind = filter (is_behind D node peer) (key_states node) in
      record {
        entries = all_mapped_by _ _ keyed_entry (λ k h. h.0) (filter (λ k. not (goes_as_group D node peer k)) behind) (all_filtered _ (λ k. not (goes_as_group D node peer k)) behind (own_and_behind node peer));
        groups = all_mapped_by _ _ (λ (k : KeyState Kind Op). record { key = k.name; item = group_after k.entry node.identity (node.flushed k.name peer) }) (λ k h. h) (filter (goes_as_group D node peer) behind)
            (all_both _ _ (λ (k : KeyState Kind Op). IsOwnGroup node.entries node.identity peer k.name (group_after k.entry node.identity (node.flushed k.name peer))) (λ k p q. own_group node peer other k p q) (filter (goes_as_group D node peer) behind)
            (all_filtered _ (goes_as_group D node peer) behind (own_and_behind node peer)) (all_passing (λ k. goes_as_group D node peer k ≡ true) (goes_as_group D node peer) (λ k e. e) behind));
      }

  sends_flushed : (node : Node Kind Op Shown) → SendsOwn (step_of_flush D node)
  sends_flushed node =
      let is_late = λ (peer : ℕ). list_any (is_behind D node peer) (key_states node) in
      all_mapped_by (λ peer. peer ≢ node.identity) _ (λ peer. record { to = peer; message = deltas_for D node peer }) (from_deltas node) (filter is_late (others node.view node.identity))
      (all_filtered _ is_late (others node.view node.identity) (all_passing _ (λ j. not (j == node.identity)) (λ j e. eqb-false j node.identity (not-true (j == node.identity) e)) (identities_of node.view)))

  sends_step_of : (node : Node Kind Op Shown) (input : Input Op) (fate : Fate) → SendsOwn (step_of D node input fate)
  sends_step_of node (Update key op level) fate = sends_updated node (key_state node key) op level fate
  sends_step_of node (Get key level) fate = sends_got node (key_state node key) level
  sends_step_of node (Take from message) fate = if_holds SendsOwn (is_member node.view from) (step_of_take D node from fate message) (answered node NotFromMember) (sends_taken node from fate message) tt
  sends_step_of node (Install view) fate = if_holds SendsOwn (nat_le view.number node.view.number) _ _ tt tt
  sends_step_of node Flush fate = sends_flushed node
  sends_step_of node (GossipTo i) fate = if_holds SendsOwn ((i == node.identity) || not (is_member node.view i)) (answered node NotAPeer) (sent node Done (answer_to D i (status_of D node))) tt (record { entries = tt; groups = tt }, tt)
  sends_step_of node PruneTick fate = if_holds SendsOwn (not (leader node.view == node.identity)) _ _ tt tt
  sends_step_of node (Timeout op) fate = if_holds SendsOwn (list_any (λ (o : OpenOperation). o.op == op) node.open_operations) _ _ tt tt

  -- each post of a step brings what the member then holds
  pub sends_step : (node : Node Kind Op Shown) (input : Input Op) (fate : Fate) → SendsOwn (step D node input fate)
  sends_step node input fate = sends_step_of (record node { steps = node.steps + 1 }) input fate

  -- so does what is to be stored
  pub stores_own : (old new : Node Kind Op Shown) → AllByRecursion (λ (e : Keyed (Entry Op)). e.item ≡ new.entries e.key) (map stored_form (to_store old new))
  stores_own old new = all_mapped_by _ _ stored_form (λ k e. e) (to_store old new) (all_filtered _ (λ k. k.durable) (changed_keys old new) (all_filtered _ _ (key_states new) (own_states new)))
