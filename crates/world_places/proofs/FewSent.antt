-- A member sends few messages in a step, and to the receivers of its input alone.
--     few_posts        the member of the model
--     few_sent        the member of the program, which stands for it
use Rattle.std.proofs.Common.{◌≡◌, ℕ, ◌≤◌, suc, List, [], ◌∷◌, length, map, refl, sym, ap, ◌∙◌, subst, arith, Bool, true, false, Option, None, Some, get_or}
use Rattle.std.specs.Prelude.{is_some, nat_le, if◌then◌else◌, filter, find, not, ◌==◌, ◌||◌, ◌&&◌}
use Rattle.std.specs.List.{list_any, list_all}
use Rattle.std.specs.Str.{bytes_eq}
use Rattle.std.proofs.lemmas.Bool.{eq-eqb}
use Rattle.std.proofs.lemmas.List.{length-map}
use Rattle.std.proofs.lemmas.List.Elements.{All-filter}
use Rattle.std.proofs.lemmas.List.Folds.{list_all-map, list_any_at}
use Rattle.std.proofs.lemmas.List.Sums.{AllPass-from_list_all, list_all-from_AllPass}
use Rattle.model_history.specs.Texts.{Text}
use Rattle.model_history.specs.Vector.{IdentitySet, members_of}
use Rattle.model_history.specs.History.{Action, History}
use Rattle.model_meanings.specs.Refusal.{Refusal}
use Rattle.model_members.specs.Message as sending
use Rattle.model_members.specs.Node as nodes
use Rattle.model_members.specs.View.{View, Member, identities_of, is_member, leader, others}
use Rattle.model_members.specs.Entry.{Entry, seen_by, with_action}
use Rattle.model_members.specs.DataType.{Replication}
use Rattle.model_members.specs.Message.{Keyed, Message, Post}
use Rattle.model_members.specs.Message.Message.{Deltas, Nack, Status, Gossip, Write, WriteAck, WriteNack, Read, ReadAnswer}
use Rattle.model_members.specs.Node.{KeyState, Node, OpenOperation, Input, Level, Fate, Stepped, one_step_later, key_state, key_states, with_entry, needed}
use Rattle.model_members.specs.Node.Reply.{NotFromMember, OldView, NotAPeer, Done, NotStored, Installed, Ticked, TickedNotStored, NotLeader, UnknownKey, Deleted, WrongKind, TooFew, Refused, Taken, TimedOut, NoSuchOp}
use Rattle.model_members.specs.Step.{KeyGap, step, step_of_take, has_failed, answered, sent, took, answer_to, status_of, gossip_to, nack_to, is_behind, deltas_for, outcomes_of, entry_after_tick, to_others, opened, member_count, value_reply, meaning_of, after_entries, keyed_option, is_answered_by, with_answer}
use Rattle.model_members.proofs.Cases.{accepted, updated, updated_undeleted, updated_needing, updated_unless, got, got_needing, counted_for}
use Rattle.theorem_runs.proofs.Keeping.{if_holds}
use Rattle.data_lattice.specs.declared.replica.Replica.{Ghosts}
use Rattle.member_messages.specs.declared.message.Post.{Post as CodePost}
use Rattle.member_messages.specs.Standing.{StandsForPosts}
use Rattle.member_quorum.specs.declared.level.Level.TheVariants as level
use Rattle.member_quorum.specs.declared.level.Level.{Level as CodeLevel}
use Rattle.member_quorum.specs.Levels.{level_meant}
use Rattle.member_node.specs.declared.input.Input.TheVariants as input
use Rattle.member_node.specs.declared.key.KeyState.{KeyState as CodeState}
use Rattle.member_node.specs.declared.input.Input.{Input as CodeInput}
use Rattle.member_node.specs.Inputs.{StandsForInput}
use Rattle.world_places.specs.Sending.{receivers, most_asked, most_posts, AreFew}
use Rattle.world_places.proofs.Lists.{zip_length}

-- RECEIVERS

-- whom a member of a view sends to in a step for an input
abbrev pub receivers_of : {Op : Type 0} → View → Input Op → IdentitySet
receivers_of view (Input.Take from message) = λ id. id == from
receivers_of view (Input.GossipTo to) = λ id. id == to
receivers_of view _ = is_member view

-- and how many messages at most
abbrev pub most_asked_of : View → Level → ℕ
most_asked_of view Level.Local = 0
most_asked_of view _ = length view.members

abbrev pub most_posts_of : {Op : Type 0} → View → Input Op → ℕ
most_posts_of view (Input.Update key op level) = most_asked_of view level
most_posts_of view (Input.Get key level) = most_asked_of view level
most_posts_of view (Input.Take from message) = 1
most_posts_of view (Input.Install other) = 0
most_posts_of view Input.Flush = length view.members
most_posts_of view (Input.GossipTo to) = 1
most_posts_of view Input.PruneTick = 0
most_posts_of view (Input.Timeout op) = 0

-- LISTS

shorter : {X : Type 0} (b : Bool) (x : X) (xs : List X) (n : ℕ) → length xs ≤ n → length (if b then x ∷ xs else xs) ≤ suc n
shorter true x xs n h = omega arith
shorter false x xs n h = omega arith

filter_shorter : {X : Type 0} (p : X → Bool) (xs : List X) → length (filter p xs) ≤ length xs
filter_shorter p [] = omega arith
filter_shorter p (x ∷ xs) = shorter (p x) x (filter p xs) (length xs) (filter_shorter p xs)

all_filtered : {X : Type 0} (p q : X → Bool) (xs : List X) → list_all p xs ≡ true → list_all p (filter q xs) ≡ true
all_filtered p q xs h = list_all-from_AllPass p (filter q xs) (All-filter q (λ x. p x ≡ true) xs (AllPass-from_list_all p xs h))

-- each item of a list is in it
all_in : (is : List ℕ) → list_all (λ i. list_any (λ j. j == i) is) is ≡ true
all_in is =
    list_all-from_AllPass (λ i. list_any (λ j. j == i) is) is
    (λ k d within. list_any_at (λ j. j == get_or is k d) is k d within (eq-eqb (get_or is k d) (get_or is k d) refl))

some_number : (b : Bool) (m n : ℕ) → (if b then Some m else None) ≡ Some n → m ≡ n
some_number true m n e = cc e
some_number false m n e = absurd (cc e)

at_most : (b : Bool) (n : ℕ) → (if b then 0 else n) ≤ n
at_most true n = omega arith
at_most false n = omega arith

to_itself : (i : ℕ) → ((i == i) && true) ≡ true
to_itself i = ap (λ b. b && true) (eq-eqb i i refl)

module _ {Op : Type 0} where
  -- no more than so many posts, and to these alone
  abbrev pub AreFewTo : IdentitySet → ℕ → List (Post Op) → Type 0
  AreFewTo ids most posts = (length posts ≤ most) × (list_all (λ (post : Post Op). ids post.to) posts ≡ true)

  none_few : (ids : IdentitySet) (most : ℕ) (posts : List (Post Op)) → posts ≡ [] → AreFewTo ids most posts
  none_few ids most posts e = subst (AreFewTo ids most) (sym e) (omega arith, refl)

  -- at most one post, to this identity
  abbrev IsOneTo : ℕ → List (Post Op) → Type 0
  IsOneTo i = AreFewTo (λ id. id == i) 1

  one_to : (i : ℕ) (message : Message Op) → IsOneTo i (record { to = i; message = message } ∷ [])
  one_to i message = (omega arith, to_itself i)

  -- a post to each of these
  to_each : (ids : IdentitySet) (message : ℕ → Message Op) (is : List ℕ) (most : ℕ) → length is ≤ most → list_all ids is ≡ true → AreFewTo ids most (map (λ (i : ℕ). record { to = i; message = message i }) is)
  to_each ids message is most few all =
      let post : ℕ → Post Op = λ i. record { to = i; message = message i } in
      (subst (λ n. n ≤ most) (sym (length-map is post)) few, list_all-map (λ (post : Post Op). ids post.to) post is ∙ all)

module _ {Kind Op Shown : Type 0} (D : Replication Kind Op Shown) where
  one_gossip : (i : ℕ) (entries : List (Keyed (Entry Op))) (wants : List Text) → IsOneTo i (gossip_to D i entries wants)
  one_gossip i [] [] = (omega arith, refl)
  one_gossip i [] (w ∷ wants) = (omega arith, to_itself i)
  one_gossip i (e ∷ entries) wants = (omega arith, to_itself i)

  one_nack : (i : ℕ) (gaps : List KeyGap) → IsOneTo i (nack_to D i gaps)
  one_nack i [] = (omega arith, refl)
  one_nack i (gap ∷ gaps) = (omega arith, to_itself i)

  -- counting an answer sends nothing
  posts_counted : (stepped : Stepped Kind Op Shown) (from : ℕ) (o : Option OpenOperation) → (counted_for D stepped from o).output.posts ≡ stepped.output.posts
  posts_counted stepped from None = refl
  posts_counted stepped from (Some o) =
      if_holds (λ (s : Stepped Kind Op Shown). s.output.posts ≡ stepped.output.posts) (nat_le o.needed (length (members_of (with_answer from o).counted))) _ _ refl refl

module _ {Kind Op Shown : Type 0} (D : Replication Kind Op Shown) (node : Node Kind Op Shown) where
  abbrev later : Node Kind Op Shown
  later = one_step_later node

  abbrev IsFew : IdentitySet → ℕ → Stepped Kind Op Shown → Type 0
  IsFew ids most stepped = AreFewTo ids most stepped.output.posts

  abbrev to_members : IdentitySet
  to_members = is_member node.view

  abbrev count : ℕ
  count = length node.view.members

  no_posts : (ids : IdentitySet) (most : ℕ) (stepped : Stepped Kind Op Shown) → stepped.output.posts ≡ [] → IsFew ids most stepped
  no_posts ids most stepped e = none_few ids most stepped.output.posts e

  few_others : length (others node.view node.identity) ≤ count
  few_others =
      let fewer = filter_shorter (λ (j : ℕ). not (j == node.identity)) (identities_of node.view) in
      let same = length-map node.view.members (λ (m : Member). m.identity) in omega (arith, fewer, same)

  others_in : list_all to_members (others node.view node.identity) ≡ true
  others_in = all_filtered to_members (λ (j : ℕ). not (j == node.identity)) (identities_of node.view) (all_in (identities_of node.view))

  -- each other member is asked once
  few_asked : (message : Message Op) → AreFewTo to_members count (to_others node message)
  few_asked message = to_each to_members (λ i. message) (others node.view node.identity) count few_others others_in

  -- UPDATES AND GETS

  -- how many are asked where so many have to answer
  abbrev asked : ℕ → ℕ
  asked n = if nat_le n 1 then 0 else count

  asked_most : (level : Level) (n : ℕ) → needed level (member_count later) ≡ Some n → asked n ≤ most_asked_of node.view level
  asked_most Level.Local n e = subst (λ m. (if nat_le m 1 then 0 else count) ≤ 0) (some_number (nat_le 1 (member_count later)) 1 n e) (omega arith)
  asked_most _ n e = at_most (nat_le n 1) count

  few_accepted : (key : Text) (n : ℕ) (fate : Fate) (entry : Entry Op) → IsFew to_members (asked n) (accepted D later key n fate entry)
  few_accepted key n fate entry =
      let after = with_entry later key entry in
      if_holds (IsFew to_members (asked n)) (has_failed fate) (answered after NotStored) _ (no_posts to_members (asked n) (answered after NotStored) refl) (by_number (nat_le n 1))
    where
      by_number : (b : Bool) → IsFew to_members (if b then 0 else count) (if b then answered (with_entry later key entry) Done else opened (with_entry later key entry) key false n (Write node.next_op key entry))
      by_number true = no_posts to_members 0 (answered (with_entry later key entry) Done) refl
      by_number false = few_asked (Write node.next_op key entry)

  few_unless : (k : KeyState Kind Op) (op : Op) (n : ℕ) (fate : Fate) (o : Option Refusal) → IsFew to_members (asked n) (updated_unless D later k op n fate o)
  few_unless k op n fate None = few_accepted k.name n fate (with_action k.entry node.identity (Action.Operation op))
  few_unless k op n fate (Some refusal) = no_posts to_members (asked n) (answered later (Refused refusal)) refl

  few_needing : (k : KeyState Kind Op) (op : Op) (o : Option ℕ) (fate : Fate) (most : ℕ) → ((n : ℕ) → o ≡ Some n → asked n ≤ most) → IsFew to_members most (updated_needing D later k op o fate)
  few_needing k op None fate most h = no_posts to_members most (answered later TooFew) refl
  few_needing k op (Some n) fate most h =
      let few = few_unless k op n fate (D.data_type.refusal k.kind node.identity op k.entry.history) in
      let more = h n refl in (omega (arith, few.0), few.1)

  few_updated : (o : Option (KeyState Kind Op)) (op : Op) (level : Level) (fate : Fate) → IsFew to_members (most_asked_of node.view level) (updated D later o op level fate)
  few_updated None op level fate = no_posts to_members (most_asked_of node.view level) (answered later UnknownKey) refl
  few_updated (Some k) op level fate =
      let number = needed level (member_count later) in
      let most = most_asked_of node.view level in
      if_holds (IsFew to_members most) (D.data_type.deleted k.entry.history) (answered later Deleted) (updated_undeleted D later k op level fate) (no_posts to_members most (answered later Deleted) refl)
      (if_holds (IsFew to_members most) (D.data_type.fits k.kind op) (updated_needing D later k op number fate) (answered later WrongKind) (few_needing k op number fate most (asked_most level)) (no_posts to_members most (answered later WrongKind) refl))

  few_got_needing : (k : KeyState Kind Op) (o : Option ℕ) (most : ℕ) → ((n : ℕ) → o ≡ Some n → asked n ≤ most) → IsFew to_members most (got_needing D later k o)
  few_got_needing k None most h = no_posts to_members most (answered later TooFew) refl
  few_got_needing k (Some n) most h = let few = by_number (nat_le n 1) in let more = h n refl in (omega (arith, few.0), few.1)
    where
      by_number : (b : Bool) → IsFew to_members (if b then 0 else count) (if b then answered later (value_reply D (meaning_of D k)) else opened later k.name true n (Read node.next_op k.name))
      by_number true = no_posts to_members 0 (answered later (value_reply D (meaning_of D k))) refl
      by_number false = few_asked (Read node.next_op k.name)

  few_got : (o : Option (KeyState Kind Op)) (level : Level) → IsFew to_members (most_asked_of node.view level) (got D later o level)
  few_got None level = no_posts to_members (most_asked_of node.view level) (answered later UnknownKey) refl
  few_got (Some k) level = few_got_needing k (needed level (member_count later)) (most_asked_of node.view level) (asked_most level)

  -- MESSAGES

  -- a write is answered where its key is declared
  one_write : (from : ℕ) (fate : Fate) (op : ℕ) (key : Text) (b : Bool) → IsOneTo from (if b then answer_to D from (if has_failed fate then WriteNack op else WriteAck op) else [])
  one_write from fate op key true = (omega arith, to_itself from)
  one_write from fate op key false = (omega arith, refl)

  -- at most one answer, to the sender
  one_answer : (from : ℕ) (fate : Fate) (message : Message Op) → IsOneTo from (step_of_take D later from fate message).output.posts
  one_answer from fate (Deltas groups entries) = one_nack D from _
  one_answer from fate (Nack keys) = one_gossip D from _ []
  one_answer from fate (Status digests) = one_gossip D from _ _
  one_answer from fate (Gossip entries wants) = one_gossip D from _ []
  one_answer from fate (Write op key entry) = one_write from fate op key (is_some (key_state later key))
  one_answer from fate (WriteAck op) =
      none_few (λ id. id == from) 1 (step_of_take D later from fate (WriteAck op)).output.posts (posts_counted D (answered later Taken) from (find (is_answered_by false op) node.open_operations))
  one_answer from fate (WriteNack op) = (omega arith, refl)
  one_answer from fate (Read op key) = (omega arith, to_itself from)
  one_answer from fate (ReadAnswer op key entry) =
      let after = after_entries later (keyed_option D key entry) in
      none_few (λ id. id == from) 1 (step_of_take D later from fate (ReadAnswer op key entry)).output.posts
      (posts_counted D (took D later after fate [] []) from (find (λ (o : OpenOperation). is_answered_by true op o && bytes_eq o.key key) after.open_operations))

  by_sender : (from : ℕ) (fate : Fate) (message : Message Op) → IsFew (λ id. id == from) 1 (step D node (Input.Take from message) fate)
  by_sender from fate message =
      if_holds (IsFew (λ id. id == from) 1) (is_member node.view from) (step_of_take D later from fate message) (answered later NotFromMember) (one_answer from fate message) (no_posts (λ id. id == from) 1 (answered later NotFromMember) refl)

  -- THE OTHERS

  by_peer : (i : ℕ) (fate : Fate) → IsFew (λ id. id == i) 1 (step D node (Input.GossipTo i) fate)
  by_peer i fate =
      if_holds (IsFew (λ id. id == i) 1) ((i == node.identity) || not (is_member node.view i)) (answered later NotAPeer) (sent later Done (answer_to D i (status_of D later))) (no_posts (λ id. id == i) 1 (answered later NotAPeer) refl) (one_to i (status_of D later))

  abbrev step_of_install_new : View → Fate → Stepped Kind Op Shown
  step_of_install_new view fate = answered (record later { view = view; entries = λ key. seen_by node.identity view.number (node.entries key) }) (if has_failed fate then NotStored else Installed)

  by_view : (view : View) (fate : Fate) → IsFew to_members 0 (step D node (Input.Install view) fate)
  by_view view fate =
      if_holds (IsFew to_members 0) (nat_le view.number node.view.number) _ _ (no_posts to_members 0 (answered later OldView) refl) (no_posts to_members 0 (step_of_install_new view fate) refl)

  abbrev step_of_leader : Fate → Stepped Kind Op Shown
  step_of_leader fate = answered (record later { entries = entry_after_tick D later }) (if has_failed fate then TickedNotStored (outcomes_of D later) else Ticked (outcomes_of D later))

  by_leader : (fate : Fate) → IsFew to_members 0 (step D node Input.PruneTick fate)
  by_leader fate =
      if_holds (IsFew to_members 0) (not (leader node.view == node.identity)) _ _ (no_posts to_members 0 (answered later (NotLeader (leader node.view))) refl) (no_posts to_members 0 (step_of_leader fate) refl)

  abbrev closed : ℕ → Stepped Kind Op Shown
  closed op = answered (record later { open_operations = filter (λ (o : OpenOperation). not (o.op == op)) node.open_operations }) TimedOut

  by_operation : (op : ℕ) (fate : Fate) → IsFew to_members 0 (step D node (Input.Timeout op) fate)
  by_operation op fate =
      if_holds (IsFew to_members 0) (list_any (λ (o : OpenOperation). o.op == op) node.open_operations) _ _ (no_posts to_members 0 (closed op) refl) (no_posts to_members 0 (answered later NoSuchOp) refl)

  by_flush : (fate : Fate) → IsFew to_members count (step D node Input.Flush fate)
  by_flush fate =
      let is_late : ℕ → Bool = λ peer. list_any (is_behind D later peer) (key_states later) in
      let fewer = filter_shorter is_late (others node.view node.identity) in
      let few = few_others in
      to_each to_members (λ peer. deltas_for D later peer) (filter is_late (others node.view node.identity)) count (omega arith) (all_filtered to_members is_late (others node.view node.identity) others_in)

  pub few_posts : (input : Input Op) (fate : Fate) → AreFewTo (receivers_of node.view input) (most_posts_of node.view input) (step D node input fate).output.posts
  few_posts (Input.Update key op level) fate = few_updated (key_state later key) op level fate
  few_posts (Input.Get key level) fate = few_got (key_state later key) level
  few_posts (Input.Take from message) fate = by_sender from fate message
  few_posts (Input.Install view) fate = by_view view fate
  few_posts Input.Flush fate = by_flush fate
  few_posts (Input.GossipTo i) fate = by_peer i fate
  few_posts Input.PruneTick fate = by_leader fate
  few_posts (Input.Timeout op) fate = by_operation op fate

-- THE PROGRAM

same_asked : (view : View) (l : CodeLevel) → most_asked_of view (level_meant l) ≡ most_asked view l
same_asked view level.Local = refl
same_asked view (level.To number) = refl
same_asked view (level.Majority cap) = refl
same_asked view level.All = refl

module _ {T Kind Op Delta : Type 0} {ghosts : Ghosts T Kind Op Delta} (kinds : Text → Kind) (logs : Text → History Op) where
  same_most : (keys : List (CodeState T Kind Op Delta)) (view : View) (given : CodeInput T Kind Op Delta ghosts) (sent : nodes.Input Op) → StandsForInput kinds logs keys given sent → most_posts_of view sent ≡ most_posts view given
  same_most keys view (input.Update key op l) sent s = ap (most_posts_of view) s ∙ same_asked view l
  same_most keys view (input.Get key l) sent s = ap (most_posts_of view) s ∙ same_asked view l
  same_most keys view (input.Take from message) sent s = ap (most_posts_of view) s.is
  same_most keys view _ sent s = ap (most_posts_of view) s

  same_receivers : (keys : List (CodeState T Kind Op Delta)) (view : View) (given : CodeInput T Kind Op Delta ghosts) (sent : nodes.Input Op) → StandsForInput kinds logs keys given sent → receivers_of view sent ≡ receivers view given
  same_receivers keys view (input.Take from message) sent s = ap (receivers_of view) s.is
  same_receivers keys view _ sent s = ap (receivers_of view) s

  all_received : (ids : IdentitySet) (posts : List (CodePost T Kind Op Delta ghosts)) (sents : List (sending.Post Op)) → StandsForPosts ghosts.kind_of ghosts.IsDataOf kinds logs posts sents → list_all (λ (post : sending.Post Op). ids post.to) sents ≡ true
      → list_all (λ (post : CodePost T Kind Op Delta ghosts). ids post.to) posts ≡ true
  all_received ids posts sents s all = sym (same posts sents s) ∙ all
    where
      same : (posts : List (CodePost T Kind Op Delta ghosts)) (sents : List (sending.Post Op)) → StandsForPosts ghosts.kind_of ghosts.IsDataOf kinds logs posts sents
          → list_all (λ (post : sending.Post Op). ids post.to) sents ≡ list_all (λ (post : CodePost T Kind Op Delta ghosts). ids post.to) posts
      same [] [] s = refl
      same [] (y ∷ ys) s = absurd s
      same (x ∷ xs) [] s = absurd s
      same (x ∷ xs) (y ∷ ys) s = (λ i. ids (s.0.to i) && same xs ys s.1 i)

  pub few_sent : (keys : List (CodeState T Kind Op Delta)) (view model_view : View) (given : CodeInput T Kind Op Delta ghosts) (sent : nodes.Input Op) (posts : List (CodePost T Kind Op Delta ghosts)) (sents : List (sending.Post Op)) → model_view ≡ view → StandsForInput kinds logs keys given sent
      → StandsForPosts ghosts.kind_of ghosts.IsDataOf kinds logs posts sents → AreFewTo (receivers_of model_view sent) (most_posts_of model_view sent) sents → AreFew view given posts
  few_sent keys view model_view given sent posts sents same stands posts_stand are =
      let count : length posts ≡ length sents = zip_length _ posts sents posts_stand in
      let most : most_posts_of model_view sent ≡ most_posts view given = ap (λ v. most_posts_of v sent) same ∙ same_most keys view given sent stands in
      let whom : receivers_of model_view sent ≡ receivers view given = ap (λ v. receivers_of v sent) same ∙ same_receivers keys view given sent stands in
      record {
        few = omega (arith, are.0);
        received = all_received (receivers view given) posts sents posts_stand (subst (λ (ids : IdentitySet). list_all (λ (post : sending.Post Op). ids post.to) sents ≡ true) whom are.1);
      }
