-- A member with a part of the keys makes the step of one with all, and still uses only these.
--     steps_alike        it is so for each input that speaks of these keys only, whatever the store does
use Rattle.std.proofs.Common.{◌≡◌, ℕ, List, [], ◌∷◌, refl, sym, ap, ◌∙◌, subst, Bool, true, false, not, ◌&&◌, ◌||◌, Option, Some, None, inl, inr, map, filter, find, if◌then◌else◌, nat_lt, nat_le, length, ◌==◌, is_some, option_and_then}
use Rattle.std.specs.List.{list_any}
use Rattle.std.specs.Str.{bytes_eq}
use Rattle.std.proofs.lemmas.Bool.{and_parts, not-true, cases_Bool}
use Rattle.model_history.specs.Texts.{Text}
use Rattle.model_history.specs.History.{Action, at}
use Rattle.model_meanings.specs.Refusal.{Refusal}
use Rattle.model_members.specs.DataType.{Replication}
use Rattle.model_members.specs.View.{View, is_member, leader, others}
use Rattle.model_members.specs.Entry.{Entry, Group, seen_by, with_action}
use Rattle.model_members.specs.Message.{Keyed, Message, Post, part_of}
use Rattle.model_members.specs.Message.Message.{Deltas, Nack, Status, Gossip, Write, WriteAck, WriteNack, Read, ReadAnswer}
use Rattle.model_members.specs.Node.{KeyDecl, KeyState, Node, Input, Fate, Level, OpenOperation, Stepped, key_state, needed, one_step_later, with_entry}
use Rattle.model_members.specs.Node.Result.{Wrote}
use Rattle.model_members.specs.Node.Reply.{Done, Deleted, WrongKind, NotStored, Taken, NotFromMember, OldView, Installed, NotAPeer, Ticked, TickedNotStored, NotLeader, TimedOut, NoSuchOp}
use Rattle.model_members.specs.Step.{AfterGroups, KeyGap, step, step_of, step_of_take, counted, step_of_flush, after_groups, after_entries, named_entries, answered, opened, gossip_to, answer_to, write_answer, is_answered_by, news_for, wanted_from, result_of, read_result, take_reply, took, took_deltas, sent, nack_to, status_of, member_count, outcomes_of, entry_after_tick, keyed_option, value_reply, meaning_of, has_failed}
use Rattle.model_members.proofs.Cases.{updated, updated_undeleted, updated_needing, updated_unless, got, got_needing}
use Rattle.model_members.proofs.FailedStores.{if_holds}
use Rattle.base_bytes.proofs.TextLaws.{eq_texts}
use Rattle.theorem_declaring.specs.Parts.{knows, with_keys, stepped_with, UsesOnly, SpeaksOf}
use Rattle.theorem_declaring.proofs.Lists.{found}
use Rattle.theorem_declaring.proofs.Keys.{found_state, state_known, uses_with_entry}
use Rattle.theorem_declaring.proofs.Untouched.{seen_empty}
use Rattle.theorem_declaring.proofs.Taking.{AreKnown, known_items, entries_alike, groups_alike}
use Rattle.theorem_declaring.proofs.Telling.{changed_alike, named_alike, news_alike, wanted_alike, status_alike, read_alike, behind_alike, deltas_alike, outcomes_alike, tick_empty, ticks_alike}
use Rattle.theorem_declaring.proofs.Counting.{StepsAlike, counts_alike}

module _ {Kind Op Shown : Type 0} (D : Replication Kind Op Shown) (part : List (KeyDecl Kind)) (node : Node Kind Op Shown) (uses : UsesOnly part node) where
  abbrev other : Node Kind Op Shown
  other = with_keys part node

  abbrev Alike : (one two : Stepped Kind Op Shown) → Type 0
  Alike one two = StepsAlike part one two

  quiet : {one two : Stepped Kind Op Shown} → two ≡ stepped_with part one → UsesOnly part one.node → StepsAlike part one two
  quiet same stays = record { alike = same; stays = stays }

  -- UPDATES AND GETS

  update_accepted : (key : Text) (n : ℕ) (entry : Entry Op) → knows part key ≡ true → (b fails : Bool)
      → Alike (if fails then answered (with_entry node key entry) NotStored else (if b then answered (with_entry node key entry) Done else opened (with_entry node key entry) key false n (Write node.next_op key entry)))
      (if fails then answered (with_entry other key entry) NotStored else (if b then answered (with_entry other key entry) Done else opened (with_entry other key entry) key false n (Write node.next_op key entry)))
  update_accepted key n entry known b true = quiet refl (uses_with_entry part node key entry known uses)
  update_accepted key n entry known true false = quiet refl (uses_with_entry part node key entry known uses)
  update_accepted key n entry known false false = let after = uses_with_entry part node key entry known uses in quiet refl (record { is_part = after.is_part; no_others = after.no_others })

  update_unless : (k : KeyState Kind Op) (op : Op) (n : ℕ) (fate : Fate) → knows part k.name ≡ true → (o : Option Refusal) → Alike (updated_unless D node k op n fate o) (updated_unless D other k op n fate o)
  update_unless k op n fate known None = update_accepted k.name n (with_action k.entry node.identity (Action.Operation op)) known (nat_le n 1) (has_failed fate)
  update_unless k op n fate known (Some refusal) = quiet refl uses

  update_needing : (k : KeyState Kind Op) (op : Op) (fate : Fate) → knows part k.name ≡ true → (o : Option ℕ) → Alike (updated_needing D node k op o fate) (updated_needing D other k op o fate)
  update_needing k op fate known (Some n) = update_unless k op n fate known (D.data_type.refusal k.kind node.identity op k.entry.history)
  update_needing k op fate known None = quiet refl uses

  update_at : (k : KeyState Kind Op) (op : Op) (level : Level) (fate : Fate) → knows part k.name ≡ true → (b : Bool)
      → Alike (if b then updated_needing D node k op (needed level (member_count node)) fate else answered node WrongKind) (if b then updated_needing D other k op (needed level (member_count other)) fate else answered other WrongKind)
  update_at k op level fate known true = update_needing k op fate known (needed level (member_count node))
  update_at k op level fate known false = quiet refl uses

  update_kept : (k : KeyState Kind Op) (op : Op) (level : Level) (fate : Fate) → knows part k.name ≡ true → (b : Bool)
      → Alike (if b then answered node Deleted else updated_undeleted D node k op level fate) (if b then answered other Deleted else updated_undeleted D other k op level fate)
  update_kept k op level fate known true = quiet refl uses
  update_kept k op level fate known false = update_at k op level fate known (D.data_type.fits k.kind op)

  update_by : (key : Text) → knows part key ≡ true → (o : Option (KeyState Kind Op)) → key_state node key ≡ o → (op : Op) (level : Level) (fate : Fate) → Alike (updated D node o op level fate) (updated D other o op level fate)
  update_by key known None is op level fate = quiet refl uses
  update_by key known (Some k) is op level fate = update_kept k op level fate (ap (knows part) (found_state node key k is).0 ∙ known) (D.data_type.deleted k.entry.history)

  update_alike : (key : Text) (op : Op) (level : Level) (fate : Fate) → knows part key ≡ true → Alike (updated D node (key_state node key) op level fate) (updated D other (key_state other key) op level fate)
  update_alike key op level fate known =
      subst (λ (o : Option (KeyState Kind Op)). Alike (updated D node (key_state node key) op level fate) (updated D other o op level fate)) (sym (state_known part node uses.is_part key known)) (update_by key known (key_state node key) refl op level fate)

  get_shown : (k : KeyState Kind Op) (n : ℕ) (b : Bool)
      → Alike (if b then answered node (value_reply D (meaning_of D k)) else opened node k.name true n (Read node.next_op k.name)) (if b then answered other (value_reply D (meaning_of D k)) else opened other k.name true n (Read node.next_op k.name))
  get_shown k n true = quiet refl uses
  get_shown k n false = quiet refl (record { is_part = uses.is_part; no_others = uses.no_others })

  get_needing : (k : KeyState Kind Op) (o : Option ℕ) → Alike (got_needing D node k o) (got_needing D other k o)
  get_needing k None = quiet refl uses
  get_needing k (Some n) = get_shown k n (nat_le n 1)

  get_by : (o : Option (KeyState Kind Op)) (level : Level) → Alike (got D node o level) (got D other o level)
  get_by None level = quiet refl uses
  get_by (Some k) level = get_needing k (needed level (member_count node))

  get_alike : (key : Text) (level : Level) → knows part key ≡ true → Alike (got D node (key_state node key) level) (got D other (key_state other key) level)
  get_alike key level known =
      subst (λ (o : Option (KeyState Kind Op)). Alike (got D node (key_state node key) level) (got D other o level)) (sym (state_known part node uses.is_part key known)) (get_by (key_state node key) level)

  -- MESSAGES

  -- a message was taken, and these entries differ then
  took_alike : (after : Node Kind Op Shown) (fate : Fate) (gaps : List KeyGap) (posts : List (Post Op)) → UsesOnly part after → took D other (with_keys part after) fate gaps posts ≡ stepped_with part (took D node after fate gaps posts)
  took_alike after fate gaps posts stays = ap (λ (ks : List (KeyState Kind Op)). sent (with_keys part after) (take_reply D fate gaps (not (nat_lt 0 (length ks)))) posts) (changed_alike part node after uses stays)

  took_entries : (entries : List (Keyed (Entry Op))) (fate : Fate) (posts : List (Post Op)) → AreKnown part entries → Alike (took D node (after_entries node entries) fate [] posts) (took D other (after_entries other entries) fate [] posts)
  took_entries entries fate posts known =
      let taken = entries_alike part entries node known uses in
      quiet (ap (λ (n : Node Kind Op Shown). took D other n fate [] posts) taken.0 ∙ took_alike (after_entries node entries) fate [] posts taken.1) taken.1

  deltas_taken : (from : ℕ) (fate : Fate) (groups : List (Keyed (Group Op))) (entries : List (Keyed (Entry Op))) → AreKnown part groups → AreKnown part entries
      → Alike (took_deltas D node from fate (after_groups node groups) entries) (took_deltas D other from fate (after_groups other groups) entries)
  deltas_taken from fate groups entries known_groups known_entries =
      let before = after_groups node groups in
      let first = groups_alike part groups (record { node = node; gaps = [] }) known_groups uses in
      let taken = entries_alike part entries before.node known_entries first.1 in
      quiet
      (ap (λ (a : AfterGroups Kind Op Shown). took_deltas D other from fate a entries) first.0
      ∙ ap (λ (n : Node Kind Op Shown). took D other n fate before.gaps (nack_to D from before.gaps)) taken.0
      ∙ took_alike (after_entries before.node entries) fate before.gaps (nack_to D from before.gaps) taken.1) taken.1

  gossip_taken : (from : ℕ) (fate : Fate) (entries : List (Keyed (Entry Op))) (wants : List Text) → AreKnown part entries → Alike (step_of_take D node from fate (Gossip entries wants)) (step_of_take D other from fate (Gossip entries wants))
  gossip_taken from fate entries wants known =
      let after = after_entries node entries in
      let taken = entries_alike part entries node known uses in
      quiet
      (ap (λ (n : Node Kind Op Shown). took D other n fate [] (gossip_to D from (named_entries D n wants) [])) taken.0
      ∙ ap (λ (named : List (Keyed (Entry Op))). took D other (with_keys part after) fate [] (gossip_to D from named [])) (named_alike D part after taken.1 wants)
      ∙ took_alike after fate [] (gossip_to D from (named_entries D after wants) []) taken.1) taken.1

  -- a write ends alike whatever its key is
  write_ends : (n : Node Kind Op Shown) (op : ℕ) (ops : List OpenOperation) (o : OpenOperation) → find (is_answered_by false op) ops ≡ Some o → result_of D (with_keys part n) o ≡ result_of D n o
  write_ends n op ops o is =
      let writes : o.reads ≡ false = not-true o.reads (and_parts (o.op == op) (not o.reads) (found (is_answered_by false op) ops o is)).1 in
      rw writes refl

  -- a read of a known key ends alike
  read_ends : (n : Node Kind Op Shown) (op : ℕ) (key : Text) (ops : List OpenOperation) (o : OpenOperation) → UsesOnly part n → knows part key ≡ true
      → find (λ (p : OpenOperation). is_answered_by true op p && bytes_eq p.key key) ops ≡ Some o → result_of D (with_keys part n) o ≡ result_of D n o
  read_ends n op key ops o stays known is =
      let here = eq_texts o.key key (and_parts (is_answered_by true op o) (bytes_eq o.key key) (found (λ (p : OpenOperation). is_answered_by true op p && bytes_eq p.key key) ops o is)).1 in
      ap (λ (state : Option (KeyState Kind Op)). if o.reads then read_result D (option_and_then (meaning_of D) state) else Wrote) (state_known part n stays.is_part o.key (ap (knows part) here ∙ known))

  answer_taken : (from : ℕ) (fate : Fate) (op : ℕ) (key : Text) (entry : Option (Entry Op)) → knows part key ≡ true → AreKnown part (keyed_option D key entry) → Alike (step_of_take D node from fate (ReadAnswer op key entry)) (step_of_take D other from fate (ReadAnswer op key entry))
  answer_taken from fate op key entry known items =
      let test = λ (o : OpenOperation). is_answered_by true op o && bytes_eq o.key key in
      let taken = took_entries (keyed_option D key entry) fate [] items in
      let one = took D node (after_entries node (keyed_option D key entry)) fate [] [] in
      subst (λ (s : Stepped Kind Op Shown). Alike (counted D one from test) (counted D s from test)) (sym taken.alike)
      (counts_alike D part one from (find test one.node.open_operations) taken.stays (λ o is. read_ends one.node op key one.node.open_operations o taken.stays known is))

  -- a message of one key, which is a known one
  its_key : (key : Text) (m : Message Op) → (Deltas [] [] ≡ m → ⊥) → m ≡ (if knows part key then m else Deltas [] []) → knows part key ≡ true
  its_key key m some same = elim (cases_Bool (knows part key)) [ inl known ↦ known | inr unknown ↦ absurd (some (sym (rw unknown at same))) ]

  one_item : (key : Text) (entry : Entry Op) → knows part key ≡ true → AreKnown part (record { key = key; item = entry } ∷ [])
  one_item key entry known = rw known refl

  option_items : (key : Text) (entry : Option (Entry Op)) → knows part key ≡ true → AreKnown part (keyed_option D key entry)
  option_items key None known = refl
  option_items key (Some entry) known = one_item key entry known

  -- both answer a write of a known key
  written : (from : ℕ) (fate : Fate) (op : ℕ) (key : Text) (entry : Entry Op) → knows part key ≡ true → Alike (step_of_take D node from fate (Write op key entry)) (step_of_take D other from fate (Write op key entry))
  written from fate op key entry known =
      let items : List (Keyed (Entry Op)) = record { key = key; item = entry } ∷ [] in
      let answer = if has_failed fate then WriteNack op else WriteAck op in
      subst (λ (posts : List (Post Op)). Alike (step_of_take D node from fate (Write op key entry)) (took D other (after_entries other items) fate [] posts))
      (ap (λ (state : Option (KeyState Kind Op)). if is_some state then answer_to D from answer else []) (sym (state_known part node uses.is_part key known)))
      (took_entries items fate (write_answer D node from fate op key) (one_item key entry known))

  take_alike : (from : ℕ) (fate : Fate) (m : Message Op) → m ≡ part_of (knows part) m → Alike (step_of_take D node from fate m) (step_of_take D other from fate m)
  take_alike from fate (Deltas groups entries) same = deltas_taken from fate groups entries (known_items part groups (cc same)) (known_items part entries (cc same))
  take_alike from fate (Nack keys) same = quiet (ap (λ (named : List (Keyed (Entry Op))). sent other Taken (gossip_to D from named [])) (named_alike D part node uses keys)) uses
  take_alike from fate (Status digests) same =
      quiet
      (ap (λ (news : List (Keyed (Entry Op))). sent other Taken (gossip_to D from news (wanted_from D other digests))) (news_alike D part node uses digests)
      ∙ ap (λ (wants : List Text). sent other Taken (gossip_to D from (news_for D node digests) wants)) (wanted_alike D part node uses digests (known_items part digests (cc same)))) uses
  take_alike from fate (Gossip entries wants) same = gossip_taken from fate entries wants (known_items part entries (cc same))
  take_alike from fate (Write op key entry) same = written from fate op key entry (its_key key (Write op key entry) (λ e. cc e) same)
  take_alike from fate (WriteAck op) same = counts_alike D part (answered node Taken) from (find (is_answered_by false op) node.open_operations) uses (λ o is. write_ends node op node.open_operations o is)
  take_alike from fate (WriteNack op) same = quiet refl uses
  take_alike from fate (Read op key) same = quiet (ap (λ (held : Option (Entry Op)). sent other Taken (answer_to D from (ReadAnswer op key held))) (read_alike D part node uses key)) uses
  take_alike from fate (ReadAnswer op key entry) same = let known = its_key key (ReadAnswer op key entry) (λ e. cc e) same in answer_taken from fate op key entry known (option_items key entry known)

  take_by : (from : ℕ) (fate : Fate) (m : Message Op) → m ≡ part_of (knows part) m → (b : Bool)
      → Alike (if b then step_of_take D node from fate m else answered node NotFromMember) (if b then step_of_take D other from fate m else answered other NotFromMember)
  take_by from fate m same true = take_alike from fate m same
  take_by from fate m same false = quiet refl uses

  -- THE OTHERS

  install_by : (view : View) (fate : Fate) (b : Bool) → Alike
      (if b then answered node OldView else answered (record node { view = view; entries = λ key. seen_by node.identity view.number (node.entries key) }) (if has_failed fate then NotStored else Installed))
      (if b then answered other OldView else answered (record other { view = view; entries = λ key. seen_by node.identity view.number (node.entries key) }) (if has_failed fate then NotStored else Installed))
  install_by view fate true = quiet refl uses
  install_by view fate false = quiet refl (record { is_part = uses.is_part; no_others = λ key unknown. (seen_empty node.identity view.number (node.entries key) (uses.no_others key unknown).0, (uses.no_others key unknown).1) })

  flush_alike : Alike (step_of_flush D node) (step_of_flush D other)
  flush_alike =
      let peers = others node.view node.identity in
      let after : ℕ → Text → ℕ = λ peer key. if list_any (λ i. i == peer) peers then at (node.entries key).history node.identity else node.flushed key peer in
      let unsent : (key : Text) → knows part key ≡ false → (peer : ℕ) → after peer key ≡ 0 = λ key unknown peer.
      if_holds (λ n. n ≡ 0) (list_any (λ i. i == peer) peers) (at (node.entries key).history node.identity) (node.flushed key peer)
      (ap (λ (x : Entry Op). at x.history node.identity) (uses.no_others key unknown).0) ((uses.no_others key unknown).1 peer) in
      quiet
      (λ j. sent (record other { flushed = λ key peer. after peer key }) Done
      (map (λ peer. record { to = peer; message = deltas_alike D part node uses peer j }) (filter (λ peer. behind_alike D part node uses peer j) peers)))
      (record { is_part = uses.is_part; no_others = λ key unknown. ((uses.no_others key unknown).0, unsent key unknown) })

  gossip_by : (i : ℕ) (b : Bool) → Alike (if b then answered node NotAPeer else sent node Done (answer_to D i (status_of D node))) (if b then answered other NotAPeer else sent other Done (answer_to D i (status_of D other)))
  gossip_by i true = quiet refl uses
  gossip_by i false = quiet (ap (λ (status : Message Op). sent other Done (answer_to D i status)) (status_alike D part node uses)) uses

  tick_by : (fate : Fate) (b : Bool) → Alike
      (if b then answered node (NotLeader (leader node.view)) else answered (record node { entries = entry_after_tick D node }) (if has_failed fate then TickedNotStored (outcomes_of D node) else Ticked (outcomes_of D node)))
      (if b then answered other (NotLeader (leader node.view)) else answered (record other { entries = entry_after_tick D other }) (if has_failed fate then TickedNotStored (outcomes_of D other) else Ticked (outcomes_of D other)))
  tick_by fate true = quiet refl uses
  tick_by fate false =
      quiet
      (λ j. answered (record other { entries = ticks_alike D part node uses j }) (if has_failed fate then TickedNotStored (outcomes_alike D part node uses j) else Ticked (outcomes_alike D part node uses j)))
      (record { is_part = uses.is_part; no_others = λ key unknown. (tick_empty D part node uses key unknown, (uses.no_others key unknown).1) })

  timeout_by : (op : ℕ) (b : Bool) → Alike
      (if b then answered (record node { open_operations = filter (λ (o : OpenOperation). not (o.op == op)) node.open_operations }) TimedOut else answered node NoSuchOp)
      (if b then answered (record other { open_operations = filter (λ (o : OpenOperation). not (o.op == op)) node.open_operations }) TimedOut else answered other NoSuchOp)
  timeout_by op true = quiet refl (record { is_part = uses.is_part; no_others = uses.no_others })
  timeout_by op false = quiet refl uses

  step_alike : (i : Input Op) (fate : Fate) → SpeaksOf part i → Alike (step_of D node i fate) (step_of D other i fate)
  step_alike (Input.Update key op level) fate speaks = update_alike key op level fate speaks
  step_alike (Input.Get key level) fate speaks = get_alike key level speaks
  step_alike (Input.Take from message) fate speaks = take_by from fate message speaks (is_member node.view from)
  step_alike (Input.Install view) fate speaks = install_by view fate (nat_le view.number node.view.number)
  step_alike Input.Flush fate speaks = flush_alike
  step_alike (Input.GossipTo i) fate speaks = gossip_by i ((i == node.identity) || not (is_member node.view i))
  step_alike Input.PruneTick fate speaks = tick_by fate (not (leader node.view == node.identity))
  step_alike (Input.Timeout op) fate speaks = timeout_by op (list_any (λ (o : OpenOperation). o.op == op) node.open_operations)

-- the step of the member with a part of the keys
pub steps_alike : {Kind Op Shown : Type 0} (D : Replication Kind Op Shown) (part : List (KeyDecl Kind)) (node : Node Kind Op Shown) (i : Input Op) (fate : Fate) → UsesOnly part node → SpeaksOf part i → StepsAlike part (step D node i fate) (step D (with_keys part node) i fate)
steps_alike D part node i fate uses speaks = step_alike D part (one_step_later node) (record { is_part = uses.is_part; no_others = uses.no_others }) i fate speaks
