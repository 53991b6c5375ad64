-- A step of the model's member reads nothing of how operations ended before: with other ends it is the same step.
--     with_ends        a member with other ends of operations
--     AddsAlike        a step of it, which adds the same ends to those
--     adds_alike        it is so for each input, whatever the store does
use Rattle.std.proofs.Common.{◌≡◌, ℕ, List, [], ◌∷◌, ◌++◌, append-nil, refl, sym, ap, ◌∙◌, subst, Bool, true, false, not, Option, Some, None, length, map, filter, find, if◌then◌else◌, nat_le, ◌==◌, ◌||◌, ◌&&◌, bytes_eq, fold}
use Rattle.std.specs.List.{list_any}
use Rattle.model_history.specs.Texts.{Text}
use Rattle.model_history.specs.Vector.{members_of}
use Rattle.model_history.specs.History.{Action}
use Rattle.model_meanings.specs.Refusal.{Refusal}
use Rattle.model_members.specs.DataType.{Replication}
use Rattle.model_members.specs.View.{View, is_member, leader}
use Rattle.model_members.specs.Entry.{Entry, Group, Judgement, judged, merged, seen_by, with_action}
use Rattle.model_members.specs.Entry.Judgement.{Wanted, Stale, Missing}
use Rattle.model_members.specs.Message.{Keyed, Message}
use Rattle.model_members.specs.Message.Message.{Deltas, Nack, Status, Gossip, Write, WriteAck, WriteNack, Read, ReadAnswer}
use Rattle.model_members.specs.Node.{KeyState, Node, Finished, Input, Fate, Level, OpenOperation, Stepped, key_state, needed, one_step_later, with_entry}
use Rattle.model_members.specs.Node.Reply.{Done, Deleted, WrongKind, NotStored, Taken, NotFromMember, OldView, Installed, NotAPeer, Ticked, TickedNotStored, NotLeader, TimedOut, NoSuchOp}
use Rattle.model_members.specs.Step.{AfterGroups, step, step_of_take, take_entry, take_group, after_groups, after_entries, named_entries, answered, opened, gossip_to, answer_to, write_answer, is_answered_by, result_of, took, took_deltas, sent, nack_to, status_of, member_count, outcomes_of, entry_after_tick, keyed_option, with_answer, value_reply, meaning_of, has_failed, is_entry_passed_over, is_group_passed_over}
use Rattle.model_members.proofs.Cases.{updated, updated_undeleted, updated_needing, updated_unless, got, got_needing, counted_for, with_taken_entry, with_taken_group, with_judged}

module _ {Kind Op Shown : Type 0} where
  abbrev pub with_ends : List (Finished Shown) → Node Kind Op Shown → Node Kind Op Shown
  with_ends ends node = record node { finished = ends }

  -- the same output and member, but that the same ends are added to others
  pub record AddsAlike (before ends : List (Finished Shown)) (one other : Stepped Kind Op Shown) : Type 0 where
    pub added : List (Finished Shown)
    pub adds : one.node.finished ≡ before ++ added
    pub alike : other ≡ record one { node = with_ends (ends ++ added) one.node }

  -- none is added
  adds_none : (before ends : List (Finished Shown)) (one other : Stepped Kind Op Shown) → one.node.finished ≡ before → other ≡ record one { node = with_ends ends one.node } → AddsAlike before ends one other
  adds_none before ends one other same alike = record {
    added = [];
    adds = same ∙ sym (append-nil before);
    alike = alike ∙ ap (λ (fs : List (Finished Shown)). record one { node = with_ends fs one.node }) (sym (append-nil ends));
  }

  -- TAKING ENTRIES AND GROUPS

  entry_alike : (node : Node Kind Op Shown) (ends : List (Finished Shown)) (e : Keyed (Entry Op)) → take_entry (with_ends ends node) e ≡ with_ends ends (take_entry node e)
  entry_alike node ends e = by (key_state node e.key)
    where
      pick : (k : KeyState Kind Op) (entry : Entry Op) (b : Bool) → (if b then with_ends ends node else with_entry (with_ends ends node) k.name entry) ≡ with_ends ends (if b then node else with_entry node k.name entry)
      pick k entry true = refl
      pick k entry false = refl

      by : (o : Option (KeyState Kind Op)) → with_taken_entry (with_ends ends node) o e.item ≡ with_ends ends (with_taken_entry node o e.item)
      by None = refl
      by (Some k) = pick k (seen_by node.identity node.view.number (merged k.entry e.item)) (is_entry_passed_over node.identity k.entry e.item)

  entries_alike : (entries : List (Keyed (Entry Op))) (node : Node Kind Op Shown) (ends : List (Finished Shown)) → after_entries (with_ends ends node) entries ≡ with_ends ends (after_entries node entries)
  entries_alike [] node ends = refl
  entries_alike (e ∷ entries) node ends = ap (λ (n : Node Kind Op Shown). after_entries n entries) (entry_alike node ends e) ∙ entries_alike entries (take_entry node e) ends

  entries_end : (entries : List (Keyed (Entry Op))) (node : Node Kind Op Shown) → (after_entries node entries).finished ≡ node.finished
  entries_end entries node = ap (λ (n : Node Kind Op Shown). n.finished) (entries_alike entries node node.finished)

  -- the groups taken so far, by a member with other ends
  abbrev groups_with : List (Finished Shown) → AfterGroups Kind Op Shown → AfterGroups Kind Op Shown
  groups_with ends so_far = record so_far { node = with_ends ends so_far.node }

  group_alike : (so_far : AfterGroups Kind Op Shown) (ends : List (Finished Shown)) (g : Keyed (Group Op)) → take_group (groups_with ends so_far) g ≡ groups_with ends (take_group so_far g)
  group_alike so_far ends g = by (key_state so_far.node g.key)
    where
      judge : (k : KeyState Kind Op) (j : Judgement) → with_judged (groups_with ends so_far) k g.item j ≡ groups_with ends (with_judged so_far k g.item j)
      judge k Wanted = refl
      judge k Stale = refl
      judge k (Missing i) = refl

      pick : (k : KeyState Kind Op) (b : Bool)
          → (if b then groups_with ends so_far else with_judged (groups_with ends so_far) k g.item (judged k.entry g.item)) ≡ groups_with ends (if b then so_far else with_judged so_far k g.item (judged k.entry g.item))
      pick k true = refl
      pick k false = judge k (judged k.entry g.item)

      by : (o : Option (KeyState Kind Op)) → with_taken_group (groups_with ends so_far) o g.item ≡ groups_with ends (with_taken_group so_far o g.item)
      by None = refl
      by (Some k) = pick k (is_group_passed_over so_far.node.identity k.entry g.item)

  groups_alike : (groups : List (Keyed (Group Op))) (so_far : AfterGroups Kind Op Shown) (ends : List (Finished Shown)) → fold take_group (groups_with ends so_far) groups ≡ groups_with ends (fold take_group so_far groups)
  groups_alike [] so_far ends = refl
  groups_alike (g ∷ groups) so_far ends = ap (λ (a : AfterGroups Kind Op Shown). fold take_group a groups) (group_alike so_far ends g) ∙ groups_alike groups (take_group so_far g) ends

  groups_end : (groups : List (Keyed (Group Op))) (node : Node Kind Op Shown) → (after_groups node groups).node.finished ≡ node.finished
  groups_end groups node = ap (λ (a : AfterGroups Kind Op Shown). a.node.finished) (groups_alike groups (record { node = node; gaps = [] }) node.finished)

module _ {Kind Op Shown : Type 0} (D : Replication Kind Op Shown) where
  -- COUNTING ANSWERS

  -- the open operation ends, or goes on
  abbrev after_answer : Stepped Kind Op Shown → ℕ → OpenOperation → List (Finished Shown) → Bool → Stepped Kind Op Shown
  after_answer stepped from o ends b = if b
      then record {
        node = record stepped.node { open_operations = filter (λ (p : OpenOperation). not (p.op == o.op)) stepped.node.open_operations; finished = ends ++ record { op = o.op; result = result_of D stepped.node o } ∷ [] };
        output = record stepped.output { ended = Some (record { op = o.op; result = result_of D stepped.node o }) };
      }
      else record stepped { node = record stepped.node { open_operations = map (λ (p : OpenOperation). if p.op == o.op then with_answer from o else p) stepped.node.open_operations; finished = ends } }

  answer_alike : (stepped : Stepped Kind Op Shown) (ends : List (Finished Shown)) (from : ℕ) (o : OpenOperation) (b : Bool) → AddsAlike stepped.node.finished ends (after_answer stepped from o stepped.node.finished b) (after_answer stepped from o ends b)
  answer_alike stepped ends from o true = record { added = record { op = o.op; result = result_of D stepped.node o } ∷ []; adds = refl; alike = refl }
  answer_alike stepped ends from o false = adds_none stepped.node.finished ends (after_answer stepped from o stepped.node.finished false) (after_answer stepped from o ends false) refl refl

  counts : (stepped : Stepped Kind Op Shown) (ends : List (Finished Shown)) (from : ℕ) (o : Option OpenOperation)
      → AddsAlike stepped.node.finished ends (counted_for D stepped from o) (counted_for D (record stepped { node = with_ends ends stepped.node }) from o)
  counts stepped ends from None = adds_none stepped.node.finished ends (counted_for D stepped from None) (counted_for D (record stepped { node = with_ends ends stepped.node }) from None) refl refl
  counts stepped ends from (Some o) = answer_alike stepped ends from o (nat_le o.needed (length (members_of (with_answer from o).counted)))

module _ {Kind Op Shown : Type 0} (D : Replication Kind Op Shown) (node : Node Kind Op Shown) (ends : List (Finished Shown)) where
  abbrev later : Node Kind Op Shown
  later = one_step_later node

  -- and with other ends
  abbrev other : Node Kind Op Shown
  other = with_ends ends later

  abbrev Alike : (one two : Stepped Kind Op Shown) → Type 0
  Alike one two = AddsAlike node.finished ends one two

  quiet : {one two : Stepped Kind Op Shown} → one.node.finished ≡ node.finished → two ≡ record one { node = with_ends ends one.node } → AddsAlike node.finished ends one two
  quiet {one} {two} same alike = adds_none node.finished ends one two same alike

  -- UPDATES AND GETS

  update_accepted : (key : Text) (n : ℕ) (entry : Entry Op) (b fails : Bool)
      → Alike (if fails then answered (with_entry later key entry) NotStored else (if b then answered (with_entry later key entry) Done else opened (with_entry later key entry) key false n (Write node.next_op key entry)))
      (if fails then answered (with_entry other key entry) NotStored else (if b then answered (with_entry other key entry) Done else opened (with_entry other key entry) key false n (Write node.next_op key entry)))
  update_accepted key n entry b true = quiet refl refl
  update_accepted key n entry true false = quiet refl refl
  update_accepted key n entry false false = quiet refl refl

  update_unless : (k : KeyState Kind Op) (op : Op) (n : ℕ) (fate : Fate) (o : Option Refusal) → Alike (updated_unless D later k op n fate o) (updated_unless D other k op n fate o)
  update_unless k op n fate None = update_accepted k.name n (with_action k.entry node.identity (Action.Operation op)) (nat_le n 1) (has_failed fate)
  update_unless k op n fate (Some refusal) = quiet refl refl

  update_needing : (k : KeyState Kind Op) (op : Op) (fate : Fate) (o : Option ℕ) → Alike (updated_needing D later k op o fate) (updated_needing D other k op o fate)
  update_needing k op fate (Some n) = update_unless k op n fate (D.data_type.refusal k.kind node.identity op k.entry.history)
  update_needing k op fate None = quiet refl refl

  update_at : (k : KeyState Kind Op) (op : Op) (level : Level) (fate : Fate) (b : Bool)
      → Alike (if b then updated_needing D later k op (needed level (member_count later)) fate else answered later WrongKind) (if b then updated_needing D other k op (needed level (member_count other)) fate else answered other WrongKind)
  update_at k op level fate true = update_needing k op fate (needed level (member_count later))
  update_at k op level fate false = quiet refl refl

  update_kept : (k : KeyState Kind Op) (op : Op) (level : Level) (fate : Fate) (b : Bool)
      → Alike (if b then answered later Deleted else updated_undeleted D later k op level fate) (if b then answered other Deleted else updated_undeleted D other k op level fate)
  update_kept k op level fate true = quiet refl refl
  update_kept k op level fate false = update_at k op level fate (D.data_type.fits k.kind op)

  update_by : (o : Option (KeyState Kind Op)) (op : Op) (level : Level) (fate : Fate) → Alike (updated D later o op level fate) (updated D other o op level fate)
  update_by None op level fate = quiet refl refl
  update_by (Some k) op level fate = update_kept k op level fate (D.data_type.deleted k.entry.history)

  get_shown : (k : KeyState Kind Op) (n : ℕ) (b : Bool)
      → Alike (if b then answered later (value_reply D (meaning_of D k)) else opened later k.name true n (Read node.next_op k.name)) (if b then answered other (value_reply D (meaning_of D k)) else opened other k.name true n (Read node.next_op k.name))
  get_shown k n true = quiet refl refl
  get_shown k n false = quiet refl refl

  get_needing : (k : KeyState Kind Op) (o : Option ℕ) → Alike (got_needing D later k o) (got_needing D other k o)
  get_needing k None = quiet refl refl
  get_needing k (Some n) = get_shown k n (nat_le n 1)

  get_by : (o : Option (KeyState Kind Op)) (level : Level) → Alike (got D later o level) (got D other o level)
  get_by None level = quiet refl refl
  get_by (Some k) level = get_needing k (needed level (member_count later))

  -- MESSAGES

  take_alike : (from : ℕ) (fate : Fate) (m : Message Op) → Alike (step_of_take D later from fate m) (step_of_take D other from fate m)
  take_alike from fate (Deltas groups entries) =
      let taken = after_groups later groups in
      quiet (entries_end entries taken.node ∙ groups_end groups later)
      (ap (λ (a : AfterGroups Kind Op Shown). took_deltas D other from fate a entries) (groups_alike groups (record { node = later; gaps = [] }) ends)
      ∙ ap (λ (n : Node Kind Op Shown). took D other n fate taken.gaps (nack_to D from taken.gaps)) (entries_alike entries taken.node ends))
  take_alike from fate (Nack keys) = quiet refl refl
  take_alike from fate (Status digests) = quiet refl refl
  take_alike from fate (Gossip entries wants) =
      quiet (entries_end entries later) (ap (λ (n : Node Kind Op Shown). took D other n fate [] (gossip_to D from (named_entries D n wants) [])) (entries_alike entries later ends))
  take_alike from fate (Write op key entry) =
      let entries : List (Keyed (Entry Op)) = record { key = key; item = entry } ∷ [] in
      quiet (entries_end entries later) (ap (λ (n : Node Kind Op Shown). took D other n fate [] (write_answer D later from fate op key)) (entries_alike entries later ends))
  take_alike from fate (WriteAck op) = counts D (answered later Taken) ends from (find (is_answered_by false op) node.open_operations)
  take_alike from fate (WriteNack op) = quiet refl refl
  take_alike from fate (Read op key) = quiet refl refl
  take_alike from fate (ReadAnswer op key entry) =
      let entries = keyed_option D key entry in
      let after = after_entries later entries in
      let one = took D later after fate [] [] in
      let asked = find (λ (o : OpenOperation). is_answered_by true op o && bytes_eq o.key key) after.open_operations in
      subst (λ (n : Node Kind Op Shown). Alike (counted_for D one from asked) (counted_for D (took D other n fate [] []) from (find (λ (o : OpenOperation). is_answered_by true op o && bytes_eq o.key key) n.open_operations)))
      (sym (entries_alike entries later ends))
      (subst (λ (fs : List (Finished Shown)). AddsAlike fs ends (counted_for D one from asked) (counted_for D (record one { node = with_ends ends after }) from asked)) (entries_end entries later) (counts D one ends from asked))

  take_by : (from : ℕ) (fate : Fate) (m : Message Op) (b : Bool)
      → Alike (if b then step_of_take D later from fate m else answered later NotFromMember) (if b then step_of_take D other from fate m else answered other NotFromMember)
  take_by from fate m true = take_alike from fate m
  take_by from fate m false = quiet refl refl

  -- THE OTHERS

  install_by : (view : View) (fate : Fate) (b : Bool) → Alike
      (if b then answered later OldView else answered (record later { view = view; entries = λ key. seen_by node.identity view.number (node.entries key) }) (if has_failed fate then NotStored else Installed))
      (if b then answered other OldView else answered (record other { view = view; entries = λ key. seen_by node.identity view.number (node.entries key) }) (if has_failed fate then NotStored else Installed))
  install_by view fate true = quiet refl refl
  install_by view fate false = quiet refl refl

  gossip_by : (i : ℕ) (b : Bool) → Alike (if b then answered later NotAPeer else sent later Done (answer_to D i (status_of D later))) (if b then answered other NotAPeer else sent other Done (answer_to D i (status_of D other)))
  gossip_by i true = quiet refl refl
  gossip_by i false = quiet refl refl

  tick_by : (fate : Fate) (b : Bool) → Alike
      (if b then answered later (NotLeader (leader node.view)) else answered (record later { entries = entry_after_tick D later }) (if has_failed fate then TickedNotStored (outcomes_of D later) else Ticked (outcomes_of D later)))
      (if b then answered other (NotLeader (leader node.view)) else answered (record other { entries = entry_after_tick D other }) (if has_failed fate then TickedNotStored (outcomes_of D other) else Ticked (outcomes_of D other)))
  tick_by fate true = quiet refl refl
  tick_by fate false = quiet refl refl

  timeout_by : (op : ℕ) (b : Bool) → Alike
      (if b then answered (record later { open_operations = filter (λ (o : OpenOperation). not (o.op == op)) node.open_operations }) TimedOut else answered later NoSuchOp)
      (if b then answered (record other { open_operations = filter (λ (o : OpenOperation). not (o.op == op)) node.open_operations }) TimedOut else answered other NoSuchOp)
  timeout_by op true = quiet refl refl
  timeout_by op false = quiet refl refl

  -- the step of the member with other ends
  pub adds_alike : (i : Input Op) (fate : Fate) → AddsAlike node.finished ends (step D node i fate) (step D (with_ends ends node) i fate)
  adds_alike (Input.Update key op level) fate = update_by (key_state later key) op level fate
  adds_alike (Input.Get key level) fate = get_by (key_state later key) level
  adds_alike (Input.Take from message) fate = take_by from fate message (is_member node.view from)
  adds_alike (Input.Install view) fate = install_by view fate (nat_le view.number node.view.number)
  adds_alike Input.Flush fate = quiet refl refl
  adds_alike (Input.GossipTo j) fate = gossip_by j ((j == node.identity) || not (is_member node.view j))
  adds_alike Input.PruneTick fate = tick_by fate (not (leader node.view == node.identity))
  adds_alike (Input.Timeout op) fate = timeout_by op (list_any (λ (o : OpenOperation). o.op == op) node.open_operations)
