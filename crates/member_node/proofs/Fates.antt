-- What a step has in common whatever the store does.
--     entries_same        the entries after the step are the same
--     same_stored, same_failed        the step is, but for what a failed store makes of it: the reply, an operation that was to be opened, and the acknowledgement of a write
use Rattle.std.proofs.Common.{◌≡◌, ◌≢◌, ℕ, List, [], ◌∷◌, ◌++◌, refl, sym, ap, ◌∙◌, Bool, true, false, not, Option, Some, None, is_some, length, map, filter, find, if◌then◌else◌, nat_le, ◌==◌, ◌||◌, ◌&&◌, bytes_eq}
use Rattle.std.specs.List.{list_any}
use Rattle.member_node.proofs.Common.{Text, View, is_member, is_unchanged, seen_by, with_action, Replication, OpenOperation, Stepped, state_of, key_state, one_step_later, needed, NoStore, step, step_of_take, answered, opened, gossip_to, answer_to, after_groups, after_entries, named_entries, is_answered_by, result_of, is_unchanged-same}
use Rattle.model_history.specs.Vector.{members_of}
use Rattle.model_history.specs.History.{Action}
use Rattle.model_meanings.specs.Refusal.{Refusal}
use Rattle.model_members.specs.View.{leader}
use Rattle.model_members.specs.Entry.{Entry}
use Rattle.model_members.specs.Message.{Keyed, Message, Post}
use Rattle.model_members.specs.Message.Message.{Deltas, Nack, Status, Gossip, Write, WriteAck, WriteNack, Read, ReadAnswer}
use Rattle.model_members.specs.Node.{KeyDecl, KeyState, Node, Finished, Input, Fate, Level, Reply, with_entry}
use Rattle.model_members.specs.Node.Fate.{Stored, StoreFailed}
use Rattle.model_members.specs.Node.Reply.{Done, Pending, Deleted, WrongKind, NotStored, Taken, NotFromMember, OldView, Installed, NotAPeer, Ticked, TickedNotStored, NotLeader, TimedOut, NoSuchOp}
use Rattle.model_members.specs.Step.{KeyGap, take_reply, took, to_store, sent, nack_to, status_of, member_count, outcomes_of, entry_after_tick, keyed_option, write_answer, is_changed, with_answer, value_reply, meaning_of}
use Rattle.model_members.proofs.Cases.{updated, updated_undeleted, updated_needing, updated_unless, got, got_needing, counted_for}

-- WHAT A FAILED STORE MAKES OF A STEP

-- the reply
abbrev pub failed_reply : {Shown : Type 0} → Reply Shown → Reply Shown
failed_reply (Ticked outcomes) = TickedNotStored outcomes
failed_reply _ = NotStored

abbrev pub opens : {Shown : Type 0} → Reply Shown → Bool
opens (Pending op) = true
opens _ = false

-- a write is not acknowledged
abbrev pub refused : {Op : Type 0} → Message Op → Message Op
refused (WriteAck op) = WriteNack op
refused message = message

abbrev pub refused_post : {Op : Type 0} → Post Op → Post Op
refused_post post = record { to = post.to; message = refused post.message }

module _ {Kind Op Shown : Type 0} where
  -- no operation is opened, and nobody is asked
  abbrev pub unopened : Node Kind Op Shown → Stepped Kind Op Shown → Stepped Kind Op Shown
  unopened before stepped = record {
    node = record stepped.node { open_operations = before.open_operations; next_op = before.next_op };
    output = record { reply = NotStored; posts = []; ended = stepped.output.ended };
  }

  abbrev pub unstored : Stepped Kind Op Shown → Stepped Kind Op Shown
  unstored stepped = record stepped { output = record { reply = failed_reply stepped.output.reply; posts = map refused_post stepped.output.posts; ended = stepped.output.ended } }

  abbrev pub failed : Node Kind Op Shown → Stepped Kind Op Shown → Stepped Kind Op Shown
  failed before stepped = if opens stepped.output.reply then unopened before stepped else unstored stepped

refused_gossip : {Op : Type 0} {Kind Shown : Type 0} (D : Replication Kind Op Shown) (i : ℕ) (entries : List (Keyed (Entry Op))) (wants : List Text) → map refused_post (gossip_to D i entries wants) ≡ gossip_to D i entries wants
refused_gossip D i [] [] = refl
refused_gossip D i [] (w ∷ wants) = refl
refused_gossip D i (e ∷ entries) wants = refl

refused_nack : {Op : Type 0} {Kind Shown : Type 0} (D : Replication Kind Op Shown) (i : ℕ) (gaps : List KeyGap) → map refused_post (nack_to D i gaps) ≡ nack_to D i gaps
refused_nack D i [] = refl
refused_nack D i (gap ∷ gaps) = refl

-- a write that is answered, or not
refused_write : {Op : Type 0} {Kind Shown : Type 0} (D : Replication Kind Op Shown) (i op : ℕ) (b : Bool) → map refused_post (if b then answer_to D i (WriteAck op) else []) ≡ (if b then answer_to D i (WriteNack op) else [])
refused_write D i op true = refl
refused_write D i op false = refl

-- a take that stores something, where the store fails
failing_take : {Kind Op Shown : Type 0} (D : Replication Kind Op Shown) (before : Node Kind Op Shown) (gaps : List KeyGap) (unchanged : Bool) (next : Node Kind Op Shown) (posts : List (Post Op)) (ended : Option (Finished Shown))
    → failed before (record { node = next; output = record { reply = take_reply D NoStore gaps unchanged; posts = posts; ended = ended } })
    ≡ record { node = next; output = record { reply = NotStored; posts = map refused_post posts; ended = ended } }
failing_take D before [] true next posts ended = refl
failing_take D before [] false next posts ended = refl
failing_take D before (gap ∷ gaps) unchanged next posts ended = refl

module _ {Kind Op Shown : Type 0} (D : Replication Kind Op Shown) (node : Node Kind Op Shown) where
  abbrev later : Node Kind Op Shown
  later = one_step_later node

  -- nothing is stored where no entry changed
  pub none_stored : (next : Node Kind Op Shown) → ((key : Text) → next.entries key ≡ node.entries key) → to_store node next ≡ []
  none_stored next same = go next.keys
    where
      go : (ks : List (KeyDecl Kind)) → filter (λ (k : KeyState Kind Op). k.durable) (filter (λ (k : KeyState Kind Op). not (is_unchanged (node.entries k.name) k.entry)) (map (state_of next) ks)) ≡ []
      go [] = refl
      go (decl ∷ ks) =
          let rest = filter (λ (k : KeyState Kind Op). not (is_unchanged (node.entries k.name) k.entry)) (map (state_of next) ks) in
          ap (λ b. filter (λ (k : KeyState Kind Op). k.durable) (if b then state_of next decl ∷ filter (λ (k : KeyState Kind Op). not (is_unchanged (node.entries k.name) k.entry)) (map (state_of next) ks) else filter (λ (k : KeyState Kind Op). not (is_unchanged (node.entries k.name) k.entry)) (map (state_of next) ks)))
          (ap not (ap (is_unchanged (node.entries decl.name)) (same decl.name) ∙ is_unchanged-same (node.entries decl.name))) ∙ go ks

  taken_stored : (from : ℕ) (m : Message Op) → step_of_take D later from Stored m ≡ step_of_take D later from NoStore m
  taken_stored from (Deltas groups entries) = took_stored (after_entries (after_groups later groups).node entries) (after_groups later groups).gaps (nack_to D from (after_groups later groups).gaps)
    where
      took_stored : (after : Node Kind Op Shown) (gaps : List KeyGap) (posts : List (Post Op)) → took D later after Stored gaps posts ≡ took D later after NoStore gaps posts
      took_stored after [] posts = refl
      took_stored after (gap ∷ gaps) posts = refl
  taken_stored from _ = refl

  pub same_stored : (i : Input Op) → step D node i Stored ≡ step D node i NoStore
  same_stored (Input.Take from message) = ap (λ s. if is_member node.view from then s else answered later NotFromMember) (taken_stored from message)
  same_stored _ = refl

  -- what a failed store makes of a step: the same entries, and what it says where something had to be stored
  record Fails (one other : Stepped Kind Op Shown) : Type 0 where
    entries_are : other.node.entries ≡ one.node.entries
    failed_is : to_store node one.node ≢ [] → other ≡ failed node one

  quiet : (one : Stepped Kind Op Shown) → ((key : Text) → one.node.entries key ≡ node.entries key) → Fails one one
  quiet one same = record { entries_are = refl; failed_is = λ some. absurd (some (none_stored one.node same)) }

  -- UPDATES

  update_accepted : (key : Text) (n : ℕ) (entry : Entry Op) (b : Bool)
      → Fails (if b then answered (with_entry later key entry) Done else opened (with_entry later key entry) key false n (Write node.next_op key entry)) (answered (with_entry later key entry) NotStored)
  update_accepted key n entry true = record { entries_are = refl; failed_is = λ some. refl }
  update_accepted key n entry false = record { entries_are = refl; failed_is = λ some. refl }

  update_unless : (k : KeyState Kind Op) (op : Op) (n : ℕ) (o : Option Refusal) → Fails (updated_unless D later k op n NoStore o) (updated_unless D later k op n StoreFailed o)
  update_unless k op n None = update_accepted k.name n (with_action k.entry node.identity (Action.Operation op)) (nat_le n 1)
  update_unless k op n (Some refusal) = quiet (updated_unless D later k op n NoStore (Some refusal)) (λ key. refl)

  update_needing : (k : KeyState Kind Op) (op : Op) (o : Option ℕ) → Fails (updated_needing D later k op o NoStore) (updated_needing D later k op o StoreFailed)
  update_needing k op (Some n) = update_unless k op n (D.data_type.refusal k.kind node.identity op k.entry.history)
  update_needing k op None = quiet (updated_needing D later k op None NoStore) (λ key. refl)

  update_at : (k : KeyState Kind Op) (op : Op) (level : Level) (b : Bool)
      → Fails (if b then updated_needing D later k op (needed level (member_count later)) NoStore else answered later WrongKind) (if b then updated_needing D later k op (needed level (member_count later)) StoreFailed else answered later WrongKind)
  update_at k op level true = update_needing k op (needed level (member_count later))
  update_at k op level false = quiet (answered later WrongKind) (λ key. refl)

  update_kept : (k : KeyState Kind Op) (op : Op) (level : Level) (b : Bool)
      → Fails (if b then answered later Deleted else updated_undeleted D later k op level NoStore) (if b then answered later Deleted else updated_undeleted D later k op level StoreFailed)
  update_kept k op level true = quiet (answered later Deleted) (λ key. refl)
  update_kept k op level false = update_at k op level (D.data_type.fits k.kind op)

  update_by : (o : Option (KeyState Kind Op)) (op : Op) (level : Level) → Fails (updated D later o op level NoStore) (updated D later o op level StoreFailed)
  update_by None op level = quiet (updated D later None op level NoStore) (λ key. refl)
  update_by (Some k) op level = update_kept k op level (D.data_type.deleted k.entry.history)

  get_needing : (k : KeyState Kind Op) (o : Option ℕ) → (got_needing D later k o).node.entries ≡ node.entries
  get_needing k None = refl
  get_needing k (Some n) = go (nat_le n 1)
    where
      go : (b : Bool) → (if b then answered later (value_reply D (meaning_of D k)) else opened later k.name true n (Read node.next_op k.name)).node.entries ≡ node.entries
      go true = refl
      go false = refl

  get_by : (o : Option (KeyState Kind Op)) (level : Level) → (got D later o level).node.entries ≡ node.entries
  get_by None level = refl
  get_by (Some k) level = get_needing k (needed level (member_count later))

  -- MESSAGES

  module _ (from : ℕ) (after : Node Kind Op Shown) (o : OpenOperation) where
    -- the operation ends, or goes on
    abbrev ends : Reply Shown → Stepped Kind Op Shown
    ends reply =
        record {
          node = record after { open_operations = filter (λ (p : OpenOperation). not (p.op == o.op)) after.open_operations; finished = after.finished ++ record { op = o.op; result = result_of D after o } ∷ [] };
          output = record { reply = reply; posts = []; ended = Some (record { op = o.op; result = result_of D after o }) };
        }

    abbrev goes_on : Reply Shown → Stepped Kind Op Shown
    goes_on reply = record {
      node = record after { open_operations = map (λ (p : OpenOperation). if p.op == o.op then with_answer from o else p) after.open_operations };
      output = record { reply = reply; posts = []; ended = None };
    }

    counted_entries : (reply : Reply Shown) (b : Bool) → (if b then ends reply else goes_on reply).node.entries ≡ after.entries
    counted_entries reply true = refl
    counted_entries reply false = refl

    counted_fails : (u : Bool) (b : Bool) → Fails (if b then ends (take_reply D NoStore [] u) else goes_on (take_reply D NoStore [] u)) (if b then ends NotStored else goes_on NotStored)
    counted_fails u true = record { entries_are = refl; failed_is = λ some. sym (failing_take D node [] u (ends NotStored).node [] (ends NotStored).output.ended) }
    counted_fails u false = record { entries_are = refl; failed_is = λ some. sym (failing_take D node [] u (goes_on NotStored).node [] None) }

  -- an acknowledgement changes no entry
  acknowledged : (from : ℕ) (o : Option OpenOperation) → (counted_for D (answered later Taken) from o).node.entries ≡ node.entries
  acknowledged from None = refl
  acknowledged from (Some o) = counted_entries from later o Taken (nat_le o.needed (length (members_of (with_answer from o).counted)))

  answer_fails : (from : ℕ) (after : Node Kind Op Shown) (u : Bool) (o : Option OpenOperation)
      → Fails (counted_for D (answered after (take_reply D NoStore [] u)) from o) (counted_for D (answered after NotStored) from o)
  answer_fails from after u None = record { entries_are = refl; failed_is = λ some. sym (failing_take D node [] u after [] None) }
  answer_fails from after u (Some o) = counted_fails from after o u (nat_le o.needed (length (members_of (with_answer from o).counted)))

  -- a take with these gaps and answers
  took_fails : (after : Node Kind Op Shown) (gaps : List KeyGap) (posts failing_posts : List (Post Op)) → map refused_post posts ≡ failing_posts → Fails (took D later after NoStore gaps posts) (took D later after StoreFailed gaps failing_posts)
  took_fails after gaps posts failing_posts same = record {
    entries_are = refl;
    failed_is = λ some. ap (λ ps. sent after NotStored ps) (sym same) ∙ sym (failing_take D node gaps (not (is_changed later after)) after posts None);
  }

  take_fails : (from : ℕ) (m : Message Op) → Fails (step_of_take D later from NoStore m) (step_of_take D later from StoreFailed m)
  take_fails from (Deltas groups entries) =
      let taken = after_groups later groups in
      took_fails (after_entries taken.node entries) taken.gaps (nack_to D from taken.gaps) (nack_to D from taken.gaps) (refused_nack D from taken.gaps)
  take_fails from (Nack keys) = quiet (step_of_take D later from NoStore (Nack keys)) (λ key. refl)
  take_fails from (Status digests) = quiet (step_of_take D later from NoStore (Status digests)) (λ key. refl)
  take_fails from (Gossip entries wants) =
      let after = after_entries later entries in
      took_fails after [] (gossip_to D from (named_entries D after wants) []) (gossip_to D from (named_entries D after wants) []) (refused_gossip D from (named_entries D after wants) [])
  take_fails from (Write op key entry) =
      took_fails (after_entries later (record { key = key; item = entry } ∷ [])) [] (write_answer D later from NoStore op key) (write_answer D later from StoreFailed op key) (refused_write D from op (is_some (key_state later key)))
  take_fails from (WriteAck op) =
      quiet (step_of_take D later from NoStore (WriteAck op)) (λ key. ap (λ (f : Text → Entry Op). f key) (acknowledged from (find (is_answered_by false op) node.open_operations)))
  take_fails from (WriteNack op) = quiet (step_of_take D later from NoStore (WriteNack op)) (λ key. refl)
  take_fails from (Read op key) = quiet (step_of_take D later from NoStore (Read op key)) (λ name. refl)
  take_fails from (ReadAnswer op key entry) =
      let after = after_entries later (keyed_option D key entry) in
      answer_fails from after (not (is_changed later after)) (find (λ (o : OpenOperation). is_answered_by true op o && bytes_eq o.key key) after.open_operations)

  take_by : (from : ℕ) (m : Message Op) (b : Bool)
      → Fails (if b then step_of_take D later from NoStore m else answered later NotFromMember) (if b then step_of_take D later from StoreFailed m else answered later NotFromMember)
  take_by from m true = take_fails from m
  take_by from m false = quiet (answered later NotFromMember) (λ key. refl)

  -- THE OTHERS

  install_by : (view : View) (b : Bool) → Fails
      (if b then answered later OldView else answered (record later { view = view; entries = λ key. seen_by node.identity view.number (node.entries key) }) Installed)
      (if b then answered later OldView else answered (record later { view = view; entries = λ key. seen_by node.identity view.number (node.entries key) }) NotStored)
  install_by view true = quiet (answered later OldView) (λ key. refl)
  install_by view false = record { entries_are = refl; failed_is = λ some. refl }

  gossip_by : (i : ℕ) (b : Bool) → Fails (if b then answered later NotAPeer else sent later Done (answer_to D i (status_of D later))) (if b then answered later NotAPeer else sent later Done (answer_to D i (status_of D later)))
  gossip_by i true = quiet (answered later NotAPeer) (λ key. refl)
  gossip_by i false = quiet (sent later Done (answer_to D i (status_of D later))) (λ key. refl)

  tick_by : (b : Bool) → Fails
      (if b then answered later (NotLeader (leader node.view)) else answered (record later { entries = entry_after_tick D later }) (Ticked (outcomes_of D later)))
      (if b then answered later (NotLeader (leader node.view)) else answered (record later { entries = entry_after_tick D later }) (TickedNotStored (outcomes_of D later)))
  tick_by true = quiet (answered later (NotLeader (leader node.view))) (λ key. refl)
  tick_by false = record { entries_are = refl; failed_is = λ some. refl }

  timeout_by : (op : ℕ) (b : Bool) → Fails
      (if b then answered (record later { open_operations = filter (λ (o : OpenOperation). not (o.op == op)) node.open_operations }) TimedOut else answered later NoSuchOp)
      (if b then answered (record later { open_operations = filter (λ (o : OpenOperation). not (o.op == op)) node.open_operations }) TimedOut else answered later NoSuchOp)
  timeout_by op true = quiet (answered (record later { open_operations = filter (λ (o : OpenOperation). not (o.op == op)) node.open_operations }) TimedOut) (λ key. refl)
  timeout_by op false = quiet (answered later NoSuchOp) (λ key. refl)

  fails : (i : Input Op) → Fails (step D node i NoStore) (step D node i StoreFailed)
  fails (Input.Update key op level) = update_by (key_state later key) op level
  fails (Input.Get key level) = quiet (step D node (Input.Get key level) NoStore) (λ name. ap (λ (f : Text → Entry Op). f name) (get_by (key_state later key) level))
  fails (Input.Take from message) = take_by from message (is_member node.view from)
  fails (Input.Install view) = install_by view (nat_le view.number node.view.number)
  fails Input.Flush = quiet (step D node Input.Flush NoStore) (λ key. refl)
  fails (Input.GossipTo j) = gossip_by j ((j == node.identity) || not (is_member node.view j))
  fails Input.PruneTick = tick_by (not (leader node.view == node.identity))
  fails (Input.Timeout op) = timeout_by op (list_any (λ (o : OpenOperation). o.op == op) node.open_operations)

  pub same_failed : (i : Input Op) → to_store node (step D node i NoStore).node ≢ [] → step D node i StoreFailed ≡ failed node (step D node i NoStore)
  same_failed i = (fails i).failed_is

  pub entries_same : (i : Input Op) (fate : Fate) → (step D node i fate).node.entries ≡ (step D node i NoStore).node.entries
  entries_same i NoStore = refl
  entries_same i Stored = ap (λ s. s.node.entries) (same_stored i)
  entries_same i StoreFailed = (fails i).entries_are
