-- One step of a member: a function of its state, the input and what the store did.
use Rattle.std.specs.Prelude.{ℕ, ◌+◌, List, [], ◌∷◌, ◌++◌, length, drop, map, filter, fold, Bool, true, false, ◌&&◌, ◌||◌, not, nat_lt, nat_le, ◌==◌, if◌then◌else◌, Option, None, Some, is_some, find, option_map, option_and_then, flat_map}
use Rattle.std.specs.List.{list_any}
use Rattle.std.specs.Str.{bytes_eq}
use Rattle.model_history.specs.Texts.{Text, contains_text}
use Rattle.model_history.specs.Vector.{with_member, alone, members_of}
use Rattle.model_members.specs.View.{View, identities_of, is_member, leader, others, removed_of}
use Rattle.model_history.specs.History.{Action, Record, at, is_pruned}
use Rattle.model_members.specs.Entry.{Entry, Group, merged, seen_by, with_action, judged, with_group, group_after, is_prune, has_records, is_unchanged, ticked}
use Rattle.model_members.specs.Entry.Judgement.{Wanted, Stale, Missing}
use Rattle.model_members.specs.DataType.{Replication, Meaning, IsDeleted, Shows, meaning}
use Rattle.model_members.specs.Message.{Keyed, Message, Post}
use Rattle.model_members.specs.Message.Message.{Deltas, Nack, Status, Gossip, Write, WriteAck, WriteNack, Read, ReadAnswer}
use Rattle.model_members.specs.Node.{KeyState, OpenOperation, Result, Finished, Node, Level, needed, Input, Fate, KeyOutcome, Reply, Stepped, key_state, key_states, keyed_entry, with_entry, one_step_later}
use Rattle.model_members.specs.Node.Result.{Wrote, ReadValue, ReadDeleted, ReadNothing}
use Rattle.model_members.specs.Node.Input.{Update, Get, Take, Install, Flush, GossipTo, PruneTick, Timeout}
use Rattle.model_members.specs.Node.Fate.{StoreFailed}
use Rattle.model_members.specs.Node.Reply.{Done, Pending, Value, Deleted, NotFound, UnknownKey, WrongKind, TooFew, Refused, NotStored, Taken, Already, Gap, NotFromMember, Installed, OldView, NotAPeer, Ticked, TickedNotStored, NotLeader, TimedOut, NoSuchOp}

abbrev pub has_failed : Fate → Bool
has_failed StoreFailed = true
has_failed _ = false

-- an entry that counts more of the taker's records than it made, or has a prune of it. No message of a run brings one
abbrev pub is_entry_passed_over : {Op : Type 0} → ℕ → Entry Op → Entry Op → Bool
is_entry_passed_over i mine theirs = nat_lt (at mine.history i) (at theirs.history i) || is_pruned theirs.history i

-- a group of the taker's own records, or of an identity that it has a prune of. No message of a run brings one
abbrev pub is_group_passed_over : {Op : Type 0} → ℕ → Entry Op → Group Op → Bool
is_group_passed_over i mine group = (group.origin == i) || is_pruned mine.history group.origin

-- COUNTING ANSWERS

abbrev pub is_answered_by : Bool → ℕ → OpenOperation → Bool
is_answered_by reads op operation = (operation.op == op) && (if reads then operation.reads else not operation.reads)

abbrev pub with_answer : ℕ → OpenOperation → OpenOperation
with_answer from operation = record operation { counted = with_member operation.counted from }

module _ {Kind Op Shown : Type 0} where
  -- a reply and nothing else
  abbrev pub answered : Node Kind Op Shown → Reply Shown → Stepped Kind Op Shown
  answered node reply = record { node = node; output = record { reply = reply; posts = []; ended = None } }

  abbrev pub sent : Node Kind Op Shown → Reply Shown → List (Post Op) → Stepped Kind Op Shown
  sent node reply posts = record { node = node; output = record { reply = reply; posts = posts; ended = None } }

  -- the same message to each other member of the view
  abbrev pub to_others : Node Kind Op Shown → Message Op → List (Post Op)
  to_others node message = map (λ i. record { to = i; message = message }) (others node.view node.identity)

  -- a new operation, which has counted the member itself
  abbrev pub opened : Node Kind Op Shown → Text → Bool → ℕ → Message Op → Stepped Kind Op Shown
  opened node key reads n message =
      sent (record node {
        open_operations = node.open_operations ++ record { op = node.next_op; key = key; reads = reads; needed = n; counted = alone node.identity } ∷ [];
        next_op = node.next_op + 1;
      }) (Pending node.next_op) (to_others node message)

  abbrev pub member_count : Node Kind Op Shown → ℕ
  member_count node = length node.view.members

  -- the keys whose entry differs between two states of a member
  abbrev pub changed_keys : Node Kind Op Shown → Node Kind Op Shown → List (KeyState Kind Op)
  changed_keys old new =
      filter (λ k. not (is_unchanged (old.entries k.name) k.entry)) (key_states new)

  abbrev pub is_changed : Node Kind Op Shown → Node Kind Op Shown → Bool
  is_changed old new = nat_lt 0 (length (changed_keys old new))

  -- what a step has to store
  abbrev pub to_store : Node Kind Op Shown → Node Kind Op Shown → List (KeyState Kind Op)
  to_store old new = filter (λ k. k.durable) (changed_keys old new)

  -- an entry of a declared key is merged, and the member stands in its marks
  abbrev pub take_entry : Node Kind Op Shown → Keyed (Entry Op) → Node Kind Op Shown
  take_entry node e = elim (key_state node e.key) [
    | None ↦ node
    | Some k ↦ if is_entry_passed_over node.identity k.entry e.item then node
        else with_entry node k.name (seen_by node.identity node.view.number (merged k.entry e.item))
  ]

-- a key at whose group the member lacks a record of an identity
pub record KeyGap : Type 0 where
  pub key : Text
  pub lacking : ℕ

pub record AfterGroups (Kind Op Shown : Type 0) : Type 0 where
  pub node : Node Kind Op Shown
  pub gaps : List KeyGap

module _ {Kind Op Shown : Type 0} where
  -- a group of a declared key is taken, is stale, or lacks a record before it
  abbrev pub take_group : AfterGroups Kind Op Shown → Keyed (Group Op) → AfterGroups Kind Op Shown
  take_group so_far g = elim (key_state so_far.node g.key) [
    | None ↦ so_far
    | Some k ↦ if is_group_passed_over so_far.node.identity k.entry g.item then so_far
        else elim (judged k.entry g.item) [
          | Wanted ↦ record so_far { node = with_entry so_far.node k.name (with_group k.entry g.item) }
          | Stale ↦ so_far
          | Missing i ↦ record so_far { gaps = so_far.gaps ++ record { key = k.name; lacking = i } ∷ [] }
        ]
  ]

  abbrev pub after_groups : Node Kind Op Shown → List (Keyed (Group Op)) → AfterGroups Kind Op Shown
  after_groups node groups = fold take_group (record { node = node; gaps = [] }) groups

  abbrev pub after_entries : Node Kind Op Shown → List (Keyed (Entry Op)) → Node Kind Op Shown
  after_entries node entries = fold take_entry node entries

module _ {Kind Op Shown : Type 0} (D : Replication Kind Op Shown) where
  -- what a key shows, or nothing where it has no record
  abbrev pub shown_of : KeyState Kind Op → Option Shown
  shown_of k = if has_records k.entry then Some (D.data_type.shown k.kind k.entry.history) else None

  -- what a key means, or nothing where it has no record
  abbrev pub meaning_of : KeyState Kind Op → Option (Meaning Shown)
  meaning_of k = if has_records k.entry then Some (meaning D.data_type k.kind k.entry.history) else None

  abbrev pub read_result : Option (Meaning Shown) → Result Shown
  read_result None = ReadNothing
  read_result (Some IsDeleted) = ReadDeleted
  read_result (Some (Shows shown)) = ReadValue shown

  abbrev pub result_of : Node Kind Op Shown → OpenOperation → Result Shown
  result_of node operation = if operation.reads then read_result (option_and_then meaning_of (key_state node operation.key)) else Wrote

  -- the answer of a member counts for the open operation that passes the test, and may end it
  abbrev pub counted : Stepped Kind Op Shown → ℕ → (OpenOperation → Bool) → Stepped Kind Op Shown
  counted stepped from test = elim (find test stepped.node.open_operations) [
    | None ↦ stepped
    | Some operation ↦
        let node = stepped.node in
        let now = with_answer from operation in
        let rest = filter (λ (o : OpenOperation). not (o.op == operation.op)) node.open_operations in
        let end : Finished Shown = record { op = operation.op; result = result_of node operation } in
        if nat_le operation.needed (length (members_of now.counted))
        then record { node = record node { open_operations = rest; finished = node.finished ++ end ∷ [] }; output = record stepped.output { ended = Some end } }
        else record stepped { node = record node { open_operations = map (λ (o : OpenOperation). if o.op == operation.op then now else o) node.open_operations } }
  ]

  -- UPDATE AND GET

  -- in this order: an undeclared key, a deleted one, an operation of another kind, too few members, a refusal of the data type, a store that failed
  abbrev pub step_of_update : Node Kind Op Shown → Text → Op → Level → Fate → Stepped Kind Op Shown
  step_of_update node key op level fate = elim (key_state node key) [
    | None ↦ answered node UnknownKey
    | Some k ↦ if D.data_type.deleted k.entry.history then answered node Deleted
        else (if D.data_type.fits k.kind op
        then elim (needed level (member_count node)) [
          | None ↦ answered node TooFew
          | Some n ↦ elim (D.data_type.refusal k.kind node.identity op k.entry.history) [
            | Some refusal ↦ answered node (Refused refusal)
            | None ↦
                let entry = with_action k.entry node.identity (Action.Operation op) in
                let after = with_entry node k.name entry in
                if has_failed fate then answered after NotStored
                else (if nat_le n 1 then answered after Done else opened after k.name false n (Write node.next_op k.name entry))
          ]
        ]
        else answered node WrongKind)
  ]

  abbrev pub value_reply : Option (Meaning Shown) → Reply Shown
  value_reply None = NotFound
  value_reply (Some IsDeleted) = Deleted
  value_reply (Some (Shows shown)) = Value shown

  -- in this order: an undeclared key, too few members; then what the key means, or an operation that asks for it
  abbrev pub step_of_get : Node Kind Op Shown → Text → Level → Stepped Kind Op Shown
  step_of_get node key level = elim (key_state node key) [
    | None ↦ answered node UnknownKey
    | Some k ↦ elim (needed level (member_count node)) [
      | None ↦ answered node TooFew
      | Some n ↦ if nat_le n 1 then answered node (value_reply (meaning_of k)) else opened node k.name true n (Read node.next_op k.name)
    ]
  ]

  -- TAKING A MESSAGE

  -- the reply of a take: the first that applies
  abbrev pub take_reply : Fate → List KeyGap → Bool → Reply Shown
  take_reply StoreFailed gaps unchanged = NotStored
  take_reply _ (gap ∷ gaps) unchanged = Gap gap.lacking
  take_reply _ [] unchanged = if unchanged then Already else Taken

  abbrev pub answer_to : ℕ → Message Op → List (Post Op)
  answer_to i message = record { to = i; message = message } ∷ []

  -- a message with entries and wants, unless both are empty
  abbrev pub gossip_to : ℕ → List (Keyed (Entry Op)) → List Text → List (Post Op)
  gossip_to i [] [] = []
  gossip_to i entries wants = answer_to i (Gossip entries wants)

  abbrev pub nack_to : ℕ → List KeyGap → List (Post Op)
  nack_to i [] = []
  nack_to i (gap ∷ gaps) = answer_to i (Nack (map (λ (g : KeyGap). g.key) (gap ∷ gaps)))

  -- the named entries that have records
  abbrev pub named_entries : Node Kind Op Shown → List Text → List (Keyed (Entry Op))
  named_entries node names = map keyed_entry (filter (λ k. contains_text names k.name && has_records k.entry) (key_states node))

  abbrev pub digest_of : KeyState Kind Op → List ℕ
  digest_of k = D.digest k.kind k.entry

  abbrev pub named_digest : List (Keyed (List ℕ)) → Text → Option (List ℕ)
  named_digest digests key = option_map (λ (d : Keyed (List ℕ)). d.item) (find (λ (d : Keyed (List ℕ)). bytes_eq d.key key) digests)

  abbrev pub is_digest : Option (List ℕ) → List ℕ → Bool
  is_digest None own = false
  is_digest (Some theirs) own = bytes_eq theirs own

  -- entries with records that the other doesn't have alike
  abbrev pub news_for : Node Kind Op Shown → List (Keyed (List ℕ)) → List (Keyed (Entry Op))
  news_for node digests = map keyed_entry (filter (λ k. has_records k.entry && not (is_digest (named_digest digests k.name) (digest_of k))) (key_states node))

  -- named keys that the member doesn't have alike
  abbrev pub wanted_from : Node Kind Op Shown → List (Keyed (List ℕ)) → List Text
  wanted_from node digests =
      map (λ k. k.name) (filter (λ k. is_some (named_digest digests k.name) && (not (has_records k.entry) || not (is_digest (named_digest digests k.name) (digest_of k)))) (key_states node))

  -- a message with entries, in which nothing may be new
  abbrev pub took : Node Kind Op Shown → Node Kind Op Shown → Fate → List KeyGap → List (Post Op) → Stepped Kind Op Shown
  took before after fate gaps posts = sent after (take_reply fate gaps (not (is_changed before after))) posts

  abbrev pub answered_entry : Option (KeyState Kind Op) → Option (Entry Op)
  answered_entry None = None
  answered_entry (Some k) = if has_records k.entry then Some k.entry else None

  abbrev pub keyed_option : Text → Option (Entry Op) → List (Keyed (Entry Op))
  keyed_option key None = []
  keyed_option key (Some entry) = record { key = key; item = entry } ∷ []

  abbrev pub took_deltas : Node Kind Op Shown → ℕ → Fate → AfterGroups Kind Op Shown → List (Keyed (Entry Op)) → Stepped Kind Op Shown
  took_deltas node from fate groups_in entries = took node (after_entries groups_in.node entries) fate groups_in.gaps (nack_to from groups_in.gaps)

  -- a write is answered by whether it was stored; one of a key that isn't declared, of which nothing is kept, is not answered
  abbrev pub write_answer : Node Kind Op Shown → ℕ → Fate → ℕ → Text → List (Post Op)
  write_answer node from fate op key = if is_some (key_state node key) then answer_to from (if has_failed fate then WriteNack op else WriteAck op) else []

  -- a message from a member of the view
  abbrev pub step_of_take : Node Kind Op Shown → ℕ → Fate → Message Op → Stepped Kind Op Shown
  step_of_take node from fate (Deltas groups entries) = took_deltas node from fate (after_groups node groups) entries
  step_of_take node from fate (Nack keys) = sent node Taken (gossip_to from (named_entries node keys) [])
  step_of_take node from fate (Status digests) = sent node Taken (gossip_to from (news_for node digests) (wanted_from node digests))
  step_of_take node from fate (Gossip entries wants) =
      let after = after_entries node entries in
      took node after fate [] (gossip_to from (named_entries after wants) [])
  step_of_take node from fate (Write op key entry) =
      took node (after_entries node (record { key = key; item = entry } ∷ [])) fate [] (write_answer node from fate op key)
  step_of_take node from fate (WriteAck op) = counted (answered node Taken) from (is_answered_by false op)
  step_of_take node from fate (WriteNack op) = answered node Taken
  step_of_take node from fate (Read op key) = sent node Taken (answer_to from (ReadAnswer op key (answered_entry (key_state node key))))
  step_of_take node from fate (ReadAnswer op key entry) =
      counted (took node (after_entries node (keyed_option key entry)) fate [] []) from (λ o. is_answered_by true op o && bytes_eq o.key key)

  -- FLUSH, GOSSIP, INSTALL, TIMEOUT

  abbrev pub own_number : Node Kind Op Shown → KeyState Kind Op → ℕ
  own_number node k = at k.entry.history node.identity

  abbrev pub is_behind : Node Kind Op Shown → ℕ → KeyState Kind Op → Bool
  is_behind node peer k = nat_lt (node.flushed k.name peer) (own_number node k)

  -- whether the own records after the flushed number go as a group: no more than the log keeps, and no prune
  abbrev pub goes_as_group : Node Kind Op Shown → ℕ → KeyState Kind Op → Bool
  goes_as_group node peer k =
      let after = drop (node.flushed k.name peer) (k.entry.history node.identity) in
      nat_le (length after) D.log_length && not (list_any (λ (r : Record Op). is_prune r.action) after)

  abbrev pub deltas_for : Node Kind Op Shown → ℕ → Message Op
  deltas_for node peer =
      let behind = filter (is_behind node peer) (key_states node) in
      Deltas
      (map (λ k. record { key = k.name; item = group_after k.entry node.identity (node.flushed k.name peer) }) (filter (goes_as_group node peer) behind))
      (map keyed_entry (filter (λ k. not (goes_as_group node peer k)) behind))

  abbrev pub step_of_flush : Node Kind Op Shown → Stepped Kind Op Shown
  step_of_flush node =
      sent (record node { flushed = λ key peer. if list_any (λ i. i == peer) (others node.view node.identity) then at (node.entries key).history node.identity else node.flushed key peer }) Done
      (map (λ peer. record { to = peer; message = deltas_for node peer }) (filter (λ peer. list_any (is_behind node peer) (key_states node)) (others node.view node.identity)))

  abbrev pub status_of : Node Kind Op Shown → Message Op
  status_of node = Status (map (λ k. record { key = k.name; item = digest_of k }) (filter (λ k. has_records k.entry) (key_states node)))

  abbrev pub step_of_gossip : Node Kind Op Shown → ℕ → Stepped Kind Op Shown
  step_of_gossip node i =
      if (i == node.identity) || not (is_member node.view i) then answered node NotAPeer else sent node Done (answer_to i (status_of node))

  abbrev pub step_of_install : Node Kind Op Shown → View → Fate → Stepped Kind Op Shown
  step_of_install node view fate =
      if nat_le view.number node.view.number then answered node OldView
      else answered (record node { view = view; entries = λ key. seen_by node.identity view.number (node.entries key) }) (if has_failed fate then NotStored else Installed)

  abbrev pub step_of_timeout : Node Kind Op Shown → ℕ → Stepped Kind Op Shown
  step_of_timeout node op =
      if list_any (λ (o : OpenOperation). o.op == op) node.open_operations
      then answered (record node { open_operations = filter (λ o. not (o.op == op)) node.open_operations }) TimedOut
      else answered node NoSuchOp

-- a member that has made all its steps is full: it refuses every input
abbrev pub is_full : {Kind Op Shown : Type 0} → Replication Kind Op Shown → Node Kind Op Shown → Bool
is_full D node = node.steps == D.most_steps

-- an entry in the course of a tick, and the outcomes so far
pub record Ticking (Op : Type 0) : Type 0 where
  pub entry : Entry Op
  pub outcomes : List KeyOutcome

module _ {Kind Op Shown : Type 0} (D : Replication Kind Op Shown) where
  -- a removed identity with records and no prune gets an outcome
  abbrev pub tick_identity : Node Kind Op Shown → KeyState Kind Op → Ticking Op → ℕ → Ticking Op
  tick_identity node k so_far r =
      let H = so_far.entry.history in
      if (at H r == 0) || is_pruned H r then so_far
      else (let tick = ticked (D.data_type.blocked k.kind node.identity r H) node.identity node.view.number (identities_of node.view) so_far.entry r in
      record { entry = tick.entry; outcomes = so_far.outcomes ++ record { key = k.name; removed = r; outcome = tick.outcome } ∷ [] })

  abbrev pub tick_key : Node Kind Op Shown → KeyState Kind Op → Ticking Op
  tick_key node k = fold (tick_identity node k) (record { entry = k.entry; outcomes = [] }) (removed_of node.view)

  abbrev pub outcomes_of : Node Kind Op Shown → List KeyOutcome
  outcomes_of node = flat_map (λ k. (tick_key node k).outcomes) (key_states node)

  abbrev pub entry_after_tick : Node Kind Op Shown → Text → Entry Op
  entry_after_tick node key = elim (key_state node key) [ None ↦ node.entries key | Some k ↦ (tick_key node k).entry ]

  abbrev pub step_of_tick : Node Kind Op Shown → Fate → Stepped Kind Op Shown
  step_of_tick node fate =
      if not (leader node.view == node.identity) then answered node (NotLeader (leader node.view))
      else answered (record node { entries = entry_after_tick node })
      (if has_failed fate then TickedNotStored (outcomes_of node) else Ticked (outcomes_of node))

  abbrev pub step_of : Node Kind Op Shown → Input Op → Fate → Stepped Kind Op Shown
  step_of node (Update key op level) fate = step_of_update D node key op level fate
  step_of node (Get key level) fate = step_of_get D node key level
  step_of node (Take from message) fate = if is_member node.view from then step_of_take D node from fate message else answered node NotFromMember
  step_of node (Install view) fate = step_of_install D node view fate
  step_of node Flush fate = step_of_flush D node
  step_of node (GossipTo i) fate = step_of_gossip D node i
  step_of node PruneTick fate = step_of_tick node fate
  step_of node (Timeout op) fate = step_of_timeout D node op

  -- one step, counted
  abbrev pub step : Node Kind Op Shown → Input Op → Fate → Stepped Kind Op Shown
  step node input fate = step_of (one_step_later node) input fate
