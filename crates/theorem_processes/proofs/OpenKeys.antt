-- A member opens operations of its own keys only.
--     asks_only        so it is after each step
use Rattle.std.proofs.Common.{◌≡◌, ℕ, List, [], ◌∷◌, ◌++◌, map, refl, sym, ap, subst, ◌∙◌, Bool, true, false, not, Option, Some, None, filter, find, if◌then◌else◌, nat_le, length, bytes_eq, fold}
use Rattle.std.specs.Prelude.{option_map, ◌==◌, ◌||◌, ◌&&◌, IsTrue}
use Rattle.std.specs.List.{list_any, list_all}
use Rattle.model_history.specs.Texts.{Text}
use Rattle.model_history.specs.Vector.{members_of, alone}
use Rattle.model_history.specs.History.{Action}
use Rattle.model_history.proofs.PruneLaws.{found}
use Rattle.model_meanings.specs.Refusal.{Refusal}
use Rattle.model_members.specs.DataType.{Replication}
use Rattle.model_members.specs.View.{is_member, leader}
use Rattle.model_members.specs.Entry.{Entry, Group, Judgement, judged, with_action}
use Rattle.model_members.specs.Entry.Judgement.{Wanted, Stale, Missing}
use Rattle.model_members.specs.Message.{Keyed, Message}
use Rattle.model_members.specs.Message.Message.{Deltas, Nack, Status, Gossip, Write, WriteAck, WriteNack, Read, ReadAnswer}
use Rattle.model_members.specs.Node.{KeyDecl, KeyState, Node, OpenOperation, Level, Input, Fate, Stepped, needed, key_state, state_of, one_step_later, with_entry}
use Rattle.model_members.specs.Node.Input.{Update, Get, Take, Install, Flush, GossipTo, PruneTick, Timeout}
use Rattle.model_members.specs.Step.{AfterGroups, opened, step, step_of_take, take_group, after_groups, after_entries, answered, keyed_option, took, is_answered_by, with_answer, member_count, has_failed, is_group_passed_over}
use Rattle.model_members.specs.Node.Reply.{Taken}
use Rattle.model_members.proofs.Cases.{updated, updated_needing, updated_unless, got, got_needing, counted_for, with_judged, with_taken_group}
use Rattle.model_members.proofs.Steps.{bytes_eq-tells}
use Rattle.model_members.proofs.Taking.{after_entries-only}
use Rattle.theorem_declaring.specs.Parts.{knows}
use Rattle.theorem_processes.specs.Keys.{AsksOnly}
use Rattle.theorem_operations.proofs.Lists.{first_true, second_true, both_true}
use Rattle.theorem_runs.proofs.Keeping.{if_holds}

-- LISTS

module _ {X : Type 0} (p : X → Bool) where
  all_pushed : (xs : List X) (x : X) → list_all p xs ≡ true → p x ≡ true → list_all p (xs ++ x ∷ []) ≡ true
  all_pushed [] x all e = both_true (p x) true e refl
  all_pushed (y ∷ xs) x all e = both_true (p y) (list_all p (xs ++ x ∷ [])) (first_true (p y) (list_all p xs) all) (all_pushed xs x (second_true (p y) (list_all p xs) all) e)

  all_filtered : (q : X → Bool) (xs : List X) → list_all p xs ≡ true → list_all p (filter q xs) ≡ true
  all_filtered q [] all = refl
  all_filtered q (x ∷ xs) all =
      let rest = all_filtered q xs (second_true (p x) (list_all p xs) all) in
      if_holds (λ (ys : List X). list_all p ys ≡ true) (q x) (x ∷ filter q xs) (filter q xs) (both_true (p x) (list_all p (filter q xs)) (first_true (p x) (list_all p xs) all) rest) rest

  -- some are another, which passes too
  all_changed : (q : X → Bool) (y : X) → p y ≡ true → (xs : List X) → list_all p xs ≡ true → list_all p (map (λ x. if q x then y else x) xs) ≡ true
  all_changed q y e [] all = refl
  all_changed q y e (x ∷ xs) all =
      both_true (p (if q x then y else x)) (list_all p (map (λ z. if q z then y else z) xs)) (if_holds (λ z. p z ≡ true) (q x) y x e (first_true (p x) (list_all p xs) all))
      (all_changed q y e xs (second_true (p x) (list_all p xs) all))

  all_found : (q : X → Bool) (xs : List X) (x : X) → find q xs ≡ Some x → list_all p xs ≡ true → p x ≡ true
  all_found q [] x is all = absurd (cc is)
  all_found q (y ∷ xs) x is all =
      if_holds (λ (o : Option X). o ≡ Some x → p x ≡ true) (q y) (Some y) (find q xs)
      (λ same. let one : y ≡ x = cc same in subst (λ z. p z ≡ true) one (first_true (p y) (list_all p xs) all))
      (λ later. all_found q xs x later (second_true (p y) (list_all p xs) all)) is

  find_any : (xs : List X) (x : X) → find p xs ≡ Some x → list_any p xs ≡ true
  find_any [] x is = absurd (cc is)
  find_any (y ∷ xs) x is = by (p y) is (find_any xs x)
    where
      by : (b : Bool) → (if b then Some y else find p xs) ≡ Some x → (find p xs ≡ Some x → list_any p xs ≡ true) → (b || list_any p xs) ≡ true
      by true same rest = refl
      by false later rest = rest later

module _ {Kind Op Shown : Type 0} where
  -- what is found of a key is one of the member's
  known_state : (node : Node Kind Op Shown) (key : Text) (k : KeyState Kind Op) → key_state node key ≡ Some k → IsTrue (knows node.keys k.name)
  known_state node key k e = go (find (λ (decl : KeyDecl Kind). bytes_eq decl.name key) node.keys) refl e
    where
      go : (o : Option (KeyDecl Kind)) → find (λ (decl : KeyDecl Kind). bytes_eq decl.name key) node.keys ≡ o → option_map (state_of node) o ≡ Some k → IsTrue (knows node.keys k.name)
      go None is e' = absurd (cc e')
      go (Some decl) is e' =
          let same : state_of node decl ≡ k = cc e' in
          let named : key ≡ k.name = sym (bytes_eq-tells decl.name key (found (λ (d : KeyDecl Kind). bytes_eq d.name key) node.keys decl is)) ∙ ap (λ (x : KeyState Kind Op). x.name) same in
          subst (λ (name : Text). IsTrue (knows node.keys name)) named (find_any (λ (d : KeyDecl Kind). bytes_eq d.name key) node.keys decl is)

  groups_open : (groups : List (Keyed (Group Op))) (so_far : AfterGroups Kind Op Shown) → (fold take_group so_far groups).node.open_operations ≡ so_far.node.open_operations
  groups_open [] so_far = refl
  groups_open (g ∷ groups) so_far = groups_open groups (take_group so_far g) ∙ by (key_state so_far.node g.key)
    where
      judge : (k : KeyState Kind Op) (j : Judgement) → (with_judged so_far k g.item j).node.open_operations ≡ so_far.node.open_operations
      judge k Wanted = refl
      judge k Stale = refl
      judge k (Missing i) = refl

      pick : (k : KeyState Kind Op) (b : Bool) → (if b then so_far else with_judged so_far k g.item (judged k.entry g.item)).node.open_operations ≡ so_far.node.open_operations
      pick k true = refl
      pick k false = judge k (judged k.entry g.item)

      by : (o : Option (KeyState Kind Op)) → (with_taken_group so_far o g.item).node.open_operations ≡ so_far.node.open_operations
      by None = refl
      by (Some k) = pick k (is_group_passed_over so_far.node.identity k.entry g.item)

  entries_open : (entries : List (Keyed (Entry Op))) (node : Node Kind Op Shown) → (after_entries node entries).open_operations ≡ node.open_operations
  entries_open entries node = ap (λ (n : Node Kind Op Shown). n.open_operations) (after_entries-only entries node)

module _ {Kind Op Shown : Type 0} (D : Replication Kind Op Shown) (keys : List (KeyDecl Kind)) where
  abbrev Asks : List OpenOperation → Type 0
  Asks ops = IsTrue (list_all (λ (o : OpenOperation). knows keys o.key) ops)

  abbrev AsksAfter : Stepped Kind Op Shown → Type 0
  AsksAfter stepped = Asks stepped.node.open_operations

  -- COUNTING ANSWERS

  asks_counted : (stepped : Stepped Kind Op Shown) (from : ℕ) (test : OpenOperation → Bool) → AsksAfter stepped → AsksAfter (counted_for D stepped from (find test stepped.node.open_operations))
  asks_counted stepped from test asks = by (find test stepped.node.open_operations) refl
    where
      by : (o : Option OpenOperation) → find test stepped.node.open_operations ≡ o → AsksAfter (counted_for D stepped from o)
      by None e = asks
      by (Some o) e =
          if_holds AsksAfter (nat_le o.needed (length (members_of (with_answer from o).counted))) _ _
          (all_filtered (λ (p : OpenOperation). knows keys p.key) (λ (p : OpenOperation). not (p.op == o.op)) stepped.node.open_operations asks)
          (all_changed (λ (p : OpenOperation). knows keys p.key) (λ (p : OpenOperation). p.op == o.op) (with_answer from o) (all_found (λ (p : OpenOperation). knows keys p.key) test stepped.node.open_operations o e asks) stepped.node.open_operations asks)

  module _ (node : Node Kind Op Shown) (asks : Asks node.open_operations) where
    -- UPDATES AND GETS

    asks_opened : (key : Text) (reads : Bool) (n : ℕ) (message : Message Op) (held : Text → Entry Op) → IsTrue (knows keys key) → AsksAfter (opened (record node { entries = held }) key reads n message)
    asks_opened key reads n message held known = all_pushed (λ (p : OpenOperation). knows keys p.key) node.open_operations (record { op = node.next_op; key = key; reads = reads; needed = n; counted = alone node.identity }) asks known

    asks_unless : (k : KeyState Kind Op) (op : Op) (n : ℕ) (fate : Fate) (refusal : Option Refusal) → IsTrue (knows keys k.name) → AsksAfter (updated_unless D node k op n fate refusal)
    asks_unless k op n fate (Some refusal) known = asks
    asks_unless k op n fate None known =
        let entry = with_action k.entry node.identity (Action.Operation op) in
        if_holds AsksAfter (has_failed fate) _ _ asks (if_holds AsksAfter (nat_le n 1) _ _ asks (asks_opened k.name false n (Write node.next_op k.name entry) (with_entry node k.name entry).entries known))

    asks_needing : (k : KeyState Kind Op) (op : Op) (n : Option ℕ) (fate : Fate) → IsTrue (knows keys k.name) → AsksAfter (updated_needing D node k op n fate)
    asks_needing k op None fate known = asks
    asks_needing k op (Some n) fate known = asks_unless k op n fate (D.data_type.refusal k.kind node.identity op k.entry.history) known

    asks_updated : (o : Option (KeyState Kind Op)) (op : Op) (level : Level) (fate : Fate) → ((k : KeyState Kind Op) → o ≡ Some k → IsTrue (knows keys k.name)) → AsksAfter (updated D node o op level fate)
    asks_updated None op level fate known = asks
    asks_updated (Some k) op level fate known =
        if_holds AsksAfter (D.data_type.deleted k.entry.history) _ _ asks
        (if_holds AsksAfter (D.data_type.fits k.kind op) _ _ (asks_needing k op (needed level (member_count node)) fate (known k refl)) asks)

    asks_got_needing : (k : KeyState Kind Op) (n : Option ℕ) → IsTrue (knows keys k.name) → AsksAfter (got_needing D node k n)
    asks_got_needing k None known = asks
    asks_got_needing k (Some n) known = if_holds AsksAfter (nat_le n 1) _ _ asks (asks_opened k.name true n (Read node.next_op k.name) node.entries known)

    asks_got : (o : Option (KeyState Kind Op)) (level : Level) → ((k : KeyState Kind Op) → o ≡ Some k → IsTrue (knows keys k.name)) → AsksAfter (got D node o level)
    asks_got None level known = asks
    asks_got (Some k) level known = asks_got_needing k (needed level (member_count node)) (known k refl)

    -- MESSAGES

    asks_with_entries : (entries : List (Keyed (Entry Op))) → Asks (after_entries node entries).open_operations
    asks_with_entries entries = subst Asks (sym (entries_open entries node)) asks

    asks_taken : (from : ℕ) (fate : Fate) (message : Message Op) → AsksAfter (step_of_take D node from fate message)
    asks_taken from fate (Deltas groups entries) =
        subst Asks (sym (entries_open entries (after_groups node groups).node ∙ groups_open groups (record { node = node; gaps = [] }))) asks
    asks_taken from fate (Nack names) = asks
    asks_taken from fate (Status digests) = asks
    asks_taken from fate (Gossip entries wants) = asks_with_entries entries
    asks_taken from fate (Write op key entry) = asks_with_entries (record { key = key; item = entry } ∷ [])
    asks_taken from fate (WriteAck op) = asks_counted (answered node Taken) from (is_answered_by false op) asks
    asks_taken from fate (WriteNack op) = asks
    asks_taken from fate (Read op key) = asks
    asks_taken from fate (ReadAnswer op key entry) =
        let entries = keyed_option D key entry in
        asks_counted (took D node (after_entries node entries) fate [] []) from (λ o. is_answered_by true op o && bytes_eq o.key key) (asks_with_entries entries)

-- ALL STEPS

module _ {Kind Op Shown : Type 0} (D : Replication Kind Op Shown) (node : Node Kind Op Shown) (asks : AsksOnly node.keys node) where
  abbrev later : Node Kind Op Shown
  later = one_step_later node

  pub asks_only : (input : Input Op) (fate : Fate) → AsksOnly node.keys (step D node input fate).node
  asks_only (Update key op level) fate = asks_updated D node.keys later asks (key_state later key) op level fate (known_state later key)
  asks_only (Get key level) fate = asks_got D node.keys later asks (key_state later key) level (known_state later key)
  asks_only (Take from message) fate = if_holds (AsksAfter D node.keys) (is_member node.view from) _ _ (asks_taken D node.keys later asks from fate message) asks
  asks_only (Install view) fate = if_holds (AsksAfter D node.keys) (nat_le view.number node.view.number) _ _ asks asks
  asks_only Flush fate = asks
  asks_only (GossipTo i) fate = if_holds (AsksAfter D node.keys) ((i == node.identity) || not (is_member node.view i)) _ _ asks asks
  asks_only PruneTick fate = if_holds (AsksAfter D node.keys) (not (leader node.view == node.identity)) _ _ asks asks
  asks_only (Timeout op) fate =
      if_holds (AsksAfter D node.keys) (list_any (λ (o : OpenOperation). o.op == op) node.open_operations) _ _
      (all_filtered (λ (p : OpenOperation). knows node.keys p.key) (λ (o : OpenOperation). not (o.op == op)) node.open_operations asks) asks
