-- What a member with a part of the keys has to store is what one with all has, and what stands for a command that it refuses.
--     same_stores, same_fate        a step stores the same entries, so that the same is lawful of it
--     speaks_of_part        what a message says of known keys speaks of them only
--     others_stored        of other keys nothing is stored
--     unknown_command        a command for another key is refused
--     nothing_instead, nothing_stored        a gossip to the member itself changes nothing, and is lawful
use Rattle.std.proofs.Common.{◌≡◌, ℕ, List, [], ◌∷◌, refl, sym, ap, ◌∙◌, Bool, false, not, ◌↔◌, Option, All, inl, inr, map, filter, if◌then◌else◌, ◌==◌}
use Rattle.std.specs.List.{list_any}
use Rattle.std.specs.Str.{bytes_eq}
use Rattle.std.proofs.lemmas.Bool.{cases_Bool, or_left, or_parts, eq-eqb}
use Rattle.std.proofs.lemmas.List.Elements.{All-nil, All-cons, All-head, All-tail, All-filter}
use Rattle.model_history.specs.Texts.{Text}
use Rattle.model_members.specs.DataType.{Replication}
use Rattle.model_members.specs.Entry.{Entry, Group, is_unchanged}
use Rattle.model_members.specs.Message.{Keyed, Message, part_of}
use Rattle.model_members.specs.Message.Message.{Deltas, Nack, Status, Gossip, Write, WriteAck, WriteNack, Read, ReadAnswer}
use Rattle.model_members.specs.Node.{KeyDecl, KeyState, Node, Input, Fate, Stepped, state_of, key_states, keyed_entry, one_step_later}
use Rattle.model_members.specs.Node.Fate.{NoStore, Stored, StoreFailed}
use Rattle.model_members.specs.Node.Reply.{UnknownKey, NotAPeer, Done}
use Rattle.model_members.specs.Step.{step, answered, sent, answer_to, status_of, to_store, changed_keys}
use Rattle.model_members.specs.View.{is_member}
use Rattle.model_members.specs.World.{Store, FitsFate, stores, with_stored, after_store}
use Rattle.model_members.proofs.Cases.{updated, got}
use Rattle.theorem_declaring.specs.Parts.{knows, with_keys, UsesOnly, SpeaksOf, IsForAnother, MakesSameStep, StaysPart}
use Rattle.theorem_declaring.proofs.Lists.{filter_none, filter_twice}
use Rattle.theorem_declaring.proofs.Keys.{state_unknown}
use Rattle.theorem_declaring.proofs.Untouched.{unchanged_itself}
use Rattle.theorem_declaring.proofs.Telling.{stored_alike}
use Rattle.theorem_declaring.proofs.Steps.{steps_alike}

module _ {Kind Op Shown : Type 0} (D : Replication Kind Op Shown) (part : List (KeyDecl Kind)) (node : Node Kind Op Shown) (i : Input Op) where
  pub same_stores : (fate : Fate) → UsesOnly part node → SpeaksOf part i → to_store (with_keys part node) (step D (with_keys part node) i fate).node ≡ to_store node (step D node i fate).node
  same_stores fate uses speaks =
      let steps = steps_alike D part node i fate uses speaks in
      ap (λ (s : Stepped Kind Op Shown). to_store (with_keys part node) s.node) steps.alike ∙ stored_alike part node (step D node i fate).node uses steps.stays

  pub same_fate : (fate : Fate) → UsesOnly part node → SpeaksOf part i → FitsFate D (with_keys part node) i fate ↔ FitsFate D node i fate
  same_fate fate uses speaks = by fate
    where
      same : stores D (with_keys part node) i ≡ stores D node i
      same = same_stores Stored uses speaks

      by : (f : Fate) → FitsFate D (with_keys part node) i f ↔ FitsFate D node i f
      by NoStore = ((λ e. sym same ∙ e), (λ e. same ∙ e))
      by Stored = ((λ some e. some (same ∙ e)), (λ some e. some (sym same ∙ e)))
      by StoreFailed = ((λ some e. some (same ∙ e)), (λ some e. some (sym same ∙ e)))

-- OTHER KEYS

module _ {Kind Op : Type 0} (key : Text) (store : Store Op) where
  -- none of the entries is of the key
  abbrev AreOfOthers : List (KeyState Kind Op) → Type 0
  AreOfOthers ks = All (λ (k : KeyState Kind Op). bytes_eq k.name key ≡ false) ks

  stored_others : (ks : List (KeyState Kind Op)) → AreOfOthers ks → with_stored (map keyed_entry ks) store key ≡ store key
  stored_others [] others = refl
  stored_others (k ∷ ks) others = rw (All-head (λ (k : KeyState Kind Op). bytes_eq k.name key ≡ false) k ks others) (stored_others ks (All-tail (λ (k : KeyState Kind Op). bytes_eq k.name key ≡ false) k ks others))

  fate_others : (fate : Fate) (ks : List (KeyState Kind Op)) → AreOfOthers ks → after_store fate (map keyed_entry ks) store key ≡ store key
  fate_others NoStore ks others = refl
  fate_others Stored ks others = stored_others ks others
  fate_others StoreFailed ks others = refl

-- the keys of a part are others
states_others : {Kind Op Shown : Type 0} (key : Text) (node : Node Kind Op Shown) (keys : List (KeyDecl Kind)) → list_any (λ (decl : KeyDecl Kind). bytes_eq decl.name key) keys ≡ false
    → All (λ (k : KeyState Kind Op). bytes_eq k.name key ≡ false) (map (state_of node) keys)
states_others {Kind} {Op} key node [] none = All-nil (λ (k : KeyState Kind Op). bytes_eq k.name key ≡ false)
states_others {Kind} {Op} key node (decl ∷ decls) none =
    let parts = or_parts (bytes_eq decl.name key) (list_any (λ (decl : KeyDecl Kind). bytes_eq decl.name key) decls) none in
    All-cons (λ (k : KeyState Kind Op). bytes_eq k.name key ≡ false) (state_of node decl) (map (state_of node) decls) parts.0 (states_others key node decls parts.1)

module _ {Kind Op Shown : Type 0} (D : Replication Kind Op Shown) (part : List (KeyDecl Kind)) (node : Node Kind Op Shown) (i : Input Op) (fate : Fate) (uses : UsesOnly part node) (speaks : SpeaksOf part i) where
  pub others_stored : (store : Store Op) (key : Text) → knows part key ≡ false → after_store fate (map keyed_entry (to_store node (step D node i fate).node)) store key ≡ store key
  others_stored store key unknown =
      let steps = steps_alike D part node i fate uses speaks in
      let after = (step D node i fate).node in
      let is_changed = λ (k : KeyState Kind Op). not (is_unchanged (node.entries k.name) k.entry) in
      let is_other = λ (k : KeyState Kind Op). bytes_eq k.name key ≡ false in
      let states = key_states (with_keys part after) in
      ap (λ (ks : List (KeyState Kind Op)). after_store fate (map keyed_entry ks) store key) (sym (stored_alike part node after uses steps.stays))
      ∙ fate_others key store fate (to_store (with_keys part node) (with_keys part after))
      (All-filter (λ (k : KeyState Kind Op). k.durable) is_other (filter is_changed states) (All-filter is_changed is_other states (states_others key after part unknown)))

  pub makes_same : MakesSameStep D part node i fate
  makes_same = record { same_step = (steps_alike D part node i fate uses speaks).alike; same_stores = same_stores D part node i fate uses speaks; same_fate = same_fate D part node i fate uses speaks }

  pub stays_part : StaysPart D part node i fate
  stays_part = record { uses = (steps_alike D part node i fate uses speaks).stays; stored = others_stored }

-- WHAT A MESSAGE SAYS OF SOME KEYS

part_twice : {Op : Type 0} (test : Text → Bool) (m : Message Op) → part_of test m ≡ part_of test (part_of test m)
part_twice {Op} test (Deltas groups entries) = λ j. Deltas (filter_twice (λ (g : Keyed (Group Op)). test g.key) groups j) (filter_twice (λ (e : Keyed (Entry Op)). test e.key) entries j)
part_twice test (Nack keys) = refl
part_twice test (Status digests) = ap Status (filter_twice (λ (d : Keyed (List ℕ)). test d.key) digests)
part_twice {Op} test (Gossip entries wants) = ap (λ (es : List (Keyed (Entry Op))). Gossip es wants) (filter_twice (λ (e : Keyed (Entry Op)). test e.key) entries)
part_twice test (Write op key entry) = elim (cases_Bool (test key)) [ inl known ↦ rw known (rw known refl) | inr unknown ↦ rw unknown refl ]
part_twice test (WriteAck op) = refl
part_twice test (WriteNack op) = refl
part_twice test (Read op key) = refl
part_twice test (ReadAnswer op key entry) = elim (cases_Bool (test key)) [ inl known ↦ rw known (rw known refl) | inr unknown ↦ rw unknown refl ]

pub speaks_of_part : {Kind Op : Type 0} (part : List (KeyDecl Kind)) (from : ℕ) (m : Message Op) → SpeaksOf part (Input.Take from (part_of (knows part) m))
speaks_of_part part from m = part_twice (knows part) m

-- REFUSED COMMANDS

module _ {Kind Op Shown : Type 0} (D : Replication Kind Op Shown) (part : List (KeyDecl Kind)) (node : Node Kind Op Shown) where
  abbrev refused : Node Kind Op Shown
  refused = with_keys part (one_step_later node)

  pub unknown_command : (i : Input Op) (fate : Fate) → IsForAnother part i → step D (with_keys part node) i fate ≡ answered refused UnknownKey
  unknown_command (Input.Update key op level) fate unknown = ap (λ (o : Option (KeyState Kind Op)). updated D refused o op level fate) (state_unknown part (one_step_later node) key unknown)
  unknown_command (Input.Get key level) fate unknown = ap (λ (o : Option (KeyState Kind Op)). got D refused o level) (state_unknown part (one_step_later node) key unknown)
  unknown_command (Input.Take from message) fate another = absurd another
  unknown_command (Input.Install view) fate another = absurd another
  unknown_command Input.Flush fate another = absurd another
  unknown_command (Input.GossipTo j) fate another = absurd another
  unknown_command Input.PruneTick fate another = absurd another
  unknown_command (Input.Timeout op) fate another = absurd another

module _ {Kind Op Shown : Type 0} (D : Replication Kind Op Shown) (node : Node Kind Op Shown) where
  pub nothing_instead : (fate : Fate) → step D node (Input.GossipTo node.identity) fate ≡ answered (one_step_later node) NotAPeer
  nothing_instead fate =
      ap (λ b. if b then answered (one_step_later node) NotAPeer else sent (one_step_later node) Done (answer_to D node.identity (status_of D (one_step_later node))))
      (or_left (node.identity == node.identity) (not (is_member node.view node.identity)) (eq-eqb node.identity node.identity refl))

  pub nothing_stored : FitsFate D node (Input.GossipTo node.identity) NoStore
  nothing_stored =
      ap (λ (s : Stepped Kind Op Shown). to_store node s.node) (nothing_instead Stored) ∙ ap (filter (λ (k : KeyState Kind Op). k.durable)) none
    where
      none : changed_keys node (one_step_later node) ≡ []
      none = filter_none (λ (k : KeyState Kind Op). not (is_unchanged (node.entries k.name) k.entry)) (state_of node) (λ decl. ap not (unchanged_itself (node.entries decl.name))) node.keys
