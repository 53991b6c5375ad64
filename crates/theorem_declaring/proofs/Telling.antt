-- What a member with a part of the keys tells of them, stores and ticks is what one with all does: the other keys have no records.
use Rattle.std.proofs.Common.{◌≡◌, ℕ, List, [], ◌∷◌, refl, sym, ap, ◌∙◌, Bool, false, not, ◌&&◌, ◌||◌, Option, Some, None, is_some, inl, inr, map, filter, flat_map, nat_lt, option_map}
use Rattle.std.specs.List.{list_any, list_all}
use Rattle.std.specs.Str.{bytes_eq}
use Rattle.std.proofs.lemmas.Bool.{and_left, and_right, and_parts, cases_Bool, or_from, false_from_ne_true}
use Rattle.std.proofs.Math.Path.{fun_ext}
use Rattle.model_history.specs.Texts.{Text, contains_text}
use Rattle.model_history.specs.History.{at}
use Rattle.model_members.specs.DataType.{Replication}
use Rattle.model_members.specs.Entry.{Entry, empty_entry, has_records, is_unchanged, group_after}
use Rattle.model_members.specs.Message.{Keyed}
use Rattle.model_members.specs.Message.Message.{Deltas, Status}
use Rattle.model_members.specs.Node.{KeyDecl, KeyState, Node, state_of, key_state, key_states, keyed_entry}
use Rattle.model_members.specs.Step.{changed_keys, to_store, named_entries, named_digest, is_digest, digest_of, news_for, wanted_from, answered_entry, is_behind, goes_as_group, deltas_for, status_of, tick_key, outcomes_of, entry_after_tick}
use Rattle.model_members.proofs.Cases.{entry_after_tick_of}
use Rattle.base_bytes.proofs.TextLaws.{eq_texts}
use Rattle.theorem_declaring.specs.Parts.{knows, with_keys, UsesOnly}
use Rattle.theorem_declaring.proofs.Lists.{filter_part, any_part, flat_part, find_none}
use Rattle.theorem_declaring.proofs.Keys.{both, is_known, found_state, state_known, state_unknown}
use Rattle.theorem_declaring.proofs.Taking.{AreKnown}
use Rattle.theorem_declaring.proofs.Untouched.{unchanged_same, no_records_in, nothing_ticked}

module _ {Kind Op Shown : Type 0} (part : List (KeyDecl Kind)) (node : Node Kind Op Shown) (uses : UsesOnly part node) where
  -- a test that passes over the other keys finds the same among both
  pub states_filtered : (test : KeyState Kind Op → Bool) → ((decl : KeyDecl Kind) → knows part decl.name ≡ false → test (state_of node decl) ≡ false) → filter test (key_states (with_keys part node)) ≡ filter test (key_states node)
  states_filtered test none = ap (λ (keys : List (KeyDecl Kind)). filter test (map (state_of node) keys)) uses.is_part ∙ filter_part (is_known part) (state_of node) test none node.keys

  pub states_any : (test : KeyState Kind Op → Bool) → ((decl : KeyDecl Kind) → knows part decl.name ≡ false → test (state_of node decl) ≡ false) → list_any test (key_states (with_keys part node)) ≡ list_any test (key_states node)
  states_any test none = ap (λ (keys : List (KeyDecl Kind)). list_any test (map (state_of node) keys)) uses.is_part ∙ any_part (is_known part) (state_of node) test none node.keys

  pub states_flat : {A : Type 0} (f : KeyState Kind Op → List A) → ((decl : KeyDecl Kind) → knows part decl.name ≡ false → f (state_of node decl) ≡ []) → flat_map f (key_states (with_keys part node)) ≡ flat_map f (key_states node)
  states_flat f none = ap (λ (keys : List (KeyDecl Kind)). flat_map f (map (state_of node) keys)) uses.is_part ∙ flat_part (is_known part) (state_of node) f none node.keys

  -- another key has no records
  bare : (decl : KeyDecl Kind) → knows part decl.name ≡ false → has_records (node.entries decl.name) ≡ false
  bare decl unknown = no_records_in (node.entries decl.name) (uses.no_others decl.name unknown).0

module _ {Kind Op Shown : Type 0} (part : List (KeyDecl Kind)) (old new : Node Kind Op Shown) (before : UsesOnly part old) (after : UsesOnly part new) where
  pub changed_alike : changed_keys (with_keys part old) (with_keys part new) ≡ changed_keys old new
  changed_alike =
      states_filtered part new after (λ (k : KeyState Kind Op). not (is_unchanged (old.entries k.name) k.entry))
      (λ decl unknown. ap not (unchanged_same (old.entries decl.name) (new.entries decl.name) (before.no_others decl.name unknown).0 (after.no_others decl.name unknown).0))

  pub stored_alike : to_store (with_keys part old) (with_keys part new) ≡ to_store old new
  stored_alike = ap (filter (λ (k : KeyState Kind Op). k.durable)) changed_alike

module _ {Kind Op Shown : Type 0} (D : Replication Kind Op Shown) (part : List (KeyDecl Kind)) (node : Node Kind Op Shown) (uses : UsesOnly part node) where
  -- ENTRIES AND DIGESTS

  pub named_alike : (names : List Text) → named_entries D (with_keys part node) names ≡ named_entries D node names
  named_alike names =
      ap (map keyed_entry) (states_filtered part node uses (λ (k : KeyState Kind Op). contains_text names k.name && has_records k.entry)
      (λ decl unknown. and_right (contains_text names decl.name) (has_records (node.entries decl.name)) (bare part node uses decl unknown)))

  pub news_alike : (digests : List (Keyed (List ℕ))) → news_for D (with_keys part node) digests ≡ news_for D node digests
  news_alike digests =
      ap (map keyed_entry) (states_filtered part node uses (λ (k : KeyState Kind Op). has_records k.entry && not (is_digest D (named_digest D digests k.name) (digest_of D k)))
      (λ decl unknown. and_left (has_records (node.entries decl.name)) (not (is_digest D (named_digest D digests decl.name) (digest_of D (state_of node decl)))) (bare part node uses decl unknown)))

  -- no digest is named of another key
  no_digest : (digests : List (Keyed (List ℕ))) → AreKnown part digests → (name : Text) → knows part name ≡ false → list_any (λ (d : Keyed (List ℕ)). bytes_eq d.key name) digests ≡ false
  no_digest [] known name unknown = refl
  no_digest (d ∷ digests) known name unknown =
      let all = and_parts (knows part d.key) (list_all (λ (item : Keyed (List ℕ)). knows part item.key) digests) known in
      or_from (bytes_eq d.key name) (list_any (λ (d : Keyed (List ℕ)). bytes_eq d.key name) digests)
      (false_from_ne_true (bytes_eq d.key name) (λ e. both all.0 (ap (knows part) (eq_texts d.key name e) ∙ unknown))) (no_digest digests all.1 name unknown)

  pub wanted_alike : (digests : List (Keyed (List ℕ))) → AreKnown part digests → wanted_from D (with_keys part node) digests ≡ wanted_from D node digests
  wanted_alike digests known =
      ap (map (λ (k : KeyState Kind Op). k.name)) (states_filtered part node uses (λ (k : KeyState Kind Op). is_some (named_digest D digests k.name) && (not (has_records k.entry) || not (is_digest D (named_digest D digests k.name) (digest_of D k))))
      (λ decl unknown.
      and_left (is_some (named_digest D digests decl.name)) (not (has_records (node.entries decl.name)) || not (is_digest D (named_digest D digests decl.name) (digest_of D (state_of node decl))))
      (ap (λ (o : Option (Keyed (List ℕ))). is_some (option_map (λ (d : Keyed (List ℕ)). d.item) o)) (find_none (λ (d : Keyed (List ℕ)). bytes_eq d.key decl.name) digests (no_digest digests known decl.name unknown)))))

  pub status_alike : status_of D (with_keys part node) ≡ status_of D node
  status_alike = ap (λ (ks : List (KeyState Kind Op)). Status (map (λ (k : KeyState Kind Op). record { key = k.name; item = digest_of D k }) ks)) (states_filtered part node uses (λ (k : KeyState Kind Op). has_records k.entry) (bare part node uses))

  -- what a read of another key is answered: nothing
  unread : (key : Text) → knows part key ≡ false → (o : Option (KeyState Kind Op)) → key_state node key ≡ o → answered_entry D o ≡ None
  unread key unknown None is = refl
  unread key unknown (Some k) is = let none : has_records k.entry ≡ false = no_records_in k.entry ((found_state node key k is).1 ∙ (uses.no_others key unknown).0) in rw none refl

  pub read_alike : (key : Text) → answered_entry D (key_state (with_keys part node) key) ≡ answered_entry D (key_state node key)
  read_alike key = elim (cases_Bool (knows part key)) [
    | inl known ↦ ap (answered_entry D) (state_known part node uses.is_part key known)
    | inr unknown ↦ ap (answered_entry D) (state_unknown part node key unknown) ∙ sym (unread key unknown (key_state node key) refl)
  ]

  -- FLUSHES

  -- another key is not behind
  even : (peer : ℕ) (decl : KeyDecl Kind) → knows part decl.name ≡ false → is_behind D node peer (state_of node decl) ≡ false
  even peer decl unknown =
      let nothing = uses.no_others decl.name unknown in
      ap (λ n. nat_lt n (at (node.entries decl.name).history node.identity)) (nothing.1 peer) ∙ ap (λ (x : Entry Op). nat_lt 0 (at x.history node.identity)) nothing.0

  pub behind_alike : (peer : ℕ) → list_any (is_behind D (with_keys part node) peer) (key_states (with_keys part node)) ≡ list_any (is_behind D node peer) (key_states node)
  behind_alike peer = states_any part node uses (is_behind D node peer) (even peer)

  pub deltas_alike : (peer : ℕ) → deltas_for D (with_keys part node) peer ≡ deltas_for D node peer
  deltas_alike peer =
      ap (λ (behind : List (KeyState Kind Op)). Deltas
      (map (λ (k : KeyState Kind Op). record { key = k.name; item = group_after k.entry node.identity (node.flushed k.name peer) }) (filter (goes_as_group D node peer) behind))
      (map keyed_entry (filter (λ (k : KeyState Kind Op). not (goes_as_group D node peer k)) behind)))
      (states_filtered part node uses (is_behind D node peer) (even peer))

  -- TICKS

  pub outcomes_alike : outcomes_of D (with_keys part node) ≡ outcomes_of D node
  outcomes_alike = states_flat part node uses (λ (k : KeyState Kind Op). (tick_key D node k).outcomes) (λ decl unknown. ap (λ t. t.outcomes) (nothing_ticked D node (state_of node decl) (uses.no_others decl.name unknown).0))

  -- a tick leaves another key as it is
  unticked : (key : Text) → knows part key ≡ false → (o : Option (KeyState Kind Op)) → key_state node key ≡ o → entry_after_tick_of D node o (node.entries key) ≡ node.entries key
  unticked key unknown None is = refl
  unticked key unknown (Some k) is =
      let same = (found_state node key k is).1 in
      ap (λ t. t.entry) (nothing_ticked D node k (same ∙ (uses.no_others key unknown).0)) ∙ same

  pub tick_empty : (key : Text) → knows part key ≡ false → entry_after_tick D node key ≡ empty_entry
  tick_empty key unknown = unticked key unknown (key_state node key) refl ∙ (uses.no_others key unknown).0

  ticked_alike : (key : Text) → entry_after_tick D (with_keys part node) key ≡ entry_after_tick D node key
  ticked_alike key = elim (cases_Bool (knows part key)) [
    | inl known ↦ ap (λ (o : Option (KeyState Kind Op)). entry_after_tick_of D node o (node.entries key)) (state_known part node uses.is_part key known)
    | inr unknown ↦ ap (λ (o : Option (KeyState Kind Op)). entry_after_tick_of D node o (node.entries key)) (state_unknown part node key unknown) ∙ sym (unticked key unknown (key_state node key) refl)
  ]

  pub ticks_alike : entry_after_tick D (with_keys part node) ≡ entry_after_tick D node
  ticks_alike = fun_ext ticked_alike
