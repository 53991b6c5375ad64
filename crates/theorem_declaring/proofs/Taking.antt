-- A member with a part of the keys takes entries and groups of these as one with all.
use Rattle.std.proofs.Common.{◌≡◌, List, [], ◌∷◌, refl, ap, ◌∙◌, Bool, true, false, Option, Some, None, fold, filter, if◌then◌else◌}
use Rattle.std.specs.List.{list_all}
use Rattle.std.proofs.lemmas.Bool.{and_parts}
use Rattle.model_history.specs.Texts.{Text}
use Rattle.model_members.specs.Entry.{Entry, Group, Judgement, judged, merged, seen_by, with_group}
use Rattle.model_members.specs.Entry.Judgement.{Wanted, Stale, Missing}
use Rattle.model_members.specs.Message.{Keyed}
use Rattle.model_members.specs.Node.{KeyDecl, KeyState, Node, key_state, with_entry}
use Rattle.model_members.specs.Step.{AfterGroups, take_entry, take_group, after_entries, is_entry_passed_over, is_group_passed_over}
use Rattle.model_members.proofs.Cases.{with_taken_entry, with_taken_group, with_judged}
use Rattle.model_members.proofs.FailedStores.{if_holds}
use Rattle.theorem_declaring.specs.Parts.{knows, with_keys, UsesOnly}
use Rattle.theorem_declaring.proofs.Keys.{found_state, state_known, uses_with_entry}
use Rattle.theorem_declaring.proofs.Lists.{all_filtered}

module _ {Kind : Type 0} (part : List (KeyDecl Kind)) where
  -- what is said is of known keys
  abbrev pub AreKnown : {X : Type 0} → List (Keyed X) → Type 0
  AreKnown {X} items = list_all (λ (item : Keyed X). knows part item.key) items ≡ true

  pub known_items : {X : Type 0} (items : List (Keyed X)) → items ≡ filter (λ (item : Keyed X). knows part item.key) items → AreKnown items
  known_items {X} items same = ap (list_all (λ (item : Keyed X). knows part item.key)) same ∙ all_filtered (λ (item : Keyed X). knows part item.key) items

module _ {Kind Op Shown : Type 0} (part : List (KeyDecl Kind)) where
  -- ENTRIES

  entry_alike : (node : Node Kind Op Shown) (e : Keyed (Entry Op)) → knows part e.key ≡ true → UsesOnly part node → take_entry (with_keys part node) e ≡ with_keys part (take_entry node e)
  entry_alike node e known uses = ap (λ (o : Option (KeyState Kind Op)). with_taken_entry (with_keys part node) o e.item) (state_known part node uses.is_part e.key known) ∙ by (key_state node e.key)
    where
      pick : (k : KeyState Kind Op) (entry : Entry Op) (b : Bool) → (if b then with_keys part node else with_entry (with_keys part node) k.name entry) ≡ with_keys part (if b then node else with_entry node k.name entry)
      pick k entry true = refl
      pick k entry false = refl

      by : (o : Option (KeyState Kind Op)) → with_taken_entry (with_keys part node) o e.item ≡ with_keys part (with_taken_entry node o e.item)
      by None = refl
      by (Some k) = pick k (seen_by node.identity node.view.number (merged k.entry e.item)) (is_entry_passed_over node.identity k.entry e.item)

  entry_uses : (node : Node Kind Op Shown) (key : Text) (theirs : Entry Op) (o : Option (KeyState Kind Op)) → key_state node key ≡ o → knows part key ≡ true → UsesOnly part node → UsesOnly part (with_taken_entry node o theirs)
  entry_uses node key theirs None is known uses = uses
  entry_uses node key theirs (Some k) is known uses =
      if_holds (λ (n : Node Kind Op Shown). UsesOnly part n) (is_entry_passed_over node.identity k.entry theirs) _ _ uses
      (uses_with_entry part node k.name (seen_by node.identity node.view.number (merged k.entry theirs)) (ap (knows part) (found_state node key k is).0 ∙ known) uses)

  pub entries_alike : (entries : List (Keyed (Entry Op))) (node : Node Kind Op Shown) → AreKnown part entries → UsesOnly part node
      → (after_entries (with_keys part node) entries ≡ with_keys part (after_entries node entries)) × UsesOnly part (after_entries node entries)
  entries_alike [] node known uses = (refl, uses)
  entries_alike (e ∷ entries) node known uses =
      let all = and_parts (knows part e.key) (list_all (λ (item : Keyed (Entry Op)). knows part item.key) entries) known in
      let rest = entries_alike entries (take_entry node e) all.1 (entry_uses node e.key e.item (key_state node e.key) refl all.0 uses) in
      (ap (λ (n : Node Kind Op Shown). after_entries n entries) (entry_alike node e all.0 uses) ∙ rest.0, rest.1)

  -- GROUPS

  -- the groups taken so far, by the member with a part of the keys
  abbrev pub groups_with : AfterGroups Kind Op Shown → AfterGroups Kind Op Shown
  groups_with so_far = record so_far { node = with_keys part so_far.node }

  group_alike : (so_far : AfterGroups Kind Op Shown) (g : Keyed (Group Op)) → knows part g.key ≡ true → UsesOnly part so_far.node → take_group (groups_with so_far) g ≡ groups_with (take_group so_far g)
  group_alike so_far g known uses = ap (λ (o : Option (KeyState Kind Op)). with_taken_group (groups_with so_far) o g.item) (state_known part so_far.node uses.is_part g.key known) ∙ by (key_state so_far.node g.key)
    where
      judge : (k : KeyState Kind Op) (j : Judgement) → with_judged (groups_with so_far) k g.item j ≡ groups_with (with_judged so_far k g.item j)
      judge k Wanted = refl
      judge k Stale = refl
      judge k (Missing i) = refl

      pick : (k : KeyState Kind Op) (b : Bool)
          → (if b then groups_with so_far else with_judged (groups_with so_far) k g.item (judged k.entry g.item)) ≡ groups_with (if b then so_far else with_judged so_far k g.item (judged k.entry g.item))
      pick k true = refl
      pick k false = judge k (judged k.entry g.item)

      by : (o : Option (KeyState Kind Op)) → with_taken_group (groups_with so_far) o g.item ≡ groups_with (with_taken_group so_far o g.item)
      by None = refl
      by (Some k) = pick k (is_group_passed_over so_far.node.identity k.entry g.item)

  judged_uses : (so_far : AfterGroups Kind Op Shown) (k : KeyState Kind Op) (group : Group Op) (j : Judgement) → knows part k.name ≡ true → UsesOnly part so_far.node → UsesOnly part (with_judged so_far k group j).node
  judged_uses so_far k group Wanted known uses = uses_with_entry part so_far.node k.name (with_group k.entry group) known uses
  judged_uses so_far k group Stale known uses = uses
  judged_uses so_far k group (Missing i) known uses = uses

  group_uses : (so_far : AfterGroups Kind Op Shown) (key : Text) (group : Group Op) (o : Option (KeyState Kind Op)) → key_state so_far.node key ≡ o → knows part key ≡ true → UsesOnly part so_far.node → UsesOnly part (with_taken_group so_far o group).node
  group_uses so_far key group None is known uses = uses
  group_uses so_far key group (Some k) is known uses =
      if_holds (λ (a : AfterGroups Kind Op Shown). UsesOnly part a.node) (is_group_passed_over so_far.node.identity k.entry group) _ _ uses
      (judged_uses so_far k group (judged k.entry group) (ap (knows part) (found_state so_far.node key k is).0 ∙ known) uses)

  pub groups_alike : (groups : List (Keyed (Group Op))) (so_far : AfterGroups Kind Op Shown) → AreKnown part groups → UsesOnly part so_far.node
      → (fold take_group (groups_with so_far) groups ≡ groups_with (fold take_group so_far groups)) × UsesOnly part (fold take_group so_far groups).node
  groups_alike [] so_far known uses = (refl, uses)
  groups_alike (g ∷ groups) so_far known uses =
      let all = and_parts (knows part g.key) (list_all (λ (item : Keyed (Group Op)). knows part item.key) groups) known in
      let rest = groups_alike groups (take_group so_far g) all.1 (group_uses so_far g.key g.item (key_state so_far.node g.key) refl all.0 uses) in
      (ap (λ (a : AfterGroups Kind Op Shown). fold take_group a groups) (group_alike so_far g all.0 uses) ∙ rest.0, rest.1)
