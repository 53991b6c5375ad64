-- Inputs that make no record: whatever else they do, the member's own records stay.
use Rattle.std.proofs.Common.{◌≡◌, ℕ, zero, suc, ◌≤◌, List, [], ◌∷◌, ◌++◌, length, drop, refl, sym, ap, subst, ◌∙◌, arith, Bool, true, false, Option, Some, None, inl, inr}
use Rattle.std.specs.Prelude.{⊤, ◌||◌, ◌==◌, not, nat_le, nat_lt, option_map, find}
use Rattle.std.specs.List.{list_any}
use Rattle.std.specs.Str.{bytes_eq}
use Rattle.std.proofs.lemmas.Bool.Decides.{eqb_tells, nat_tests}
use Rattle.model_history.specs.Texts.{Text}
use Rattle.model_history.specs.History.{Record, at, is_pruned}
use Rattle.model_history.proofs.HistoryLaws.{append_nothing, with_at_other}
use Rattle.model_history.proofs.PruneLaws.{found}
use Rattle.model_members.specs.View.{is_member}
use Rattle.model_members.specs.Entry.{Entry, Group, Judgement, merged, seen_by, with_group, judged}
use Rattle.model_members.specs.Entry.Judgement.{Wanted, Stale, Missing}
use Rattle.model_members.specs.DataType.{Replication}
use Rattle.model_members.specs.Message.{Keyed, Message}
use Rattle.model_members.specs.Message.Message.{Deltas, Nack, Status, Gossip, Write, WriteAck, WriteNack, Read, ReadAnswer}
use Rattle.model_members.specs.Node.{KeyDecl, KeyState, OpenOperation, Node, Input, Fate, Stepped, state_of, key_state, with_entry, needed, one_step_later}
use Rattle.model_members.specs.Node.Input.{Update, Get, Take, Install, Flush, GossipTo, PruneTick, Timeout}
use Rattle.model_members.specs.Step.{AfterGroups, step, step_of_take, take_entry, take_group, after_entries, after_groups, is_entry_passed_over, is_group_passed_over, member_count, keyed_option}
use Rattle.model_members.proofs.Cases.{got, got_needing, with_taken_entry, with_judged, with_taken_group, counted_for}
use Rattle.theorem_runs.proofs.Keeping.{if_holds, if_tells, fold_all, found_entry, same_text}

-- neither an update nor a tick
abbrev pub IsQuietInput : {Op : Type 0} → Input Op → Type 0
IsQuietInput (Update key op level) = ⊥
IsQuietInput PruneTick = ⊥
IsQuietInput _ = ⊤

-- LISTS AND TESTS

drop_all : {X : Type 0} (n : ℕ) (xs : List X) → length xs ≤ n → drop n xs ≡ []
drop_all zero [] h = refl
drop_all (suc n) [] h = refl
drop_all zero (x ∷ xs) h = absurd (omega arith)
drop_all (suc n) (x ∷ xs) h = drop_all n xs (omega arith)

not_less : (a b : ℕ) → nat_lt a b ≡ false → b ≤ a
not_less a b e = grind (arith, nat_tests)

first_false : (a b : Bool) → (a || b) ≡ false → a ≡ false
first_false true b e = absurd (cc e)
first_false false b e = refl

module _ {Kind Op Shown : Type 0} (D : Replication Kind Op Shown) (i : ℕ) (base : Text → List (Record Op)) where
  -- the member of this identity has these own records
  pub record Stays (node : Node Kind Op Shown) : Type 0 where
    pub identity : node.identity ≡ i
    pub rows : (key : Text) → (node.entries key).history i ≡ base key

  found_name : (node : Node Kind Op Shown) (key : Text) (k : KeyState Kind Op) → key_state node key ≡ Some k → k.name ≡ key
  found_name node key k e = go (find (λ decl. bytes_eq decl.name key) node.keys) refl e
    where
      go : (o : Option (KeyDecl Kind)) → find (λ decl. bytes_eq decl.name key) node.keys ≡ o → option_map (state_of node) o ≡ Some k → k.name ≡ key
      go None is e' = absurd (cc e')
      go (Some decl) is e' =
          let same : state_of node decl ≡ k = cc e' in
          sym (ap (λ (x : KeyState Kind Op). x.name) same) ∙ same_text decl.name key (found _ node.keys decl is)

  found_row : (node : Node Kind Op Shown) (key : Text) (k : KeyState Kind Op) → Stays node → key_state node key ≡ Some k → k.entry.history i ≡ base k.name
  found_row node key k stays e = ap (λ (x : Entry Op). x.history i) (found_entry node key k e) ∙ stays.rows key ∙ ap base (sym (found_name node key k e))

  entry_stays : (node : Node Kind Op Shown) (name : Text) (entry : Entry Op) → Stays node → entry.history i ≡ base name → Stays (with_entry node name entry)
  entry_stays node name entry stays row =
      record {
        identity = stays.identity;
        rows = λ key. if_tells (λ (x : Entry Op). x.history i ≡ base key) (bytes_eq key name) entry (node.entries key) (λ e. row ∙ ap base (sym (same_text key name e))) (λ e. stays.rows key);
      }

  -- ENTRIES AND GROUPS

  merged_row : (mine theirs : Entry Op) → is_entry_passed_over i mine theirs ≡ false → (merged mine theirs).history i ≡ mine.history i
  merged_row mine theirs e =
      ap (λ (xs : List (Record Op)). mine.history i ++ xs) (drop_all (at mine.history i) (theirs.history i) (not_less (at mine.history i) (at theirs.history i) (first_false _ _ e))) ∙ append_nothing (mine.history i)

  taken_stays : (node : Node Kind Op Shown) (key : Text) (o : Option (KeyState Kind Op)) → key_state node key ≡ o → (theirs : Entry Op) → Stays node → Stays (with_taken_entry node o theirs)
  taken_stays node key None e theirs stays = stays
  taken_stays node key (Some k) e theirs stays =
      if_tells Stays (is_entry_passed_over node.identity k.entry theirs) node (with_entry node k.name (seen_by node.identity node.view.number (merged k.entry theirs))) (λ over. stays)
      (λ news. entry_stays node k.name (seen_by node.identity node.view.number (merged k.entry theirs)) stays
      (merged_row k.entry theirs (subst (λ j. is_entry_passed_over j k.entry theirs ≡ false) stays.identity news) ∙ found_row node key k stays e))

  entries_stay : (node : Node Kind Op Shown) (entries : List (Keyed (Entry Op))) → Stays node → Stays (after_entries node entries)
  entries_stay node entries stays = fold_all Stays take_entry (λ n e s. taken_stays n e.key (key_state n e.key) refl e.item s) entries node stays

  group_row : (entry : Entry Op) (group : Group Op) → is_group_passed_over i entry group ≡ false → (with_group entry group).history i ≡ entry.history i
  group_row entry group e = with_at_other entry.history group.origin _ i (λ same. absurd (let f = first_false (group.origin == i) (is_pruned entry.history group.origin) e in elim (eqb_tells group.origin i) [ inl is ↦ (let g = sym f ∙ is.0 in cc g) | inr isnt ↦ isnt.1 (sym same) ]))

  judged_stays : (so_far : AfterGroups Kind Op Shown) (k : KeyState Kind Op) (group : Group Op) (judgement : Judgement) → Stays so_far.node → k.entry.history i ≡ base k.name → is_group_passed_over i k.entry group ≡ false → Stays (with_judged so_far k group judgement).node
  judged_stays so_far k group Wanted stays row e = entry_stays so_far.node k.name (with_group k.entry group) stays (group_row k.entry group e ∙ row)
  judged_stays so_far k group Stale stays row e = stays
  judged_stays so_far k group (Missing j) stays row e = stays

  grouped_stays : (so_far : AfterGroups Kind Op Shown) (key : Text) (o : Option (KeyState Kind Op)) → key_state so_far.node key ≡ o → (group : Group Op) → Stays so_far.node → Stays (with_taken_group so_far o group).node
  grouped_stays so_far key None e group stays = stays
  grouped_stays so_far key (Some k) e group stays =
      if_tells (λ (a : AfterGroups Kind Op Shown). Stays a.node) (is_group_passed_over so_far.node.identity k.entry group) so_far (with_judged so_far k group (judged k.entry group)) (λ over. stays)
      (λ news. judged_stays so_far k group (judged k.entry group) stays (found_row so_far.node key k stays e) (subst (λ j. is_group_passed_over j k.entry group ≡ false) stays.identity news))

  groups_stay : (node : Node Kind Op Shown) (groups : List (Keyed (Group Op))) → Stays node → Stays (after_groups node groups).node
  groups_stay node groups stays =
      fold_all (λ (a : AfterGroups Kind Op Shown). Stays a.node) take_group (λ a g s. grouped_stays a g.key (key_state a.node g.key) refl g.item s) groups (record { node = node; gaps = [] }) stays

  -- A STEP

  counted_stays : (s : Stepped Kind Op Shown) (from : ℕ) (o : Option OpenOperation) → Stays s.node → Stays (counted_for D s from o).node
  counted_stays s from None stays = stays
  counted_stays s from (Some operation) stays = if_holds (λ (s : Stepped Kind Op Shown). Stays s.node) _ _ _ (record { identity = stays.identity; rows = stays.rows }) (record { identity = stays.identity; rows = stays.rows })

  answer_stays : (node : Node Kind Op Shown) (key : Text) (o : Option (Entry Op)) → Stays node → Stays (after_entries node (keyed_option D key o))
  answer_stays node key None stays = stays
  answer_stays node key (Some entry) stays = entries_stay node (record { key = key; item = entry } ∷ []) stays

  take_stays : (node : Node Kind Op Shown) (from : ℕ) (fate : Fate) (message : Message Op) → Stays node → Stays (step_of_take D node from fate message).node
  take_stays node from fate (Deltas groups entries) stays = entries_stay (after_groups node groups).node entries (groups_stay node groups stays)
  take_stays node from fate (Nack keys) stays = stays
  take_stays node from fate (Status digests) stays = stays
  take_stays node from fate (Gossip entries wants) stays = entries_stay node entries stays
  take_stays node from fate (Write op key entry) stays = entries_stay node (record { key = key; item = entry } ∷ []) stays
  take_stays node from fate (WriteAck op) stays = counted_stays _ from _ stays
  take_stays node from fate (WriteNack op) stays = stays
  take_stays node from fate (Read op key) stays = stays
  take_stays node from fate (ReadAnswer op key entry) stays = counted_stays _ from _ (answer_stays node key entry stays)

  got_needing_stays : (node : Node Kind Op Shown) (k : KeyState Kind Op) (n : Option ℕ) → Stays node → Stays (got_needing D node k n).node
  got_needing_stays node k None stays = stays
  got_needing_stays node k (Some n) stays = if_holds (λ (s : Stepped Kind Op Shown). Stays s.node) (nat_le n 1) _ _ stays (record { identity = stays.identity; rows = stays.rows })

  step_stays : (node : Node Kind Op Shown) (input : Input Op) (fate : Fate) → IsQuietInput input → Stays node → Stays (step D node input fate).node
  step_stays node (Update key op level) fate quiet stays = absurd quiet
  step_stays node (Get key level) fate quiet stays = go (key_state (one_step_later node) key)
    where
      later : Stays (one_step_later node)
      later = record { identity = stays.identity; rows = stays.rows }

      go : (o : Option (KeyState Kind Op)) → Stays (got D (one_step_later node) o level).node
      go None = later
      go (Some k) = got_needing_stays (one_step_later node) k (needed level (member_count (one_step_later node))) later
  step_stays node (Take from message) fate quiet stays =
      if_holds (λ (s : Stepped Kind Op Shown). Stays s.node) (is_member node.view from) _ _ (take_stays (one_step_later node) from fate message (record { identity = stays.identity; rows = stays.rows })) (record { identity = stays.identity; rows = stays.rows })
  step_stays node (Install view) fate quiet stays = if_holds (λ (s : Stepped Kind Op Shown). Stays s.node) (nat_le view.number node.view.number) _ _ (record { identity = stays.identity; rows = stays.rows }) (record { identity = stays.identity; rows = stays.rows })
  step_stays node Flush fate quiet stays = record { identity = stays.identity; rows = stays.rows }
  step_stays node (GossipTo j) fate quiet stays = if_holds (λ (s : Stepped Kind Op Shown). Stays s.node) ((j == node.identity) || not (is_member node.view j)) _ _ (record { identity = stays.identity; rows = stays.rows }) (record { identity = stays.identity; rows = stays.rows })
  step_stays node PruneTick fate quiet stays = absurd quiet
  step_stays node (Timeout op) fate quiet stays =
      if_holds (λ (s : Stepped Kind Op Shown). Stays s.node) (list_any (λ (o : OpenOperation). o.op == op) node.open_operations) _ _ (record { identity = stays.identity; rows = stays.rows }) (record { identity = stays.identity; rows = stays.rows })

-- the own records after an input that makes none
pub own_records_stay : {Kind Op Shown : Type 0} (D : Replication Kind Op Shown) (node : Node Kind Op Shown) (input : Input Op) (fate : Fate) → IsQuietInput input → (key : Text)
    → ((step D node input fate).node.entries key).history node.identity ≡ (node.entries key).history node.identity
own_records_stay D node input fate quiet key =
    (step_stays D node.identity (λ key. (node.entries key).history node.identity) node input fate quiet (record { identity = refl; rows = λ key. refl })).rows key
