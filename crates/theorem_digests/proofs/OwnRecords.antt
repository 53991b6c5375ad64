-- A member makes few records in a step: at most one for each identity that there may be.
use Rattle.std.proofs.Common.{◌≡◌, ◌≢◌, ℕ, ◌+◌, ◌≤◌, List, [], ◌∷◌, length, sym, ap, subst, ◌∙◌, arith, Bool, true, false, refl, Option, Some, None, inl, inr, length-append}
use Rattle.std.specs.Prelude.{if◌then◌else◌, option_map, find, filter, fold, ◌==◌, nat_le, nat_lt, not, ◌||◌}
use Rattle.std.specs.List.{list_any, range_with_len}
use Rattle.std.specs.Str.{bytes_eq}
use Rattle.std.proofs.lemmas.Bool.{ltb-false}
use Rattle.std.proofs.lemmas.Bool.Decides.{eqb_tells}
use Rattle.std.proofs.lemmas.List.FromFn.{length-range_with_len}
use Rattle.model_history.specs.Texts.{Text}
use Rattle.model_history.specs.Table.{identity_limit}
use Rattle.model_history.specs.History.{Action, Record, History, at, versions, is_pruned, with_record}
use Rattle.model_history.proofs.HistoryLaws.{with_at_same, with_at_other, at-union}
use Rattle.model_meanings.specs.Refusal.{Refusal, Shares}
use Rattle.model_members.specs.View.{View, removed_of, identities_of, is_member, leader}
use Rattle.model_members.specs.Entry.{Entry, Mark, Group, Judgement, Tick, with_action, with_group, unseen}
use Rattle.model_members.specs.Entry.Judgement.{Wanted, Stale, Missing}
use Rattle.model_members.specs.DataType.{Replication}
use Rattle.model_members.specs.Message.{Keyed, Message}
use Rattle.model_members.specs.Message.Message.{Deltas, Nack, Status, Gossip, Write, WriteAck, WriteNack, Read, ReadAnswer}
use Rattle.model_members.specs.Node.{KeyDecl, KeyState, Node, state_of, Level, Input, Fate, Stepped, OpenOperation, key_state, with_entry, needed}
use Rattle.model_members.specs.Node.Input.{Update, Get, Take, Install, Flush, GossipTo, PruneTick, Timeout}
use Rattle.model_members.specs.Step.{AfterGroups, Ticking, take_entry, take_group, after_groups, after_entries, is_entry_passed_over, is_group_passed_over, member_count, has_failed, keyed_option, step_of_take, step_of_tick, tick_identity, step_of, step}
use Rattle.model_members.proofs.Cases.{ticked_mark, ticked_seen, performed_unless, counted_for, got, got_needing, entry_after_tick_of, with_taken_entry, with_judged, with_taken_group, accepted, updated, updated_needing, updated_unless}
use Rattle.theorem_runs.proofs.Keeping.{if_holds, if_tells, fold_all, same_text, found_entry}

first_false : (a b : Bool) → (a || b) ≡ false → a ≡ false
first_false true b e = e
first_false false b e = refl

pub filter_le : {X : Type 0} (p : X → Bool) (xs : List X) → length (filter p xs) ≤ length xs
filter_le p [] = omega arith
filter_le p (x ∷ xs) = let later = filter_le p xs in if_holds (λ ys. length ys ≤ length (x ∷ xs)) (p x) (x ∷ filter p xs) (filter p xs) (omega arith) (omega arith)

-- as many identities are removed as were given, or fewer
removed_few : (view : View) → length (removed_of view) ≤ view.given
removed_few view = let a = filter_le (λ j. not (is_member view j)) (range_with_len 0 view.given) in let b = length-range_with_len 0 view.given in omega arith

-- TICKS

module _ {Op : Type 0} (j : ℕ) where
  -- one record more
  one_more : (H : History Op) (i : ℕ) (r : Record Op) → at (with_record H i r) j ≤ at H j + 1
  one_more H i r = elim (eqb_tells j i) [
    | inl is ↦ let a : at (with_record H i r) i ≡ length (H i) + 1 = ap length (with_at_same H i _) ∙ length-append (H i) (r ∷ []) in subst (λ k. at (with_record H i r) k ≤ at H k + 1) (sym is.1) (omega arith)
    | inr isnt ↦ let a : at (with_record H i r) j ≡ at H j = ap length (with_at_other H i _ j isnt.1) in omega arith
  ]

  module _ (shares : Option Shares) (i view : ℕ) (members : List ℕ) (entry : Entry Op) (r : ℕ) where
    abbrev IsOneMore : Tick Op → Type 0
    IsOneMore t = at t.entry.history j ≤ at entry.history j + 1

    unless_more : (o : Option Shares) → IsOneMore (performed_unless shares i view members entry r o)
    unless_more None = one_more entry.history i (record { action = Action.Prune r; past = versions entry.history })
    unless_more (Some blocked) = omega arith

    seen_more : (o : Option ℕ) → IsOneMore (ticked_seen shares i view members entry r o)
    seen_more None = unless_more shares
    seen_more (Some t) = omega arith

    mark_more : (o : Option Mark) → IsOneMore (ticked_mark shares i view members entry r o)
    mark_more None = omega arith
    mark_more (Some mark) = if_holds IsOneMore (nat_lt mark.view view) _ _ (omega arith) (if_holds IsOneMore (nat_lt view mark.view) _ _ (omega arith) (seen_more (unseen mark members)))

module _ {Kind Op Shown : Type 0} (D : Replication Kind Op Shown) (i : ℕ) where
  tick_more : (node : Node Kind Op Shown) (k : KeyState Kind Op) (so_far : Ticking Op) (r : ℕ) → at (tick_identity D node k so_far r).entry.history i ≤ at so_far.entry.history i + 1
  tick_more node k so_far r =
      let H = so_far.entry.history in
      let shares = D.data_type.blocked k.kind node.identity r H in
      if_holds (λ (t : Ticking Op). at t.entry.history i ≤ at so_far.entry.history i + 1) ((at H r == 0) || is_pruned H r) _ _ (omega arith)
      (mark_more i shares node.identity node.view.number (identities_of node.view) so_far.entry r (so_far.entry.marks r))

  ticks_more : (node : Node Kind Op Shown) (k : KeyState Kind Op) (rs : List ℕ) (so_far : Ticking Op) → at (fold (tick_identity D node k) so_far rs).entry.history i ≤ at so_far.entry.history i + length rs
  ticks_more node k [] so_far = omega arith
  ticks_more node k (r ∷ rs) so_far =
      let first = tick_more node k so_far r in
      let later = ticks_more node k rs (tick_identity D node k so_far r) in
      omega arith

  -- ONE STEP

  -- a member of this identity, with at most so many own records of each key
  pub record HasAtMost (most : Text → ℕ) (node : Node Kind Op Shown) : Type 0 where
    pub identity : node.identity ≡ i
    pub own : (key : Text) → at (node.entries key).history i ≤ most key

  plus : (n : ℕ) (most : Text → ℕ) (node : Node Kind Op Shown) → HasAtMost most node → HasAtMost (λ key. most key + n) node
  plus n most node has = record { identity = has.identity; own = λ key. let a = has.own key in omega arith }

  module _ (most : Text → ℕ) where
    has_with_entry : (node : Node Kind Op Shown) (key : Text) (entry : Entry Op) → HasAtMost most node → at entry.history i ≤ most key → HasAtMost most (with_entry node key entry)
    has_with_entry node key entry has few = record { identity = has.identity; own = λ other. at_test other (bytes_eq other key) refl }
      where
        at_test : (other : Text) (b : Bool) → bytes_eq other key ≡ b → at (if b then entry else node.entries other).history i ≤ most other
        at_test other true e = subst (λ k. at entry.history i ≤ most k) (sym (same_text other key e)) few
        at_test other false e = has.own other

    -- what is found of a key
    has_found : (node : Node Kind Op Shown) (key : Text) (k : KeyState Kind Op) → HasAtMost most node → key_state node key ≡ Some k → at k.entry.history i ≤ most k.name
    has_found node key k has e = go (find (λ decl. bytes_eq decl.name key) node.keys) e
      where
        go : (o : Option (KeyDecl Kind)) → option_map (state_of node) o ≡ Some k → at k.entry.history i ≤ most k.name
        go None e' = absurd (cc e')
        go (Some decl) e' = let same : state_of node decl ≡ k = cc e' in subst (λ (x : KeyState Kind Op). at x.entry.history i ≤ most x.name) same (has.own decl.name)

    -- ENTRIES AND GROUPS OF A MESSAGE

    has_taken_entry : (node : Node Kind Op Shown) (key : Text) (o : Option (KeyState Kind Op)) → key_state node key ≡ o → (theirs : Entry Op) → HasAtMost most node → HasAtMost most (with_taken_entry node o theirs)
    has_taken_entry node key None e theirs has = has
    has_taken_entry node key (Some k) e theirs has =
        if_tells (λ (n : Node Kind Op Shown). HasAtMost most n) (is_entry_passed_over node.identity k.entry theirs) _ _ (λ passed. has)
        (λ taken.
        let no_more : at theirs.history node.identity ≤ at k.entry.history node.identity = ltb-false (at k.entry.history node.identity) (at theirs.history node.identity) (first_false (nat_lt (at k.entry.history node.identity) (at theirs.history node.identity)) (is_pruned theirs.history node.identity) taken) in
        let mine : at theirs.history i ≤ at k.entry.history i = subst (λ j. at theirs.history j ≤ at k.entry.history j) has.identity no_more in
        let here = has_found node key k has e in
        has_with_entry node k.name _ has (omega (arith, at-union k.entry.history theirs.history i)))

    has_entries : (node : Node Kind Op Shown) (entries : List (Keyed (Entry Op))) → HasAtMost most node → HasAtMost most (after_entries node entries)
    has_entries node entries has = fold_all (λ (n : Node Kind Op Shown). HasAtMost most n) take_entry (λ n e h. has_taken_entry n e.key (key_state n e.key) refl e.item h) entries node has

    has_judged : (so_far : AfterGroups Kind Op Shown) (k : KeyState Kind Op) (group : Group Op) (judgement : Judgement) → i ≢ group.origin → HasAtMost most so_far.node → at k.entry.history i ≤ most k.name → HasAtMost most (with_judged so_far k group judgement).node
    has_judged so_far k group Wanted other has few =
        has_with_entry so_far.node k.name _ has (let a : at (with_group k.entry group).history i ≡ at k.entry.history i = ap length (with_at_other k.entry.history group.origin _ i other) in omega arith)
    has_judged so_far k group Stale other has few = has
    has_judged so_far k group (Missing j) other has few = has

    has_taken_group : (so_far : AfterGroups Kind Op Shown) (key : Text) (o : Option (KeyState Kind Op)) → key_state so_far.node key ≡ o → (group : Group Op) → HasAtMost most so_far.node → HasAtMost most (with_taken_group so_far o group).node
    has_taken_group so_far key None e group has = has
    has_taken_group so_far key (Some k) e group has =
        if_tells (λ (a : AfterGroups Kind Op Shown). HasAtMost most a.node) (is_group_passed_over so_far.node.identity k.entry group) _ _ (λ passed. has)
        (λ taken. has_judged so_far k group _ (other (first_false (group.origin == so_far.node.identity) (is_pruned k.entry.history group.origin) taken)) has (has_found so_far.node key k has e))
      where
        other : (group.origin == so_far.node.identity) ≡ false → i ≢ group.origin
        other e' same = elim (eqb_tells group.origin so_far.node.identity) [
          | inl is ↦ let f = sym e' ∙ is.0 in cc f
          | inr isnt ↦ isnt.1 (sym same ∙ sym has.identity)
        ]

    has_groups : (node : Node Kind Op Shown) (groups : List (Keyed (Group Op))) → HasAtMost most node → HasAtMost most (after_groups node groups).node
    has_groups node groups has = fold_all (λ (a : AfterGroups Kind Op Shown). HasAtMost most a.node) take_group (λ a g h. has_taken_group a g.key (key_state a.node g.key) refl g.item h) groups (record { node = node; gaps = [] }) has

    has_counted_for : (s : Stepped Kind Op Shown) (from : ℕ) (o : Option OpenOperation) → HasAtMost most s.node → HasAtMost most (counted_for D s from o).node
    has_counted_for s from None has = has
    has_counted_for s from (Some operation) has = if_holds (λ (s : Stepped Kind Op Shown). HasAtMost most s.node) _ _ _ (record { identity = has.identity; own = has.own }) (record { identity = has.identity; own = has.own })

    has_answer : (node : Node Kind Op Shown) (key : Text) (o : Option (Entry Op)) → HasAtMost most node → HasAtMost most (after_entries node (keyed_option D key o))
    has_answer node key None has = has
    has_answer node key (Some entry) has = has_entries node (record { key = key; item = entry } ∷ []) has

    has_taken : (node : Node Kind Op Shown) (from : ℕ) (fate : Fate) (message : Message Op) → HasAtMost most node → HasAtMost most (step_of_take D node from fate message).node
    has_taken node from fate (Deltas groups entries) has = has_entries _ entries (has_groups node groups has)
    has_taken node from fate (Nack keys) has = has
    has_taken node from fate (Status digests) has = has
    has_taken node from fate (Gossip entries wants) has = has_entries node entries has
    has_taken node from fate (Write op key entry) has = has_entries node (record { key = key; item = entry } ∷ []) has
    has_taken node from fate (WriteAck op) has = has_counted_for _ from _ has
    has_taken node from fate (WriteNack op) has = has
    has_taken node from fate (Read op key) has = has
    has_taken node from fate (ReadAnswer op key entry) has = has_counted_for _ from _ (has_answer node key entry has)

    -- GETS

    has_got_needing : (node : Node Kind Op Shown) (k : KeyState Kind Op) (n : Option ℕ) → HasAtMost most node → HasAtMost most (got_needing D node k n).node
    has_got_needing node k None has = has
    has_got_needing node k (Some n) has = if_holds (λ (s : Stepped Kind Op Shown). HasAtMost most s.node) (nat_le n 1) _ _ has (record { identity = has.identity; own = has.own })

    has_got : (node : Node Kind Op Shown) (o : Option (KeyState Kind Op)) (level : Level) → HasAtMost most node → HasAtMost most (got D node o level).node
    has_got node None level has = has
    has_got node (Some k) level has = has_got_needing node k (needed level (member_count node)) has

  -- UPDATES AND TICKS

  module _ (most : Text → ℕ) where
    abbrev and_one : Text → ℕ
    and_one key = most key + 1

    has_accepted : (node : Node Kind Op Shown) (key : Text) (n : ℕ) (fate : Fate) (entry : Entry Op) → HasAtMost and_one (with_entry node key entry) → HasAtMost and_one (accepted D node key n fate entry).node
    has_accepted node key n fate entry has =
        if_holds (λ (s : Stepped Kind Op Shown). HasAtMost and_one s.node) (has_failed fate) _ _ has
        (if_holds (λ (s : Stepped Kind Op Shown). HasAtMost and_one s.node) (nat_le n 1) _ _ has (record { identity = has.identity; own = has.own }))

    has_unless : (node : Node Kind Op Shown) (k : KeyState Kind Op) (op : Op) (n : ℕ) (fate : Fate) (refusal : Option Refusal) → HasAtMost most node → at k.entry.history i ≤ most k.name → HasAtMost and_one (updated_unless D node k op n fate refusal).node
    has_unless node k op n fate None has few =
        has_accepted node k.name n fate _
        (has_with_entry and_one node k.name (with_action k.entry node.identity (Action.Operation op)) (plus 1 most node has)
        (let a = one_more i k.entry.history node.identity (record { action = Action.Operation op; past = versions k.entry.history }) in omega arith))
    has_unless node k op n fate (Some refusal) has few = plus 1 most node has

    has_needing : (node : Node Kind Op Shown) (k : KeyState Kind Op) (op : Op) (n : Option ℕ) (fate : Fate) → HasAtMost most node → at k.entry.history i ≤ most k.name → HasAtMost and_one (updated_needing D node k op n fate).node
    has_needing node k op None fate has few = plus 1 most node has
    has_needing node k op (Some n) fate has few = has_unless node k op n fate _ has few

    has_updated : (node : Node Kind Op Shown) (key : Text) (o : Option (KeyState Kind Op)) → key_state node key ≡ o → (op : Op) (level : Level) (fate : Fate) → HasAtMost most node → HasAtMost and_one (updated D node o op level fate).node
    has_updated node key None e op level fate has = plus 1 most node has
    has_updated node key (Some k) e op level fate has =
        if_holds (λ (s : Stepped Kind Op Shown). HasAtMost and_one s.node) (D.data_type.deleted k.entry.history) _ _ (plus 1 most node has)
        (if_holds (λ (s : Stepped Kind Op Shown). HasAtMost and_one s.node) (D.data_type.fits k.kind op) _ _ (has_needing node k op _ fate has (has_found most node key k has e)) (plus 1 most node has))

    has_key_ticked : (node : Node Kind Op Shown) (key : Text) (o : Option (KeyState Kind Op)) → key_state node key ≡ o → HasAtMost most node → at (entry_after_tick_of D node o (node.entries key)).history i ≤ most key + node.view.given
    has_key_ticked node key None e has = let a = has.own key in omega arith
    has_key_ticked node key (Some k) e has =
        let a = has.own key in
        let b : at k.entry.history i ≡ at (node.entries key).history i = ap (λ (x : Entry Op). at x.history i) (found_entry node key k e) in
        let c = ticks_more node k (removed_of node.view) (record { entry = k.entry; outcomes = [] }) in
        let d = removed_few node.view in
        omega arith

    has_ticked : (node : Node Kind Op Shown) (fate : Fate) → HasAtMost most node → HasAtMost (λ key. most key + node.view.given) (step_of_tick D node fate).node
    has_ticked node fate has =
        if_holds (λ (s : Stepped Kind Op Shown). HasAtMost (λ key. most key + node.view.given) s.node) (not (leader node.view == node.identity)) _ _ (plus node.view.given most node has)
        (record { identity = has.identity; own = λ key. has_key_ticked node key (key_state node key) refl has })

    -- EACH INPUT

    up_to : (n : ℕ) (node : Node Kind Op Shown) → n ≤ identity_limit → HasAtMost (λ key. most key + n) node → HasAtMost (λ key. most key + identity_limit) node
    up_to n node le has = record { identity = has.identity; own = λ key. let a = has.own key in omega arith }

    has_step_of : (node : Node Kind Op Shown) (input : Input Op) (fate : Fate) → node.view.given ≤ identity_limit → HasAtMost most node → HasAtMost (λ key. most key + identity_limit) (step_of D node input fate).node
    has_step_of node (Update key op level) fate given has = up_to 1 _ (omega arith) (has_updated node key (key_state node key) refl op level fate has)
    has_step_of node (Get key level) fate given has = plus identity_limit most _ (has_got most node (key_state node key) level has)
    has_step_of node (Take from message) fate given has = plus identity_limit most _ (if_holds (λ (s : Stepped Kind Op Shown). HasAtMost most s.node) (is_member node.view from) _ _ (has_taken most node from fate message has) has)
    has_step_of node (Install view) fate given has = plus identity_limit most _ (if_holds (λ (s : Stepped Kind Op Shown). HasAtMost most s.node) (nat_le view.number node.view.number) _ _ has (record { identity = has.identity; own = has.own }))
    has_step_of node Flush fate given has = record { identity = has.identity; own = λ key. let a = has.own key in omega arith }
    has_step_of node (GossipTo j) fate given has = plus identity_limit most _ (if_holds (λ (s : Stepped Kind Op Shown). HasAtMost most s.node) ((j == node.identity) || not (is_member node.view j)) _ _ has has)
    has_step_of node PruneTick fate given has = up_to node.view.given _ given (has_ticked node fate has)
    has_step_of node (Timeout op) fate given has =
        plus identity_limit most _ (if_holds (λ (s : Stepped Kind Op Shown). HasAtMost most s.node) (list_any (λ (o : OpenOperation). o.op == op) node.open_operations) _ _ (record { identity = has.identity; own = has.own }) has)

  -- a step makes at most as many own records of a key as there are identities
  pub own_after : (most : Text → ℕ) (node : Node Kind Op Shown) (input : Input Op) (fate : Fate) → node.view.given ≤ identity_limit → HasAtMost most node → HasAtMost (λ key. most key + identity_limit) (step D node input fate).node
  own_after most node input fate given has = has_step_of most _ input fate given (record { identity = has.identity; own = has.own })
