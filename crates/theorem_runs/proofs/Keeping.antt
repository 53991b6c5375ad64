-- What a step does to entries: each change of an entry is one of a few, so what these keep is kept by each step.
use Rattle.std.proofs.Common.{◌≡◌, ◌≢◌, ℕ, zero, suc, ◌+◌, ◌<◌, ◌≤◌, List, [], ◌∷◌, refl, sym, ap, subst, ◌∙◌, arith, Bool, true, false, Option, Some, None, inl, inr}
use Rattle.std.specs.Prelude.{if◌then◌else◌, option_map, find, filter, fold, ◌==◌, nat_le, nat_lt, not, ◌||◌, ⊤}
use Rattle.std.specs.List.{AllByRecursion, list_any, range_with_len}
use Rattle.std.specs.Str.{bytes_eq}
use Rattle.model_history.specs.Texts.{Text}
use Rattle.model_members.specs.View.{View, removed_of, identities_of, is_member, leader}
use Rattle.model_history.specs.History.{Action, is_pruned, at}
use Rattle.model_members.specs.Entry.{Entry, Mark, Group, Judgement, Tick, merged, seen_by, with_group, with_action, judged, ticked, marked, unseen}
use Rattle.model_members.specs.Entry.Outcome.{Newer}
use Rattle.model_members.specs.Entry.Judgement.{Wanted, Stale, Missing}
use Rattle.model_meanings.specs.Refusal.{Refusal, Shares}
use Rattle.model_history.proofs.HistoryLaws.{with_at_other}
use Rattle.model_history.proofs.PruneLaws.{found}
use Rattle.model_members.specs.DataType.{Replication}
use Rattle.model_members.specs.Message.{Keyed, Message}
use Rattle.model_members.specs.Message.Message.{Deltas, Nack, Status, Gossip, Write, WriteAck, WriteNack, Read, ReadAnswer}
use Rattle.model_members.specs.Node.Input.{Update, Get, Take, Install, Flush, GossipTo, PruneTick, Timeout}
use Rattle.std.proofs.lemmas.Slice.Eq.{slice_eq-Decides}
use Rattle.std.proofs.lemmas.Bool.Decides.{Decides-eqb, eqb_tells, nat_tests}
use Rattle.model_members.specs.Node.{KeyDecl, KeyState, Node, state_of, Level, Input, Fate, Stepped, OpenOperation, key_state, with_entry, needed}
use Rattle.model_members.specs.Step.{step_of_take, keyed_option, step_of_flush, step_of_gossip, step_of_timeout, step_of_tick, tick_key, tick_identity, step_of, step, AfterGroups, Ticking, take_entry, take_group, after_groups, after_entries, opened, is_entry_passed_over, is_group_passed_over, member_count, has_failed}
use Rattle.model_members.proofs.Cases.{ticked_mark, ticked_seen, performed_unless, performed, counted_for, got, got_needing, with_tick, entry_after_tick_of, with_taken_entry, with_judged, with_taken_group, accepted, updated, updated_needing, updated_unless}

pub if_holds : {A : Type 0} (P : A → Type 0) (b : Bool) (x y : A) → P x → P y → P (if b then x else y)
if_holds P true x y p q = p
if_holds P false x y p q = q

-- a test and what it says, one way or the other
pub if_tells : {A : Type 0} (P : A → Type 0) (b : Bool) (x y : A) → (b ≡ true → P x) → (b ≡ false → P y) → P (if b then x else y)
if_tells P true x y p q = p refl
if_tells P false x y p q = q refl

second_false : (a b : Bool) → (a || b) ≡ false → b ≡ false
second_false true b e = absurd (cc e)
second_false false b e = e

pub same_text : (xs ys : List ℕ) → bytes_eq xs ys ≡ true → xs ≡ ys
same_text xs ys e = (slice_eq-Decides Decides-eqb xs ys _ refl).0 e

pub fold_holds : {A X : Type 0} (P : A → Type 0) (Q : X → Type 0) (f : A → X → A) → ((a : A) (x : X) → P a → Q x → P (f a x)) → (xs : List X) → AllByRecursion Q xs → (a : A) → P a → P (fold f a xs)
fold_holds P Q f h [] all a p = p
fold_holds P Q f h (x ∷ xs) all a p = fold_holds P Q f h xs all.1 (f a x) (h a x p all.0)

pub fold_all : {A X : Type 0} (P : A → Type 0) (f : A → X → A) → ((a : A) (x : X) → P a → P (f a x)) → (xs : List X) (a : A) → P a → P (fold f a xs)
fold_all P f h [] a p = p
fold_all P f h (x ∷ xs) a p = fold_all P f h xs (f a x) (h a x p)

-- LEADERS AND REMOVED IDENTITIES

pub neither_less : (a b : ℕ) → nat_lt a b ≡ false → nat_lt b a ≡ false → a ≡ b
neither_less a b e f = grind (arith, nat_tests)

equal_unless : (a b : ℕ) → not (a == b) ≡ false → a ≡ b
equal_unless a b e = elim (eqb_tells a b) [
  | inl is ↦ is.1
  | inr isnt ↦ absurd (let f : not (a == b) ≡ true = ap not isnt.0 in let g = sym e ∙ f in cc g)
]

-- no member is found that hasn't seen the mark
none_unseen : (mark : Mark) (members : List ℕ) → unseen mark members ≡ None → (t : ℕ) → list_any (λ j. j == t) members ≡ true → mark.seen t ≡ true
none_unseen mark [] e t member = absurd (cc member)
none_unseen mark (j ∷ js) e t member = by_seen (mark.seen j) refl e (λ rest h. none_unseen mark js rest t h)
  where
    here : (b : Bool) → mark.seen j ≡ true → (unseen mark js ≡ None) → ((j == t) ≡ b) → (b || list_any (λ j. j == t) js) ≡ true → ((unseen mark js ≡ None) → list_any (λ j. j == t) js ≡ true → mark.seen t ≡ true) → mark.seen t ≡ true
    here true seen rest is h later = elim (eqb_tells j t) [
      | inl same ↦ ap mark.seen (sym same.1) ∙ seen
      | inr isnt ↦ absurd (let f = sym is ∙ isnt.0 in cc f)
    ]
    here false seen rest is h later = later rest h

    by_seen : (b : Bool) → mark.seen j ≡ b → (if not b then Some j else unseen mark js) ≡ None → ((unseen mark js ≡ None) → list_any (λ j. j == t) js ≡ true → mark.seen t ≡ true) → mark.seen t ≡ true
    by_seen true seen e' later = here (j == t) seen e' refl member later
    by_seen false seen e' later = absurd (cc e')

-- the identity was given before this view, and is no member of it
pub record IsRemoved (view : View) (r : ℕ) : Type 0 where
  pub given : r < view.given
  pub no_member : is_member view r ≡ false

module _ {Op : Type 0} (shares : Option Shares) (i view : ℕ) (members : List ℕ) (entry : Entry Op) (r q : ℕ) (other : q ≢ r) where
  -- a tick for one identity leaves the marks of the others
  unless_others : (o : Option Shares) → (performed_unless shares i view members entry r o).entry.marks q ≡ entry.marks q
  unless_others None = with_at_other entry.marks r None q other
  unless_others (Some blocked) = refl

  seen_others : (o : Option ℕ) → (ticked_seen shares i view members entry r o).entry.marks q ≡ entry.marks q
  seen_others None = unless_others shares
  seen_others (Some j) = refl

  mark_others : (o : Option Mark) → (ticked_mark shares i view members entry r o).entry.marks q ≡ entry.marks q
  mark_others None = with_at_other entry.marks r _ q other
  mark_others (Some mark) =
      if_holds (λ (t : Tick Op). t.entry.marks q ≡ entry.marks q) (nat_lt mark.view view) _ _ (with_at_other entry.marks r _ q other)
      (if_holds (λ (t : Tick Op). t.entry.marks q ≡ entry.marks q) (nat_lt view mark.view) _ _ refl (seen_others (unseen mark members)))

identity_others : {Kind Op Shown : Type 0} (D : Replication Kind Op Shown) (node : Node Kind Op Shown) (k : KeyState Kind Op) (so_far : Ticking Op) (r q : ℕ) → q ≢ r → (tick_identity D node k so_far r).entry.marks q ≡ so_far.entry.marks q
identity_others {Op = Op} D node k so_far r q other =
    if_holds (λ (t : Ticking Op). t.entry.marks q ≡ so_far.entry.marks q) ((at so_far.entry.history r == 0) || is_pruned so_far.entry.history r) _ _ refl
    (mark_others (D.data_type.blocked k.kind node.identity r so_far.entry.history) node.identity node.view.number (identities_of node.view) so_far.entry r q other (so_far.entry.marks r))

-- a tick may come to any, or to none
abbrev pub AnyTick : Text → ℕ → Option Mark → Type 0
AnyTick key r mark = ⊤

abbrev pub NoTick : Text → ℕ → Option Mark → Type 0
NoTick key r mark = ⊥

-- each entry of a member has P, and the member's identity, view and keys are these
pub record Keeps {Kind Op Shown : Type 0} (P : Text → Entry Op → Type 0) (i : ℕ) (view : View) (keys : List (KeyDecl Kind)) (node : Node Kind Op Shown) : Type 0 where
  pub same_identity : node.identity ≡ i
  pub same_view : node.view ≡ view
  pub same_keys : node.keys ≡ keys
  pub entries : (key : Text) → P key (node.entries key)

-- the leader's tick comes to an identity that is removed as of its view, and that the entry has no prune of
pub record IsDue {Op : Type 0} (i : ℕ) (view : View) (entry : Entry Op) (r : ℕ) : Type 0 where
  pub leads : leader view ≡ i
  pub given : r < view.given
  pub removed : is_member view r ≡ false
  pub unpruned : is_pruned entry.history r ≡ false

-- every member of the view stands in the entry's mark of it
pub record IsSeenByAll {Op : Type 0} (view : View) (entry : Entry Op) (r : ℕ) : Type 0 where
  pub mark : Mark
  pub is : entry.marks r ≡ Some mark
  pub now : mark.view ≡ view.number
  pub seen : (t : ℕ) → is_member view t ≡ true → mark.seen t ≡ true

-- what changes of an entry keep P, where M and G hold of the entries and groups of messages, and Ticks of a key, an identity and its mark where a tick comes to it
pub record AreKept {Op : Type 0} (P M : Text → Entry Op → Type 0) (G : Text → Group Op → Type 0) (Ticks : Text → ℕ → Option Mark → Type 0) (i : ℕ) (view : View) : Type 0 where
  pub added : (key : Text) (entry : Entry Op) (op : Op) → P key entry → P key (with_action entry i (Action.Operation op))
  pub took : (key : Text) (mine theirs : Entry Op) → P key mine → M key theirs → P key (seen_by i view.number (merged mine theirs))
  pub grouped : (key : Text) (entry : Entry Op) (group : Group Op) → judged entry group ≡ Wanted → P key entry → G key group → P key (with_group entry group)
  pub marks : (key : Text) (entry : Entry Op) (shares : Option Shares) (r : ℕ) → Ticks key r (entry.marks r) → IsDue i view entry r → P key entry → P key (marked shares i view.number [] entry r).entry
  pub prunes : (key : Text) (entry : Entry Op) (shares : Option Shares) (r : ℕ) → Ticks key r (entry.marks r) → IsDue i view entry r → IsSeenByAll view entry r → P key entry → P key (performed shares i view.number [] entry r).entry

-- what is found of a key is the entry that the member holds
pub found_entry : {Kind Op Shown : Type 0} (node : Node Kind Op Shown) (key : Text) (k : KeyState Kind Op) → key_state node key ≡ Some k → k.entry ≡ node.entries key
found_entry {Kind} {Op} node key k e = go (find (λ decl. bytes_eq decl.name key) node.keys) refl e
  where
    go : (o : Option (KeyDecl Kind)) → find (λ decl. bytes_eq decl.name key) node.keys ≡ o → option_map (state_of node) o ≡ Some k → k.entry ≡ node.entries key
    go None is e' = absurd (cc e')
    go (Some decl) is e' =
        let same : state_of node decl ≡ k = cc e' in
        sym (ap (λ (x : KeyState Kind Op). x.entry) same) ∙ ap node.entries (same_text decl.name key (found _ node.keys decl is))

module _ {Kind Op Shown : Type 0} (D : Replication Kind Op Shown) (P M : Text → Entry Op → Type 0) (G : Text → Group Op → Type 0) (Ticks : Text → ℕ → Option Mark → Type 0) (i : ℕ) (view : View) (kept : AreKept P M G Ticks i view) where
  -- what is known of the entries and groups of a message
  abbrev pub IsKnown : Message Op → Type 0
  IsKnown (Deltas groups entries) = AllByRecursion (λ (g : Keyed (Group Op)). G g.key g.item) groups × AllByRecursion (λ (e : Keyed (Entry Op)). M e.key e.item) entries
  IsKnown (Gossip entries wants) = AllByRecursion (λ (e : Keyed (Entry Op)). M e.key e.item) entries
  IsKnown (Write op key entry) = M key entry
  IsKnown (ReadAnswer op key (Some entry)) = M key entry
  IsKnown _ = ⊤

  -- what an input brings
  abbrev pub IsKnownInput : Input Op → Type 0
  IsKnownInput (Take from message) = IsKnown message
  IsKnownInput (Install v) = ⊥
  IsKnownInput PruneTick = (key : Text) (r : ℕ) (mark : Option Mark) → Ticks key r mark
  IsKnownInput _ = ⊤

module _ {Kind Op Shown : Type 0} (D : Replication Kind Op Shown) (P M : Text → Entry Op → Type 0) (G : Text → Group Op → Type 0) (Ticks : Text → ℕ → Option Mark → Type 0) (i : ℕ) (view : View) (kept : AreKept P M G Ticks i view) (keys : List (KeyDecl Kind)) where
  keeps_with_entry : (node : Node Kind Op Shown) (key : Text) (entry : Entry Op) → Keeps P i view keys node → P key entry → Keeps P i view keys (with_entry node key entry)
  keeps_with_entry node key entry keeps p =
      record { same_identity = keeps.same_identity; same_view = keeps.same_view; same_keys = keeps.same_keys; entries = λ other. at_test other (bytes_eq other key) refl }
    where
      at_test : (other : Text) (b : Bool) → bytes_eq other key ≡ b → P other (if b then entry else node.entries other)
      at_test other true e = subst (λ k. P k entry) (sym (same_text other key e)) p
      at_test other false e = keeps.entries other

  keeps_accepted : (node : Node Kind Op Shown) (key : Text) (n : ℕ) (fate : Fate) (entry : Entry Op) → Keeps P i view keys (with_entry node key entry) → Keeps P i view keys (accepted D node key n fate entry).node
  keeps_accepted node key n fate entry h =
      if_holds (λ (s : Stepped Kind Op Shown). Keeps P i view keys s.node) (has_failed fate) _ _ h
      (if_holds (λ (s : Stepped Kind Op Shown). Keeps P i view keys s.node) (nat_le n 1) _ _ h (record { same_identity = h.same_identity; same_view = h.same_view; same_keys = h.same_keys; entries = h.entries }))

  -- UPDATE AND GET

  keeps_unless : (node : Node Kind Op Shown) (k : KeyState Kind Op) (op : Op) (n : ℕ) (fate : Fate) (refusal : Option Refusal) → Keeps P i view keys node → P k.name k.entry → Keeps P i view keys (updated_unless D node k op n fate refusal).node
  keeps_unless node k op n fate None keeps p =
      keeps_accepted node k.name n fate _ (keeps_with_entry node k.name _ keeps (subst (λ j. P k.name (with_action k.entry j (Action.Operation op))) (sym keeps.same_identity) (kept.added k.name k.entry op p)))
  keeps_unless node k op n fate (Some refusal) keeps p = keeps

  keeps_needing : (node : Node Kind Op Shown) (k : KeyState Kind Op) (op : Op) (n : Option ℕ) (fate : Fate) → Keeps P i view keys node → P k.name k.entry → Keeps P i view keys (updated_needing D node k op n fate).node
  keeps_needing node k op None fate keeps p = keeps
  keeps_needing node k op (Some n) fate keeps p = keeps_unless node k op n fate _ keeps p

  -- what is found of a key has P, and the key's name
  found_key : (node : Node Kind Op Shown) (key : Text) (k : KeyState Kind Op) → Keeps P i view keys node → key_state node key ≡ Some k → P k.name k.entry × (k.name ≡ key)
  found_key node key k keeps e = go (find (λ decl. bytes_eq decl.name key) node.keys) refl e
    where
      go : (o : Option (KeyDecl Kind)) → find (λ decl. bytes_eq decl.name key) node.keys ≡ o → option_map (state_of node) o ≡ Some k → P k.name k.entry × (k.name ≡ key)
      go None is e' = absurd (cc e')
      go (Some decl) is e' =
          let same : state_of node decl ≡ k = cc e' in
          subst (λ (x : KeyState Kind Op). P x.name x.entry × (x.name ≡ key)) same (keeps.entries decl.name, same_text decl.name key (found _ node.keys decl is))

  keeps_updated : (node : Node Kind Op Shown) (key : Text) (o : Option (KeyState Kind Op)) → key_state node key ≡ o → (op : Op) (level : Level) (fate : Fate) → Keeps P i view keys node → Keeps P i view keys (updated D node o op level fate).node
  keeps_updated node key None e op level fate keeps = keeps
  keeps_updated node key (Some k) e op level fate keeps =
      if_holds (λ (s : Stepped Kind Op Shown). Keeps P i view keys s.node) (D.data_type.deleted k.entry.history) _ _ keeps
      (if_holds (λ (s : Stepped Kind Op Shown). Keeps P i view keys s.node) (D.data_type.fits k.kind op) _ _ (keeps_needing node k op _ fate keeps (found_key node key k keeps e).0) keeps)

  keeps_opened : (node : Node Kind Op Shown) (key : Text) (reads : Bool) (n : ℕ) (message : Message Op) → Keeps P i view keys node → Keeps P i view keys (opened node key reads n message).node
  keeps_opened node key reads n message h = record { same_identity = h.same_identity; same_view = h.same_view; same_keys = h.same_keys; entries = h.entries }

  keeps_got_needing : (node : Node Kind Op Shown) (k : KeyState Kind Op) (n : Option ℕ) → Keeps P i view keys node → Keeps P i view keys (got_needing D node k n).node
  keeps_got_needing node k None keeps = keeps
  keeps_got_needing node k (Some n) keeps = if_holds (λ (s : Stepped Kind Op Shown). Keeps P i view keys s.node) (nat_le n 1) _ _ keeps (keeps_opened node k.name true n (Read node.next_op k.name) keeps)

  keeps_got : (node : Node Kind Op Shown) (o : Option (KeyState Kind Op)) (level : Level) → Keeps P i view keys node → Keeps P i view keys (got D node o level).node
  keeps_got node None level keeps = keeps
  keeps_got node (Some k) level keeps = keeps_got_needing node k (needed level (member_count node)) keeps

  -- ENTRIES AND GROUPS OF A MESSAGE

  keeps_taken_entry : (node : Node Kind Op Shown) (key : Text) (o : Option (KeyState Kind Op)) → key_state node key ≡ o → (theirs : Entry Op) → Keeps P i view keys node → M key theirs → Keeps P i view keys (with_taken_entry node o theirs)
  keeps_taken_entry node key None e theirs keeps m = keeps
  keeps_taken_entry node key (Some k) e theirs keeps m =
      if_holds (λ (n : Node Kind Op Shown). Keeps P i view keys n) (is_entry_passed_over node.identity k.entry theirs) _ _ keeps
      (keeps_with_entry node k.name _ keeps
      (subst (λ j. P k.name (seen_by j node.view.number (merged k.entry theirs))) (sym keeps.same_identity)
      (subst (λ (v : View). P k.name (seen_by i v.number (merged k.entry theirs))) (sym keeps.same_view)
      (kept.took k.name k.entry theirs (found_key node key k keeps e).0 (subst (λ n. M n theirs) (sym (found_key node key k keeps e).1) m)))))

  pub keeps_entries : (node : Node Kind Op Shown) (entries : List (Keyed (Entry Op))) → Keeps P i view keys node → AllByRecursion (λ (e : Keyed (Entry Op)). M e.key e.item) entries → Keeps P i view keys (after_entries node entries)
  keeps_entries node entries keeps all = fold_holds (λ (n : Node Kind Op Shown). Keeps P i view keys n) (λ (e : Keyed (Entry Op)). M e.key e.item) take_entry (λ n e p q. keeps_taken_entry n e.key (key_state n e.key) refl e.item p q) entries all node keeps

  keeps_judged : (so_far : AfterGroups Kind Op Shown) (k : KeyState Kind Op) (group : Group Op) (judgement : Judgement) → judged k.entry group ≡ judgement → Keeps P i view keys so_far.node → P k.name k.entry → G k.name group → Keeps P i view keys (with_judged so_far k group judgement).node
  keeps_judged so_far k group Wanted is keeps p g = keeps_with_entry so_far.node k.name _ keeps (kept.grouped k.name k.entry group is p g)
  keeps_judged so_far k group Stale is keeps p g = keeps
  keeps_judged so_far k group (Missing j) is keeps p g = keeps

  keeps_taken_group : (so_far : AfterGroups Kind Op Shown) (key : Text) (o : Option (KeyState Kind Op)) → key_state so_far.node key ≡ o → (group : Group Op) → Keeps P i view keys so_far.node → G key group → Keeps P i view keys (with_taken_group so_far o group).node
  keeps_taken_group so_far key None e group keeps g = keeps
  keeps_taken_group so_far key (Some k) e group keeps g =
      let known = found_key so_far.node key k keeps e in
      if_holds (λ (a : AfterGroups Kind Op Shown). Keeps P i view keys a.node) (is_group_passed_over so_far.node.identity k.entry group) _ _ keeps
      (keeps_judged so_far k group _ refl keeps known.0 (subst (λ n. G n group) (sym known.1) g))

  pub keeps_groups : (node : Node Kind Op Shown) (groups : List (Keyed (Group Op))) → Keeps P i view keys node → AllByRecursion (λ (g : Keyed (Group Op)). G g.key g.item) groups → Keeps P i view keys (after_groups node groups).node
  keeps_groups node groups keeps all = fold_holds (λ (a : AfterGroups Kind Op Shown). Keeps P i view keys a.node) (λ (g : Keyed (Group Op)). G g.key g.item) take_group (λ a g p q. keeps_taken_group a g.key (key_state a.node g.key) refl g.item p q) groups all (record { node = node; gaps = [] }) keeps

  -- ANSWERS COUNTED

  keeps_counted_for : (s : Stepped Kind Op Shown) (from : ℕ) (o : Option OpenOperation) → Keeps P i view keys s.node → Keeps P i view keys (counted_for D s from o).node
  keeps_counted_for s from None keeps = keeps
  keeps_counted_for s from (Some operation) keeps =
      if_holds (λ (s : Stepped Kind Op Shown). Keeps P i view keys s.node) _ _ _
      (record { same_identity = keeps.same_identity; same_view = keeps.same_view; same_keys = keeps.same_keys; entries = keeps.entries })
      (record { same_identity = keeps.same_identity; same_view = keeps.same_view; same_keys = keeps.same_keys; entries = keeps.entries })

  -- TICKS

  keeps_performed_unless : (key : Text) (entry : Entry Op) (shares : Option Shares) (members : List ℕ) (r : ℕ) (o : Option Shares) → Ticks key r (entry.marks r) → IsDue i view entry r → IsSeenByAll view entry r → P key entry → P key (performed_unless shares i view.number members entry r o).entry
  keeps_performed_unless key entry shares members r None ticks due seen p = kept.prunes key entry shares r ticks due seen p
  keeps_performed_unless key entry shares members r (Some blocked) ticks due seen p = p

  keeps_ticked_seen : (key : Text) (entry : Entry Op) (shares : Option Shares) (r : ℕ) (o : Option ℕ) → Ticks key r (entry.marks r) → IsDue i view entry r → (o ≡ None → IsSeenByAll view entry r) → P key entry → P key (ticked_seen shares i view.number (identities_of view) entry r o).entry
  keeps_ticked_seen key entry shares r None ticks due seen p = keeps_performed_unless key entry shares (identities_of view) r shares ticks due (seen refl) p
  keeps_ticked_seen key entry shares r (Some j) ticks due seen p = p

  keeps_ticked_mark : (key : Text) (entry : Entry Op) (shares : Option Shares) (r : ℕ) (o : Option Mark) → entry.marks r ≡ o → Ticks key r (entry.marks r) → IsDue i view entry r → P key entry → P key (ticked_mark shares i view.number (identities_of view) entry r o).entry
  keeps_ticked_mark key entry shares r None is ticks due p = kept.marks key entry shares r ticks due p
  keeps_ticked_mark key entry shares r (Some mark) is ticks due p =
      let members = identities_of view in
      let seen = ticked_seen shares i view.number members entry r (unseen mark members) in
      let newer : Tick Op = record { outcome = Newer; entry = entry } in
      if_tells (λ (t : Tick Op). P key t.entry) (nat_lt mark.view view.number) (marked shares i view.number members entry r) (if nat_lt view.number mark.view then newer else seen)
      (λ older. kept.marks key entry shares r ticks due p)
      (λ not_older. if_tells (λ (t : Tick Op). P key t.entry) (nat_lt view.number mark.view) newer seen (λ later. p)
      (λ not_later. keeps_ticked_seen key entry shares r (unseen mark members) ticks due
      (λ none. record { mark = mark; is = is; now = neither_less mark.view view.number not_older not_later; seen = λ t member. none_unseen mark members none t member }) p))

  keeps_tick_identity : (node : Node Kind Op Shown) (k : KeyState Kind Op) (so_far : Ticking Op) (r : ℕ) → node.identity ≡ i → node.view ≡ view → leader view ≡ i → IsRemoved view r → Ticks k.name r (so_far.entry.marks r) → P k.name so_far.entry → P k.name (tick_identity D node k so_far r).entry
  keeps_tick_identity node k so_far r same_identity same_view leads removed ticks p =
      let H = so_far.entry.history in
      let shares = D.data_type.blocked k.kind node.identity r H in
      let tick = ticked shares node.identity node.view.number (identities_of node.view) so_far.entry r in
      let does : is_pruned H r ≡ false → P k.name tick.entry =
      (λ fresh. subst (λ j. P k.name (ticked shares j node.view.number (identities_of node.view) so_far.entry r).entry) (sym same_identity)
      (subst (λ (v : View). P k.name (ticked shares i v.number (identities_of v) so_far.entry r).entry) (sym same_view)
      (keeps_ticked_mark k.name so_far.entry shares r (so_far.entry.marks r) refl ticks (record { leads = leads; given = removed.given; removed = removed.no_member; unpruned = fresh }) p))) in
      if_tells (λ (t : Ticking Op). P k.name t.entry) ((at H r == 0) || is_pruned H r) so_far (with_tick D k so_far r tick) (λ e. p) (λ e. does (second_false (at H r == 0) (is_pruned H r) e))

  -- ticks for the removed identities from one on: the marks of these are still those from before
  keeps_ticks : (node : Node Kind Op Shown) (k : KeyState Kind Op) → node.identity ≡ i → node.view ≡ view → leader view ≡ i → ((r : ℕ) → Ticks k.name r (k.entry.marks r)) → (first n : ℕ) → first + n ≤ view.given
      → (so_far : Ticking Op) → ((q : ℕ) → first ≤ q → so_far.entry.marks q ≡ k.entry.marks q) → P k.name so_far.entry → P k.name (fold (tick_identity D node k) so_far (filter (λ j. not (is_member view j)) (range_with_len first n))).entry
  keeps_ticks node k same_identity same_view leads ticks first zero h so_far same p = p
  keeps_ticks node k same_identity same_view leads ticks first (suc n) h so_far same p =
      one (is_member view first) refl (λ next kept_same q. keeps_ticks node k same_identity same_view leads ticks (first + 1) n (omega arith) next kept_same q)
    where
      one : (b : Bool) → is_member view first ≡ b → ((next : Ticking Op) → ((q : ℕ) → first + 1 ≤ q → next.entry.marks q ≡ k.entry.marks q) → P k.name next.entry → P k.name (fold (tick_identity D node k) next (filter (λ j. not (is_member view j)) (range_with_len (first + 1) n))).entry)
          → P k.name (fold (tick_identity D node k) so_far (if not b then first ∷ filter (λ j. not (is_member view j)) (range_with_len (first + 1) n) else filter (λ j. not (is_member view j)) (range_with_len (first + 1) n))).entry
      one true member later = later so_far (λ q l. same q (omega arith)) p
      one false stranger later =
          later (tick_identity D node k so_far first) (λ q l. identity_others D node k so_far first q (λ e. absurd (omega arith)) ∙ same q (omega arith))
          (keeps_tick_identity node k so_far first same_identity same_view leads (record { given = omega arith; no_member = stranger })
          (subst (Ticks k.name first) (sym (same first (omega arith))) (ticks first)) p)

  keeps_tick_key : (node : Node Kind Op Shown) (k : KeyState Kind Op) → node.identity ≡ i → node.view ≡ view → leader view ≡ i → ((r : ℕ) → Ticks k.name r (k.entry.marks r)) → P k.name k.entry → P k.name (tick_key D node k).entry
  keeps_tick_key node k same_identity same_view leads ticks p =
      subst (λ (v : View). P k.name (fold (tick_identity D node k) (record { entry = k.entry; outcomes = [] }) (removed_of v)).entry) (sym same_view)
      (keeps_ticks node k same_identity same_view leads ticks 0 view.given (omega arith) (record { entry = k.entry; outcomes = [] }) (λ q l. refl) p)

  keeps_entry_after_tick : (node : Node Kind Op Shown) (key : Text) (o : Option (KeyState Kind Op)) → key_state node key ≡ o → leader view ≡ i → ((r : ℕ) → Ticks key r ((node.entries key).marks r)) → Keeps P i view keys node → P key (entry_after_tick_of D node o (node.entries key))
  keeps_entry_after_tick node key None e leads ticks keeps = keeps.entries key
  keeps_entry_after_tick node key (Some k) e leads ticks keeps =
      let known = found_key node key k keeps e in
      let here : (r : ℕ) → Ticks k.name r (k.entry.marks r) = λ r. subst (λ n. Ticks n r (k.entry.marks r)) (sym known.1) (subst (λ (x : Entry Op). Ticks key r (x.marks r)) (sym (found_entry node key k e)) (ticks r)) in
      subst (λ n. P n (tick_key D node k).entry) known.1 (keeps_tick_key node k keeps.same_identity keeps.same_view leads here known.0)

  pub keeps_pruned : (node : Node Kind Op Shown) (fate : Fate) → ((key : Text) (r : ℕ) → Ticks key r ((node.entries key).marks r)) → Keeps P i view keys node → Keeps P i view keys (step_of_tick D node fate).node
  keeps_pruned node fate ticks keeps =
      if_tells (λ (s : Stepped Kind Op Shown). Keeps P i view keys s.node) (not (leader node.view == node.identity)) _ _ (λ e. keeps)
      (λ e.
      let leads : leader view ≡ i = ap leader (sym keeps.same_view) ∙ equal_unless (leader node.view) node.identity e ∙ keeps.same_identity in
      record { same_identity = keeps.same_identity; same_view = keeps.same_view; same_keys = keeps.same_keys; entries = λ key. keeps_entry_after_tick node key (key_state node key) refl leads (ticks key) keeps })

  -- THE OTHER INPUTS

  keeps_flushed : (node : Node Kind Op Shown) → Keeps P i view keys node → Keeps P i view keys (step_of_flush D node).node
  keeps_flushed node keeps =
      record { same_identity = keeps.same_identity; same_view = keeps.same_view; same_keys = keeps.same_keys; entries = keeps.entries }

  keeps_gossiped : (node : Node Kind Op Shown) (j : ℕ) → Keeps P i view keys node → Keeps P i view keys (step_of_gossip D node j).node
  keeps_gossiped node j keeps = if_holds (λ (s : Stepped Kind Op Shown). Keeps P i view keys s.node) ((j == node.identity) || not (is_member node.view j)) _ _ keeps keeps

  keeps_timed_out : (node : Node Kind Op Shown) (op : ℕ) → Keeps P i view keys node → Keeps P i view keys (step_of_timeout D node op).node
  keeps_timed_out node op keeps =
      if_holds (λ (s : Stepped Kind Op Shown). Keeps P i view keys s.node) (list_any (λ (o : OpenOperation). o.op == op) node.open_operations) _ _
      (record { same_identity = keeps.same_identity; same_view = keeps.same_view; same_keys = keeps.same_keys; entries = keeps.entries }) keeps

  keeps_answer : (node : Node Kind Op Shown) (from : ℕ) (fate : Fate) (op : ℕ) (key : Text) (o : Option (Entry Op)) → Keeps P i view keys node → IsKnown D P M G Ticks i view kept (ReadAnswer op key o) → Keeps P i view keys (after_entries node (keyed_option D key o))
  keeps_answer node from fate op key None keeps known = keeps
  keeps_answer node from fate op key (Some entry) keeps known = keeps_entries node (record { key = key; item = entry } ∷ []) keeps (known, tt)

  pub keeps_taken : (node : Node Kind Op Shown) (from : ℕ) (fate : Fate) (message : Message Op) → Keeps P i view keys node → IsKnown D P M G Ticks i view kept message → Keeps P i view keys (step_of_take D node from fate message).node
  keeps_taken node from fate (Deltas groups entries) keeps known = keeps_entries _ entries (keeps_groups node groups keeps known.0) known.1
  keeps_taken node from fate (Nack keys) keeps known = keeps
  keeps_taken node from fate (Status digests) keeps known = keeps
  keeps_taken node from fate (Gossip entries wants) keeps known = keeps_entries node entries keeps known
  keeps_taken node from fate (Write op key entry) keeps known = keeps_entries node (record { key = key; item = entry } ∷ []) keeps (known, tt)
  keeps_taken node from fate (WriteAck op) keeps known = keeps_counted_for _ from _ keeps
  keeps_taken node from fate (WriteNack op) keeps known = keeps
  keeps_taken node from fate (Read op key) keeps known = keeps
  keeps_taken node from fate (ReadAnswer op key entry) keeps known = keeps_counted_for _ from _ (keeps_answer node from fate op key entry keeps known)

  keeps_step_of : (node : Node Kind Op Shown) (input : Input Op) (fate : Fate) → Keeps P i view keys node → IsKnownInput D P M G Ticks i view kept input → Keeps P i view keys (step_of D node input fate).node
  keeps_step_of node (Update key op level) fate keeps known = keeps_updated node key (key_state node key) refl op level fate keeps
  keeps_step_of node (Get key level) fate keeps known = keeps_got node (key_state node key) level keeps
  keeps_step_of node (Take from message) fate keeps known = if_holds (λ (s : Stepped Kind Op Shown). Keeps P i view keys s.node) (is_member node.view from) _ _ (keeps_taken node from fate message keeps known) keeps
  keeps_step_of node (Install v) fate keeps known = absurd known
  keeps_step_of node Flush fate keeps known = keeps_flushed node keeps
  keeps_step_of node (GossipTo j) fate keeps known = keeps_gossiped node j keeps
  keeps_step_of node PruneTick fate keeps known = keeps_pruned node fate (λ key r. known key r ((node.entries key).marks r)) keeps
  keeps_step_of node (Timeout op) fate keeps known = keeps_timed_out node op keeps

  -- each step but an installation keeps P
  pub keeps_step : (node : Node Kind Op Shown) (input : Input Op) (fate : Fate) → Keeps P i view keys node → IsKnownInput D P M G Ticks i view kept input → Keeps P i view keys (step D node input fate).node
  keeps_step node input fate keeps known = keeps_step_of _ input fate (record { same_identity = keeps.same_identity; same_view = keeps.same_view; same_keys = keeps.same_keys; entries = keeps.entries }) known
