-- What the stores of a run hold.
--     run_stores_declared        each entry is one of a declared durable key
--     NamesGiven, step_given        which identities an entry names, and that a step adds none but given ones
--     stored_names        in every run each entry of a store names given identities alone
--     stores_fit        so a new member may load it
use Rattle.std.proofs.Common.{◌≡◌, ℕ, zero, suc, List, [], ◌∷◌, map, refl, sym, subst, ◌∙◌, arith, Bool, true, false, Option, Some, None, ◌<◌, ◌≤◌, inl, inr, ap}
use Rattle.std.specs.Prelude.{Any, if◌then◌else◌, filter, nat_lt, min, nat_le, ◌==◌, ⊤, slice_get, unwrap_or}
use Rattle.std.specs.List.{AllByRecursion}
use Rattle.std.proofs.Math.Nat.{min-le_left}
use Rattle.std.proofs.lemmas.Bool.{or_cases, cases_lt}
use Rattle.std.proofs.lemmas.Bool.Decides.{eqb_tells}
use Rattle.model_history.specs.Texts.{Text}
use Rattle.model_history.specs.Table.{with_at}
use Rattle.model_history.specs.Vector.{with_member, alone, united}
use Rattle.model_history.specs.History.{at, union}
use Rattle.model_history.proofs.PruneLaws.{IsIn}
use Rattle.model_history.proofs.PartLaws.{part-le}
use Rattle.model_members.specs.Entry.{Entry, Mark, Marks, newer_mark, merged_mark, seen_mark, seen_by, merged, empty_entry}
use Rattle.model_members.specs.DataType.{Replication}
use Rattle.model_members.specs.Message.{Keyed, entries_in, groups_in, Message}
use Rattle.model_members.specs.Node.{KeyDecl, KeyState, Node, Input, Fate, key_states, state_of, keyed_entry}
use Rattle.model_members.specs.Node.Input.{Take, Install, PruneTick}
use Rattle.model_members.specs.Step.{step, changed_keys, to_store}
use Rattle.model_members.specs.View.{place_of, first_view, View}
use Rattle.model_members.specs.World.{World, Event, Link, Store, start, happens, run, loaded_node, moved_on, no_entries, AreLawful, IsGiven, IsLawful, IsRun, message_at, loaded_entry}
use Rattle.model_members.specs.World.Event.{InputAt, Delivery, Loss, Removal, Joining, Restart}
use Rattle.model_members.proofs.Cases.{stepped_at, delivered}
use Rattle.theorem_runs.specs.Logs.{HasLogs}
use Rattle.theorem_runs.specs.Pruning.{HistoryVariables, nothing_noted, noted, variables_of}
use Rattle.theorem_runs.proofs.Agreement.{AllStored, stored_all, found_stored}
use Rattle.theorem_runs.proofs.Happening.{all_of, IsStoreFor, NodeAfter, MessageAfter, StoredAfter, ViewsAfter, Follows, event_follows}
use Rattle.theorem_runs.proofs.Sending.{all_filtered, all_mapped_by, all_both}
use Rattle.theorem_runs.proofs.Stepping.{moves, BringsInput, all_trivial, keeps_any}
use Rattle.theorem_runs.proofs.Keeping.{AnyTick, AreKept, if_holds}
use Rattle.theorem_runs.proofs.Parts.{part_entries}
use Rattle.theorem_runs.proofs.MarkLaws.{kept_mark}
use Rattle.theorem_runs.proofs.Happening.IsStoreFor.{Emptied, Reloaded}
use Rattle.theorem_runs.proofs.Happening.NodeAfter.{Same, Stepped, Started}
use Rattle.theorem_runs.proofs.Happening.MessageAfter.{OldMessage, NewMessage}
use Rattle.theorem_runs.proofs.Happening.StoredAfter.{OldStored, NewStored}
use Rattle.theorem_runs.proofs.Happening.ViewsAfter.{SameViews, NextViews}
use Rattle.theorem_runs.proofs.RunViews.{HasViews, last_given, views_follow}
use Rattle.theorem_runs.proofs.Safety.{runs_are_safe}
use Rattle.member_node.specs.declared.key.KeyState.{KeyState as CodeState}
use Rattle.member_node.specs.Keys.{declared_by}
use Rattle.member_node.specs.Stores.{IsEarlier, IsFit, IsDurable, AreFit}
use Rattle.world_places.proofs.Lists.{at_each}

-- what is in a list, and has something, has it somewhere
pub any_in : {X : Type 0} (P : X → Type 0) (xs : List X) (x : X) → IsIn xs x → P x → Any P xs
any_in P [] x m p = absurd (cc m.1)
any_in P (y ∷ xs) x (zero, e) p = let same : y ≡ x = cc e in (0, x, omega arith, same, p)
any_in P (y ∷ xs) x (suc k, e) p = let r = any_in P xs x (k, e) p in let less = r.2 in (suc r.0, r.1, omega (arith, less), r.3, r.4)

all_passed : {X : Type 0} (P : X → Type 0) (test : X → Bool) (xs : List X) → AllByRecursion (λ x. test x ≡ true → P x) xs → AllByRecursion P (filter test xs)
all_passed P test [] all = tt
all_passed P test (x ∷ xs) all = go (test x) refl (all_passed P test xs all.1)
  where
    go : (b : Bool) → test x ≡ b → AllByRecursion P (filter test xs) → AllByRecursion P (if b then x ∷ filter test xs else filter test xs)
    go true is rest = (all.0 is, rest)
    go false is rest = rest

-- a durable key of this name is declared
abbrev pub IsDeclared : {Kind : Type 0} → List (KeyDecl Kind) → Text → Type 0
IsDeclared {Kind} keys name = Any (λ (decl : KeyDecl Kind). (decl.name ≡ name) × (decl.durable ≡ true)) keys

module _ {Kind Op Shown : Type 0} (D : Replication Kind Op Shown) (keys : List (KeyDecl Kind)) where
  states_declared : (node : Node Kind Op Shown) → node.keys ≡ keys → AllByRecursion (λ (k : KeyState Kind Op). k.durable ≡ true → IsDeclared keys k.name) (key_states node)
  states_declared node same =
      subst (λ ks. AllByRecursion (λ (k : KeyState Kind Op). k.durable ≡ true → IsDeclared keys k.name) (map (state_of node) ks)) (sym same)
      (all_mapped_by (λ (decl : KeyDecl Kind). decl.durable ≡ true → IsDeclared keys decl.name) (λ (k : KeyState Kind Op). k.durable ≡ true → IsDeclared keys k.name) (state_of node) (λ decl h. h) keys
      (all_of (λ (decl : KeyDecl Kind). decl.durable ≡ true → IsDeclared keys decl.name) keys (λ decl m durable. any_in (λ (d : KeyDecl Kind). (d.name ≡ decl.name) × (d.durable ≡ true)) keys decl m (refl, durable))))

  stored_declared : (old new : Node Kind Op Shown) → new.keys ≡ keys → AllByRecursion (λ (e : Keyed (Entry Op)). IsDeclared keys e.key) (map keyed_entry (to_store old new))
  stored_declared old new same =
      all_mapped_by (λ (k : KeyState Kind Op). IsDeclared keys k.name) (λ (e : Keyed (Entry Op)). IsDeclared keys e.key) keyed_entry (λ k h. h) (to_store old new)
      (all_passed (λ (k : KeyState Kind Op). IsDeclared keys k.name) (λ k. k.durable) (changed_keys old new) (all_filtered (λ (k : KeyState Kind Op). k.durable ≡ true → IsDeclared keys k.name) _ (key_states new) (states_declared new same)))

  record HasKeys (world : World Kind Op Shown) : Type 0 where
    pub same : world.keys ≡ keys
    pub nodes : (t : ℕ) (node : Node Kind Op Shown) → world.nodes t ≡ Some node → node.keys ≡ keys
    pub stored : (place : ℕ) → AllStored (λ key entry. IsDeclared keys key) (world.stores place)

  -- TABLES

  node_set : (nodes : ℕ → Option (Node Kind Op Shown)) (i : ℕ) (o : Option (Node Kind Op Shown)) → ((n : Node Kind Op Shown) → o ≡ Some n → n.keys ≡ keys) → ((t : ℕ) (n : Node Kind Op Shown) → nodes t ≡ Some n → n.keys ≡ keys) → (t : ℕ) (n : Node Kind Op Shown) → with_at nodes i o t ≡ Some n → n.keys ≡ keys
  node_set nodes i o here others = at_each (λ t o. (n : Node Kind Op Shown) → o ≡ Some n → n.keys ≡ keys) nodes i o here (λ t other. others t)

  store_set : (stores : ℕ → Store Op) (place : ℕ) (store : Store Op) → ((p : ℕ) → AllStored (λ key entry. IsDeclared keys key) (stores p)) → AllStored (λ key entry. IsDeclared keys key) store → (p : ℕ) → AllStored (λ key entry. IsDeclared keys key) (with_at stores place store p)
  store_set stores place store old new = at_each (λ p store. AllStored (λ key entry. IsDeclared keys key) store) stores place store new (λ p other. old p)

  made_so : (made n : Node Kind Op Shown) → made.keys ≡ keys → Some made ≡ Some n → n.keys ≡ keys
  made_so made n same e = let is : made ≡ n = cc e in subst (λ (m : Node Kind Op Shown). m.keys ≡ keys) is same

  -- EVENTS

  step_has : (world : World Kind Op Shown) → HasKeys world → (i : ℕ) (old : Node Kind Op Shown) → world.nodes i ≡ Some old → (input : Input Op) (fate : Fate) (links : ℕ → ℕ → Link Op) → HasKeys (stepped_at D (record world { links = links }) i (Some old) input fate)
  step_has world has i old runs input fate links =
      let new = (step D old input fate).node in
      let same : new.keys ≡ keys = (moves D old input fate).keys ∙ has.nodes i old runs in
      record {
        same = has.same;
        nodes = node_set world.nodes i (Some new) (λ n. made_so new n same) has.nodes;
        stored = store_set world.stores (place_of world.view i) _ has.stored
            (stored_all (λ key entry. IsDeclared keys key) fate (map keyed_entry (to_store old new)) (world.stores (place_of world.view i)) (stored_declared old new same) (has.stored (place_of world.view i)));
      }

  event_has : (world : World Kind Op Shown) → HasKeys world → (event : Event Op) → IsLawful D world event → HasKeys (happens D world event)
  event_has world has (InputAt i input fate) lawful =
      subst (λ o. HasKeys (stepped_at D world i o input fate)) (sym lawful.1.runs) (step_has world has i lawful.1.node lawful.1.runs input fate world.links)
  event_has world has (Delivery from to index fate) lawful =
      subst (λ m. HasKeys (delivered D world from to index m fate)) (sym lawful.1)
      (subst (λ o. HasKeys (stepped_at D (record world { links = moved_on world.links from to index }) to o (Take from lawful.0) fate)) (sym lawful.2.runs)
      (step_has world has to lawful.2.node lawful.2.runs (Take from lawful.0) fate (moved_on world.links from to index)))
  event_has world has (Loss from to) lawful = record { same = has.same; nodes = has.nodes; stored = has.stored }
  event_has world has (Removal i) lawful = record { same = has.same; nodes = node_set world.nodes i None (λ n e. absurd (cc e)) has.nodes; stored = has.stored }
  event_has world has (Joining place) lawful =
      record {
        same = has.same;
        nodes = node_set world.nodes _ (Some _) (λ n. made_so _ n has.same) has.nodes;
        stored = store_set world.stores place no_entries has.stored (λ key entry e. absurd (cc e));
      }
  event_has world has (Restart i) lawful =
      record {
        same = has.same;
        nodes = node_set (with_at world.nodes i None) _ (Some _) (λ n. made_so _ n has.same) (node_set world.nodes i None (λ n e. absurd (cc e)) has.nodes);
        stored = has.stored;
      }

  run_has : (world : World Kind Op Shown) (events : List (Event Op)) → AreLawful D world events → HasKeys world → HasKeys (run D world events)
  run_has world [] lawful has = has
  run_has world (event ∷ events) lawful has = run_has (happens D world event) events lawful.1 (event_has world has event lawful.0)

  start_has : (members : ℕ) → HasKeys (start members keys)
  start_has members = record { same = refl; nodes = λ t node e. by_test t node (nat_lt t members) e; stored = λ place key entry e. absurd (cc e) }
    where
      by_test : (t : ℕ) (node : Node Kind Op Shown) (b : Bool) → (if b then Some (loaded_node keys t (first_view members) no_entries) else None) ≡ Some node → node.keys ≡ keys
      by_test t node true e = made_so _ node refl e
      by_test t node false e = absurd (cc e)

  module _ (members : ℕ) (events : List (Event Op)) (world : World Kind Op Shown) (is_run : IsRun D members keys events world) where
    has_keys : HasKeys world
    has_keys = subst HasKeys (sym is_run.leads) (run_has (start members keys) events is_run.lawful (start_has members))

    -- the keys of the world are those declared
    pub run_keys : world.keys ≡ keys
    run_keys = has_keys.same

    pub run_stores_declared : (place : ℕ) (key : Text) (entry : Entry Op) → world.stores place key ≡ Some entry → IsDeclared keys key
    run_stores_declared = has_keys.stored

-- IDENTITIES

-- all identities that the entry names are below this number
pub record NamesGiven {Op : Type 0} (given : ℕ) (entry : Entry Op) : Type 0 where
  pub counted : (i : ℕ) → 0 < at entry.history i → i < given
  pub marked : (r : ℕ) (mark : Mark) → entry.marks r ≡ Some mark → (r < given) × (mark.owner < given)
  pub seen : (r : ℕ) (mark : Mark) (i : ℕ) → entry.marks r ≡ Some mark → mark.seen i ≡ true → i < given

-- a mark of this identity
pub record MarkGiven (given r : ℕ) (mark : Mark) : Type 0 where
  pub removed : r < given
  pub owner : mark.owner < given
  pub seen : (i : ℕ) → mark.seen i ≡ true → i < given

-- where there is a mark, it names identities below this number
abbrev pub FoundGiven : ℕ → ℕ → Option Mark → Type 0
FoundGiven given r found = (mark : Mark) → found ≡ Some mark → MarkGiven given r mark

-- all marks of an entry do
abbrev pub MarksGiven : {Op : Type 0} → ℕ → Entry Op → Type 0
MarksGiven given entry = (r : ℕ) → FoundGiven given r (entry.marks r)

-- MARKS

this_mark : (n r : ℕ) (m : Mark) → MarkGiven n r m → FoundGiven n r (Some m)
this_mark n r m g mark e = let same : m ≡ mark = cc e in subst (MarkGiven n r) same g

no_mark : (n r : ℕ) → FoundGiven n r None
no_mark n r mark e = absurd (cc e)

mark_later : (n m r : ℕ) → n ≤ m → (mark : Mark) → MarkGiven n r mark → MarkGiven m r mark
mark_later n m r h mark g = record { removed = (let a = g.removed in omega arith); owner = (let a = g.owner in omega arith); seen = λ i s. let a = g.seen i s in omega arith }

in_with_member : (n i : ℕ) → i < n → (set : ℕ → Bool) → ((t : ℕ) → set t ≡ true → t < n) → (t : ℕ) → with_member set i t ≡ true → t < n
in_with_member n i small set old t e = elim (or_cases (t == i) (set t) e) [
  | inl new ↦ elim (eqb_tells t i) [ inl is ↦ (let a = is.1 in omega arith) | inr isnt ↦ absurd (let f = sym new ∙ isnt.0 in cc f) ]
  | inr was ↦ old t was
]

-- a member sees a mark
seen_given : (n i view r : ℕ) → i < n → (o : Option Mark) → FoundGiven n r o → FoundGiven n r (seen_mark i view o)
seen_given n i view r small None given = no_mark n r
seen_given n i view r small (Some m) given =
    let g = given m refl in
    if_holds (FoundGiven n r) (nat_le m.view view) (Some (record m { seen = with_member m.seen i })) (Some m)
    (this_mark n r _ (record { removed = g.removed; owner = g.owner; seen = in_with_member n i small m.seen g.seen })) (this_mark n r m g)

-- two marks as one
both_given : (n r : ℕ) (a b : Mark) → MarkGiven n r a → MarkGiven n r b → MarkGiven n r (record { view = a.view; owner = min a.owner b.owner; seen = united a.seen b.seen })
both_given n r a b ga gb =
    record {
      removed = ga.removed;
      owner = (let h = ga.owner in omega (arith, min-le_left a.owner b.owner));
      seen = λ i s. elim (or_cases (a.seen i) (b.seen i) s) [ inl mine ↦ ga.seen i mine | inr theirs ↦ gb.seen i theirs ];
    }

newer_given : (n r : ℕ) (a b : Mark) → MarkGiven n r a → MarkGiven n r b → MarkGiven n r (newer_mark a b)
newer_given n r a b ga gb =
    if_holds (MarkGiven n r) (nat_lt a.view b.view) _ _ gb
    (if_holds (MarkGiven n r) (nat_lt b.view a.view) _ _ ga (both_given n r a b ga gb))

merged_given : (n r : ℕ) (a b : Option Mark) → FoundGiven n r a → FoundGiven n r b → FoundGiven n r (merged_mark a b)
merged_given n r None b ga gb = gb
merged_given n r (Some a) None ga gb = ga
merged_given n r (Some a) (Some b) ga gb = this_mark n r _ (newer_given n r a b (ga a refl) (gb b refl))

-- one mark is put, or taken away
with_given : (n : ℕ) (marks : Marks) (r : ℕ) (o : Option Mark) → FoundGiven n r o → ((q : ℕ) → FoundGiven n q (marks q)) → (q : ℕ) → FoundGiven n q (with_at marks r o q)
with_given n marks r o new old = at_each (FoundGiven n) marks r o new (λ q other. old q)

alone_given : (n i : ℕ) → i < n → (t : ℕ) → alone i t ≡ true → t < n
alone_given n i small t e = elim (eqb_tells t i) [ inl is ↦ (let a = is.1 in omega arith) | inr isnt ↦ absurd (let f = sym e ∙ isnt.0 in cc f) ]

-- ENTRIES

pub empty_given : (Op : Type 0) (n : ℕ) → MarksGiven n (empty_entry {Op = Op})
empty_given Op n r = no_mark n r

module _ {Op : Type 0} where
  pub marks_later : (n m : ℕ) → n ≤ m → (entry : Entry Op) → MarksGiven n entry → MarksGiven m entry
  marks_later n m h entry given r mark e = mark_later n m r h mark (given r mark e)

  pub seen_by_given : (n i view : ℕ) → i < n → (entry : Entry Op) → MarksGiven n entry → MarksGiven n (seen_by i view entry)
  seen_by_given n i view small entry given r = seen_given n i view r small (entry.marks r) (given r)

  took_given : (n i view : ℕ) → i < n → (mine theirs : Entry Op) → MarksGiven n mine → MarksGiven n theirs → MarksGiven n (seen_by i view (merged mine theirs))
  took_given n i view small mine theirs a b =
      seen_by_given n i view small (merged mine theirs)
      (λ r mark e. merged_given n r (mine.marks r) (theirs.marks r) (a r) (b r) mark (kept_mark (union mine.history theirs.history) (λ x. merged_mark (mine.marks x) (theirs.marks x)) r mark e))

  -- each change of an entry keeps it so
  pub names_kept : (n i : ℕ) (view : View) → i < n → view.given ≤ n → AreKept (λ key. MarksGiven {Op = Op} n) (λ key. MarksGiven n) (λ key group. ⊤) AnyTick i view
  names_kept n i view small late =
      record {
        added = λ key entry op p. p;
        took = λ key mine theirs p m. took_given n i view.number small mine theirs p m;
        grouped = λ key entry group judgement p g. p;
        marks = λ key entry shares r ticks due p. with_given n entry.marks r _ (this_mark n r _ (record { removed = (let a = due.given in omega arith); owner = small; seen = alone_given n i small })) p;
        prunes = λ key entry shares r ticks due seen p. with_given n entry.marks r None (no_mark n r) p;
      }

-- A STEP

module _ {Kind Op Shown : Type 0} (D : Replication Kind Op Shown) (n : ℕ) where
  -- the entries of a message that comes
  abbrev pub InputGiven : Input Op → Type 0
  InputGiven (Take from message) = AllByRecursion (λ (e : Keyed (Entry Op)). MarksGiven n e.item) (entries_in message)
  InputGiven _ = ⊤

  brings : (node : Node Kind Op Shown) → node.identity < n → (input : Input Op) → InputGiven input → BringsInput D (λ key. MarksGiven n) (λ key. MarksGiven n) (λ key group. ⊤) AnyTick node input
  brings node small (Take from message) given = λ member. record { entries = given; groups = all_trivial (groups_in message) }
  brings node small (Install view) given = λ later key entry p. seen_by_given n node.identity view.number small entry p
  brings node small PruneTick given = λ key r. tt
  brings node small _ given = tt

  pub step_given : (node : Node Kind Op Shown) (input : Input Op) (fate : Fate) → node.identity < n → node.view.given ≤ n → InputGiven input → ((key : Text) → MarksGiven n (node.entries key)) → (key : Text) → MarksGiven n ((step D node input fate).node.entries key)
  step_given node input fate small late given before =
      keeps_any D (λ key. MarksGiven n) (λ key. MarksGiven n) (λ key group. ⊤) AnyTick node (names_kept n node.identity node.view small late) input fate (brings node small input given) before

-- RUNS

module _ {Kind Op Shown : Type 0} (D : Replication Kind Op Shown) where
  -- all marks of a message's entries name identities below this number
  abbrev MessageGiven : ℕ → Message Op → Type 0
  MessageGiven n message = AllByRecursion (λ (e : Keyed (Entry Op)). MarksGiven n e.item) (entries_in message)

  -- all marks of the world name identities that were given
  record HasNames (world : World Kind Op Shown) : Type 0 where
    pub held : (t : ℕ) (node : Node Kind Op Shown) → world.nodes t ≡ Some node → (key : Text) → MarksGiven world.view.given (node.entries key)
    pub sent : (from to index : ℕ) (message : Message Op) → message_at world from to index ≡ Some message → MessageGiven world.view.given message
    pub stored : (place : ℕ) (key : Text) (entry : Entry Op) → world.stores place key ≡ Some entry → MarksGiven world.view.given entry

  message_later : (n m : ℕ) → n ≤ m → (message : Message Op) → MessageGiven n message → MessageGiven m message
  message_later n m h message given = all_both _ _ (λ (e : Keyed (Entry Op)). MarksGiven m e.item) (λ e p q. marks_later n m h e.item p) (entries_in message) given given

  -- what a new member loads
  loaded_given : (n i : ℕ) (view : View) (store : Store Op) → i < n → AllStored (λ key. MarksGiven n) store → (o : Option (KeyDecl Kind)) → MarksGiven n (loaded_entry i view store o)
  loaded_given n i view store small all None = empty_given Op n
  loaded_given n i view store small all (Some key) =
      let found = unwrap_or (store key.name) empty_entry in
      if_holds (MarksGiven n) key.durable (seen_by i view.number found) empty_entry
      (seen_by_given n i view.number small found (found_stored (λ key. MarksGiven n) store key.name (empty_given Op n) all)) (empty_given Op n)

  -- AN EVENT

  module _ (variables : HistoryVariables Op) (world next : World Kind Op Shown) (has : HasViews D variables world) (follows : Follows D world next) (names : HasNames world) where
    abbrev before : ℕ
    before = world.view.given

    abbrev after : ℕ
    after = next.view.given

    later : before ≤ after
    later = go follows.views
      where
        go : ViewsAfter D world next → before ≤ after
        go (SameViews e v) = let a : after ≡ before = ap (λ (x : View). x.given) v in omega arith
        go (NextViews e n) = n.given

    brought : (t : ℕ) (input : Input Op) → IsGiven D world t input → InputGiven D before input
    brought t (Take from message) comes =
        part_entries (λ (e : Keyed (Entry Op)). MarksGiven before e.item) comes.2 comes.1 message comes.4 (names.sent from t comes.0 comes.1 comes.3)
    brought t _ comes = tt

    -- a running member was given, and its view is no later than the last
    small : (t : ℕ) (node : Node Kind Op Shown) → world.nodes t ≡ Some node → node.identity < before
    small t node runs = let well = has.running t node runs in let a = last_given D variables world next has follows t well.last in let b = well.identity in omega arith

    view_small : (t : ℕ) (node : Node Kind Op Shown) → world.nodes t ≡ Some node → node.view.given ≤ before
    view_small t node runs =
        let well = has.running t node runs in
        has.views.given node.view.number world.view.number node.view world.view (let a = has.installed t in let b = well.installed in omega arith) well.viewed has.views.listed

    store_given : (t : ℕ) (store : Store Op) → IsStoreFor D world next t store → AllStored (λ key. MarksGiven after) store
    store_given t store (Emptied nothing empty) = subst (AllStored (λ key. MarksGiven after)) (sym nothing) (λ key entry e. absurd (cc e))
    store_given t store (Reloaded i there place is) =
        subst (AllStored (λ key. MarksGiven after)) (sym is) (λ key entry e. marks_later before after later entry (names.stored (place_of world.view i) key entry e))

    held_given : (t : ℕ) (new : Node Kind Op Shown) → NodeAfter D world next t new → (key : Text) → MarksGiven after (new.entries key)
    held_given t new (Same was stays) key = marks_later before after later (new.entries key) (names.held t new was key)
    held_given t new (Stepped old input fate was comes is views) key =
        marks_later before after later (new.entries key)
        (subst (λ (x : Node Kind Op Shown). MarksGiven before (x.entries key)) (sym is)
        (step_given D before old input fate (small t old was) (view_small t old was) (brought t input comes) (names.held t old was) key))
    held_given t new (Started store is given member made from) key =
        subst (λ (x : Node Kind Op Shown). MarksGiven after (x.entries key)) (sym made)
        (loaded_given after t next.view store (omega arith) (store_given t store from) _)

    sent_given : (from to : ℕ) (message : Message Op) → MessageAfter D world next from to message → MessageGiven after message
    sent_given from to message (OldMessage index is) = message_later before after later message (names.sent from to index message is)
    sent_given from to message (NewMessage new runs is_from) =
        all_both (λ (e : Keyed (Entry Op)). e.item ≡ new.entries e.key) (λ (e : Keyed (Entry Op)). e.item ≡ new.entries e.key) (λ (e : Keyed (Entry Op)). MarksGiven after e.item)
        (λ e p q. subst (MarksGiven after) (sym p) (held_given from new (follows.nodes from new runs) e.key)) (entries_in message) is_from.entries is_from.entries

    stored_given : (place : ℕ) (key : Text) (entry : Entry Op) → StoredAfter D world next place key entry → MarksGiven after entry
    stored_given place key entry (OldStored is) = marks_later before after later entry (names.stored place key entry is)
    stored_given place key entry (NewStored i new runs at_place views item) = subst (MarksGiven after) (sym item) (held_given i new (follows.nodes i new runs) key)

    names_follow : HasNames next
    names_follow =
        record {
          held = λ t new runs. held_given t new (follows.nodes t new runs);
          sent = λ from to index message is. sent_given from to message (follows.messages from to index message is);
          stored = λ place key entry is. stored_given place key entry (follows.stored place key entry is);
        }

  -- A RUN

  run_names : (variables : HistoryVariables Op) (world : World Kind Op Shown) (events : List (Event Op)) → AreLawful D world events → HasViews D variables world → HasNames world → HasNames (run D world events)
  run_names variables world [] lawful has names = names
  run_names variables world (event ∷ events) lawful has names =
      let next = happens D world event in
      let views = has.views in
      let follows = event_follows D world (λ t m. views.below world.view.number world.view t views.listed m) (views.rising world.view.number world.view views.listed) event lawful.0 in
      run_names (noted variables next) next events lawful.1 (views_follow D variables world next has follows) (names_follow variables world next has follows names)

  module _ (members : ℕ) (keys : List (KeyDecl Kind)) where
    abbrev first : World Kind Op Shown
    first = start members keys

    no_message : (index : ℕ) (message : Message Op) → slice_get {X = Message Op} [] index ≡ Some message → ⊥
    no_message index message e = cc e

    -- a first member has no marks at all
    first_entry : (n i : ℕ) (o : Option (KeyDecl Kind)) → MarksGiven {Op = Op} n (loaded_entry i (first_view members) no_entries o)
    first_entry n i None = empty_given Op n
    first_entry n i (Some key) =
        if_holds (MarksGiven {Op = Op} n) key.durable (seen_by i 0 empty_entry) empty_entry (λ r mark e. absurd (cc e)) (empty_given Op n)

    first_names : HasNames first
    first_names = record { held = λ t node e. at_start t node (nat_lt t members) e; sent = λ from to index message e. absurd (no_message index message e); stored = λ place key entry e. absurd (cc e) }
      where
        at_start : (t : ℕ) (node : Node Kind Op Shown) (b : Bool) → (if b then Some (loaded_node keys t (first_view members) no_entries) else None) ≡ Some node → (key : Text) → MarksGiven members (node.entries key)
        at_start t node true e key =
            let same : loaded_node keys t (first_view members) no_entries ≡ node = cc e in
            subst (λ (x : Node Kind Op Shown). MarksGiven members (x.entries key)) same (first_entry members t _)
        at_start t node false e key = absurd (cc e)

    module _ (events : List (Event Op)) (world : World Kind Op Shown) (is_run : IsRun D members keys events world) where
      first_views : HasViews D (noted nothing_noted first) first
      first_views = (runs_are_safe D members keys [] first (record { some = is_run.some; few = is_run.few; lawful = tt; leads = refl })).views

      last_names : HasNames world
      last_names = subst HasNames (sym is_run.leads) (run_names (noted nothing_noted first) first events is_run.lawful first_views first_names)

      logs : HasLogs (variables_of D first events).made world
      logs = (runs_are_safe D members keys events world is_run).logs

      -- who is counted was given: the logs have nothing of another
      counted_given : (place : ℕ) (key : Text) (entry : Entry Op) → world.stores place key ≡ Some entry → (i : ℕ) → 0 < at entry.history i → i < world.view.given
      counted_given place key entry is i some = elim (cases_lt i world.view.given) [
        | inl early ↦ early
        | inr late ↦ absurd (
            let a = part-le entry.history _ (logs.stored place key entry is).part i in
            let b = logs.fresh key i late in omega arith)
      ]

      pub stored_names : (place : ℕ) (key : Text) (entry : Entry Op) → world.stores place key ≡ Some entry → NamesGiven world.view.given entry
      stored_names place key entry is =
          let marks = last_names.stored place key entry is in
          record {
            counted = counted_given place key entry is;
            marked = λ r mark e. let g = marks r mark e in (g.removed, g.owner);
            seen = λ r mark i e s. (marks r mark e).seen i s;
          }

      pub stored_durable : (place : ℕ) (key : Text) (entry : Entry Op) → world.stores place key ≡ Some entry → IsDeclared world.keys key
      stored_durable place key entry is = subst (λ ks. IsDeclared ks key) (sym (run_keys D keys members events world is_run)) (run_stores_declared D keys members events world is_run place key entry is)

-- WHAT A NEW MEMBER MAY LOAD

-- what a mapped list has somewhere, the list has where it is mapped from
any_from_map : {X Y : Type 0} (P : Y → Type 0) (f : X → Y) (xs : List X) → Any P (map f xs) → Any (λ x. P (f x)) xs
any_from_map P f [] (k, y, less, is, p) = absurd (omega arith)
any_from_map P f (x ∷ xs) (zero, y, less, is, p) = (0, x, omega arith, refl, subst P (sym is) p)
any_from_map P f (x ∷ xs) (suc k, y, less, is, p) =
    let r = any_from_map P f xs (k, y, omega arith, is, p) in let h = r.2 in (suc r.0, r.1, omega (arith, h), r.3, r.4)

-- the new identity is the next one
next_earlier : (n id given i : ℕ) → id ≡ n → n < given → i < n → IsEarlier id given i
next_earlier n id given i is more small = record { below = omega arith; other = λ same. absurd (omega arith) }

pub names_fit : {Op : Type 0} (n id given : ℕ) → id ≡ n → n < given → (entry : Entry Op) → NamesGiven n entry → IsFit id given entry
names_fit n id given is more entry names =
    record {
      counted = λ i some. next_earlier n id given i is more (names.counted i some);
      marked = λ r mark e. let g = names.marked r mark e in (next_earlier n id given r is more g.0, next_earlier n id given mark.owner is more g.1);
      seen = λ r mark i e s. next_earlier n id given i is more (names.seen r mark i e s);
    }

-- a durable key that the code's keys declare is durable there
pub durable_state : {T Kind Op Delta : Type 0} (states : List (CodeState T Kind Op Delta)) (key : Text) → IsDeclared (map declared_by states) key → IsDurable states key
durable_state states key has = any_from_map (λ (decl : KeyDecl _). (decl.name ≡ key) × (decl.durable ≡ true)) declared_by states has

module _ {Kind Op Shown : Type 0} (D : Replication Kind Op Shown) (members : ℕ) (decls : List (KeyDecl Kind)) (events : List (Event Op)) (world : World Kind Op Shown) (is_run : IsRun D members decls events world) where
  -- each store is fit for a member with the next identity, whose keys are the world's
  pub stores_fit : {T Delta : Type 0} (states : List (CodeState T Kind Op Delta)) → world.keys ≡ map declared_by states → (id given : ℕ) → id ≡ world.view.given → world.view.given < given → (place : ℕ) → AreFit states id given (world.stores place)
  stores_fit states same id given is more place = λ key entry has. (
    durable_state states key (subst (λ keys. IsDeclared keys key) same (stored_durable D members decls events world is_run place key entry has)),
    names_fit world.view.given id given is more entry (stored_names D members decls events world is_run place key entry has),
  )
