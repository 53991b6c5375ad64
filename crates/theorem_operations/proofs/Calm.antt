-- While membership stays unchanged: views stay, and what a member has of a record it keeps. What it takes of a write or an answer it has.
use Rattle.std.proofs.Common.{◌≡◌, ℕ, ◌<◌, ◌≤◌, List, [], ◌∷◌, length, refl, sym, ap, subst, ◌∙◌, arith, true, false, Option, Some, None}
use Rattle.std.specs.Prelude.{if◌then◌else◌, slice_get, nat_lt, nat_le, find, ◌&&◌, ◌||◌}
use Rattle.std.specs.List.{AllByRecursion}
use Rattle.std.specs.Str.{bytes_eq}
use Rattle.std.proofs.lemmas.Bool.{lt-ltb, le-ltb}
use Rattle.model_history.specs.Texts.{Text}
use Rattle.model_history.specs.Table.{identity_limit, identities}
use Rattle.model_history.specs.Vector.{members_of}
use Rattle.model_history.specs.History.{Record, at, is_pruned, HasRecord}
use Rattle.model_history.proofs.HistoryLaws.{with_at_same, at-union}
use Rattle.model_history.proofs.PruneLaws.{IsIn, found, at_identities}
use Rattle.model_history.proofs.PartLaws.{in_part, in_whole}
use Rattle.model_members.specs.View.{View, is_member}
use Rattle.model_members.specs.Entry.{Entry, has_records, merged, seen_by}
use Rattle.model_members.specs.DataType.{Replication}
use Rattle.model_members.specs.Message.{Message, entries_in}
use Rattle.model_members.specs.Message.Message.{Write, ReadAnswer}
use Rattle.model_members.specs.Node.{KeyDecl, Node, OpenOperation, Input, Fate, Stepped, HasKey, one_step_later}
use Rattle.model_members.specs.Node.Input.{Take, Install}
use Rattle.model_members.specs.Node.Reply.{NotFromMember}
use Rattle.model_members.specs.Step.{step, step_of_take, answered, with_answer, after_entries, is_entry_passed_over, is_answered_by, took}
use Rattle.model_members.specs.World.{World, Event, happens, run, message_at, views_of, IsLawful, AreLawful, IsGiven}
use Rattle.model_members.specs.World.Event.{InputAt}
use Rattle.model_members.proofs.Steps.{bytes_eq-same}
use Rattle.model_members.proofs.Taking.{after_entries-at}
use Rattle.model_members.proofs.Cases.{counted_for, stepped_at}
use Rattle.theorem_runs.proofs.Keeping.{if_holds, same_text}
use Rattle.theorem_runs.proofs.Stepping.{HasView, moves}
use Rattle.theorem_runs.proofs.Stepping.HasView.{SameView, NewView}
use Rattle.theorem_runs.proofs.Growth.{step_grows, step_no_fewer}
use Rattle.theorem_runs.proofs.Happening.{NodeAfter}
use Rattle.theorem_runs.proofs.Happening.NodeAfter.{Same, Stepped as MadeStep, Started}
use Rattle.theorem_runs.proofs.RunViews.{at_most_last}
use Rattle.theorem_runs.specs.Pruning.{HasEntry}
use Rattle.theorem_runs.specs.Pruning.HasEntry.{Sent}
use Rattle.theorem_runs.proofs.PassedOver.{no_more, unpruned}
use Rattle.theorem_operations.specs.Quorum.{KeepsMembers}
use Rattle.theorem_operations.proofs.Lists.{any_in}
use Rattle.theorem_operations.proofs.Moments.{Stands, safe_at, variables_at, stands_next, follows_at, view_stays}

module _ {Kind Op Shown : Type 0} (D : Replication Kind Op Shown) (members : ℕ) (keys : List (KeyDecl Kind)) where
  -- all running members have this view, which is the last
  pub record IsCalm (V : View) (world : World Kind Op Shown) : Type 0 where
    pub stands : Stands D members keys world
    pub view : world.view ≡ V
    pub installed : (t : ℕ) (node : Node Kind Op Shown) → world.nodes t ≡ Some node → node.view ≡ V

  -- a running member ran before, and may have made a step
  pub data Continues (world : World Kind Op Shown) (t : ℕ) (node : Node Kind Op Shown) : Type 0 where
    Unmoved : world.nodes t ≡ Some node → Continues world t node
    Moved : (old : Node Kind Op Shown) (input : Input Op) (fate : Fate) → world.nodes t ≡ Some old → IsGiven D world t input → (step D old input fate).node ≡ node → Continues world t node

  module _ (V : View) (world : World Kind Op Shown) (calm : IsCalm V world) (event : Event Op) (lawful : IsLawful D world event) (leaves : KeepsMembers event) where
    abbrev next : World Kind Op Shown
    next = happens D world event

    pub continues : (t : ℕ) (node : Node Kind Op Shown) → next.nodes t ≡ Some node → Continues world t node
    continues t node e = go ((follows_at D members keys world calm.stands event lawful).nodes t node e)
      where
        go : NodeAfter D world next t node → Continues world t node
        go (Same f stays) = Unmoved f
        go (MadeStep old input fate f comes is same) = Moved old input fate f comes (sym is)
        go (Started store is given member made from) = absurd (let a : next.view.given ≡ world.view.given = ap (λ (v : View). v.given) (view_stays D world event leaves) in omega arith)

    -- no later view is given
    no_later : (input : Input Op) (t : ℕ) (old : Node Kind Op Shown) (view : View) → world.nodes t ≡ Some old → IsGiven D world t input → input ≡ Install view → old.view.number < view.number → ⊥
    no_later input t old view runs given is later =
        let views = (safe_at D members keys world calm.stands).views.views in
        let g : (k : ℕ) × (slice_get (views_of world) k ≡ Some view) = subst (λ (x : Input Op). IsGiven D world t x) is given in
        let a = at_most_last (views_of world) world.view views g.0 view g.1 in
        let b = views.numbered g.0 view g.1 in
        let c : old.view.number ≡ world.view.number = ap (λ (v : View). v.number) (calm.installed t old runs ∙ sym calm.view) in
        omega arith

    pub calm_next : IsCalm V next
    calm_next =
        record {
          stands = stands_next D members keys world calm.stands event lawful;
          view = view_stays D world event leaves ∙ calm.view;
          installed = λ t node e. go t node (continues t node e);
        }
      where
        by_view : (t : ℕ) (old : Node Kind Op Shown) (input : Input Op) (fate : Fate) → world.nodes t ≡ Some old → IsGiven D world t input → HasView old input (step D old input fate).node → (step D old input fate).node.view ≡ V
        by_view t old input fate runs comes (SameView e) = e ∙ calm.installed t old runs
        by_view t old input fate runs comes (NewView view is later e) = absurd (no_later input t old view runs comes is later)

        go : (t : ℕ) (node : Node Kind Op Shown) → Continues world t node → node.view ≡ V
        go t node (Unmoved e) = calm.installed t node e
        go t node (Moved old input fate e comes is) = ap (λ (n : Node Kind Op Shown). n.view) (sym is) ∙ by_view t old input fate e comes (moves D old input fate).view

  -- A RECORD OF A KEY

  module _ (V : View) (decl : KeyDecl Kind) (key : Text) (i k : ℕ) (x : Record Op) where
    -- a running member that has the record, by its number
    abbrev pub HasIt : World Kind Op Shown → ℕ → Type 0
    HasIt world t = (node : Node Kind Op Shown) → world.nodes t ≡ Some node → k < at (node.entries key).history i

    -- the record has been made
    pub record IsMade (world : World Kind Op Shown) : Type 0 where
      pub calm : IsCalm V world
      pub declared : find (λ (d : KeyDecl Kind). bytes_eq d.name key) keys ≡ Some decl
      pub runs : is_member V i ≡ true
      pub made : (node : Node Kind Op Shown) → world.nodes i ≡ Some node → HasRecord (node.entries key).history i k x

    module _ (world : World Kind Op Shown) (made : IsMade world) where
      pub has_key : (t : ℕ) (node : Node Kind Op Shown) → world.nodes t ≡ Some node → HasKey node key decl.kind
      has_key t node e =
          let well = (safe_at D members keys world made.calm.stands).views.running t node e in
          let name : decl.name ≡ key = same_text decl.name key (found (λ (d : KeyDecl Kind). bytes_eq d.name key) keys decl made.declared) in
          (decl.durable, ap (find (λ (d : KeyDecl Kind). bytes_eq d.name key)) (well.keys ∙ made.calm.stands.same_keys) ∙ made.declared ∙ (λ j. Some (record { name = name j; kind = decl.kind; durable = decl.durable })))

      pub is_here : (t : ℕ) (node : Node Kind Op Shown) → world.nodes t ≡ Some node → node.identity ≡ t
      is_here t node e = ((safe_at D members keys world made.calm.stands).views.running t node e).identity

      -- who has as many records has this one
      pub has_record : (t : ℕ) (node : Node Kind Op Shown) → world.nodes t ≡ Some node → k < at (node.entries key).history i → HasRecord (node.entries key).history i k x
      has_record t node e more =
          let safe = safe_at D members keys world made.calm.stands in
          let variables = variables_at D members keys world made.calm.stands in
          let writer = safe.views.all_run.runs i (ap (λ (v : View). is_member v i) made.calm.view ∙ made.runs) in
          let whole : HasRecord (variables.made key) i k x = ap (λ (rs : List (Record Op)). slice_get rs k) (sym (safe.logs.own i writer.0 key writer.1)) ∙ made.made writer.0 writer.1 in
          in_part (node.entries key).history (variables.made key) (safe.logs.held t node key e).part i k x more whole

      pub i_is_small : i < identity_limit
      i_is_small =
          let safe = safe_at D members keys world made.calm.stands in
          let writer = safe.views.all_run.runs i (ap (λ (v : View). is_member v i) made.calm.view ∙ made.runs) in
          let a = safe.logs.few in let b = safe.logs.given i writer.0 writer.1 in omega arith

      pub has_some : (entry : Entry Op) → k < at entry.history i → has_records entry ≡ true
      has_some entry more = any_in (λ j. nat_lt 0 (at entry.history j)) identities i (at_identities i i_is_small) (lt-ltb 0 (at entry.history i) (omega arith))

      -- what a member takes of an entry it has
      pub takes : (from t index : ℕ) (message : Message Op) (node : Node Kind Op Shown) (entry : Entry Op) → message_at world from t index ≡ Some message → IsIn (entries_in message) (record { key = key; item = entry })
          → world.nodes t ≡ Some node → is_member node.view from ≡ true → at entry.history i ≤ at ((after_entries (one_step_later node) (record { key = key; item = entry } ∷ [])).entries key).history i
      takes from t index message node entry sent has e member =
          let safe = safe_at D members keys world made.calm.stands in
          let variables = variables_at D members keys world made.calm.stands in
          let there : HasEntry world key entry = Sent from t index node message e member sent has in
          let fewer = no_more D variables world safe t node e key entry there in
          let ordinary : is_entry_passed_over node.identity (node.entries key) entry ≡ false =
          ap (λ j. is_entry_passed_over j (node.entries key) entry) (is_here t node e)
          ∙ ap (λ b. b || is_pruned entry.history t) (le-ltb (at (node.entries key).history t) (at entry.history t) fewer)
          ∙ unpruned D variables world safe t node e key entry there in
          let seen = seen_by node.identity node.view.number (merged (node.entries key) entry) in
          let after : (after_entries (one_step_later node) (record { key = key; item = entry } ∷ [])).entries key ≡ seen =
          after_entries-at (record { key = key; item = entry } ∷ []) (one_step_later node) key decl.kind (has_key t node e)
          ∙ ap (λ b. if b then (if is_entry_passed_over node.identity (node.entries key) entry then node.entries key else seen) else node.entries key) (bytes_eq-same key)
          ∙ ap (λ b. if b then node.entries key else seen) ordinary in
          let count : at ((after_entries (one_step_later node) (record { key = key; item = entry } ∷ [])).entries key).history i ≡ at seen.history i = ap (λ (e : Entry Op). at e.history i) after in
          let union = at-union (node.entries key).history entry.history i in
          omega arith

    module _ (world : World Kind Op Shown) (made : IsMade world) (event : Event Op) (lawful : IsLawful D world event) (leaves : KeepsMembers event) where
      pub held_next : (t : ℕ) → HasIt world t → HasIt (happens D world event) t
      held_next t has node e = go (continues V world made.calm event lawful leaves t node e)
        where
          go : Continues world t node → k < at (node.entries key).history i
          go (Unmoved f) = has node f
          go (Moved old input fate f comes is) =
              let a = has old f in
              let b = step_no_fewer D old input fate key i in
              let c : at ((step D old input fate).node.entries key).history i ≡ at (node.entries key).history i = ap (λ (n : Node Kind Op Shown). at (n.entries key).history i) is in
              omega arith

      pub made_next : IsMade (happens D world event)
      made_next =
          record {
            calm = calm_next V world made.calm event lawful leaves;
            declared = made.declared;
            runs = made.runs;
            made = λ node e. go node (continues V world made.calm event lawful leaves i node e);
          }
        where
          go : (node : Node Kind Op Shown) → Continues world i node → HasRecord (node.entries key).history i k x
          go node (Unmoved f) = made.made node f
          go node (Moved old input fate f comes is) =
              subst (λ (n : Node Kind Op Shown). HasRecord (n.entries key).history i k x) is
              (in_whole (old.entries key).history ((step D old input fate).node.entries key).history (step_grows D old input fate key) i k x (made.made old f))

  -- WHAT STEPS DO WITH A WRITE AND AN ANSWER

  module _ (node : Node Kind Op Shown) (from : ℕ) (member : is_member node.view from ≡ true) (fate : Fate) where
    pub step_write : (op : ℕ) (key : Text) (entry : Entry Op) → (step D node (Take from (Write op key entry)) fate).node ≡ after_entries (one_step_later node) (record { key = key; item = entry } ∷ [])
    step_write op key entry = ap (λ b. (if b then step_of_take D (one_step_later node) from fate (Write op key entry) else answered (one_step_later node) NotFromMember).node) member

    counted_entries : (s : Stepped Kind Op Shown) (o : Option OpenOperation) → (counted_for D s from o).node.entries ≡ s.node.entries
    counted_entries s None = refl
    counted_entries s (Some operation) = if_holds (λ (z : Stepped Kind Op Shown). z.node.entries ≡ s.node.entries) (nat_le operation.needed (length (members_of (with_answer from operation).counted))) _ _ refl refl

    pub step_answer : (op : ℕ) (key : Text) (entry : Entry Op) → (step D node (Take from (ReadAnswer op key (Some entry))) fate).node.entries ≡ (after_entries (one_step_later node) (record { key = key; item = entry } ∷ [])).entries
    step_answer op key entry =
        ap (λ b. (if b then step_of_take D (one_step_later node) from fate (ReadAnswer op key (Some entry)) else answered (one_step_later node) NotFromMember).node.entries) member
        ∙ counted_entries (took D (one_step_later node) (after_entries (one_step_later node) (record { key = key; item = entry } ∷ [])) fate [] [])
        (find (λ (o : OpenOperation). is_answered_by true op o && bytes_eq o.key key) (after_entries (one_step_later node) (record { key = key; item = entry } ∷ [])).open_operations)

  -- the member after an input
  pub input_makes : (world : World Kind Op Shown) (i : ℕ) (node : Node Kind Op Shown) (input : Input Op) (fate : Fate) → world.nodes i ≡ Some node → (happens D world (InputAt i input fate)).nodes i ≡ Some (step D node input fate).node
  input_makes world i node input fate e = ap (λ o. (stepped_at D world i o input fate).nodes i) e ∙ with_at_same world.nodes i (Some (step D node input fate).node)

  -- what holds of a run while membership stays unchanged
  pub runs_on : (P : World Kind Op Shown → Type 0) → ((world : World Kind Op Shown) (event : Event Op) → P world → IsLawful D world event → KeepsMembers event → P (happens D world event))
      → (world : World Kind Op Shown) (events : List (Event Op)) → P world → AreLawful D world events → AllByRecursion KeepsMembers events → P (run D world events)
  runs_on P goes_on world [] p lawful leaves = p
  runs_on P goes_on world (event ∷ events) p lawful leaves = runs_on P goes_on (happens D world event) events (goes_on world event p lawful.0 leaves.0) lawful.1 leaves.1
