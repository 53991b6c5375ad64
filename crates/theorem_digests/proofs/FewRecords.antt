-- In every run, records and views are few enough to be told by numbers of eight and four bytes: each member makes at most 2^54 steps, in each of which it makes at most as many records of a key as there are identities, and each identity is given and removed at most once.
use Rattle.std.proofs.Common.{◌≡◌, ◌≢◌, ℕ, ◌+◌, ◌*◌, ◌^◌, ◌≤◌, List, [], ◌∷◌, ◌++◌, length, map, refl, sym, ap, subst, ◌∙◌, arith, Bool, true, false, Option, Some, None, inl, inr, append_assoc, length-append}
use Rattle.std.specs.Prelude.{if◌then◌else◌, filter, not, ◌==◌, ◌||◌, nat_lt}
use Rattle.std.specs.List.{list_any}
use Rattle.std.proofs.lemmas.Bool.Decides.{eqb_tells}
use Rattle.std.proofs.lemmas.List.FromFn.{length-map-range_with_len}
use Rattle.model_history.specs.Texts.{Text}
use Rattle.model_history.specs.Table.{identity_limit, with_at}
use Rattle.model_history.specs.History.{at, no_records}
use Rattle.model_history.proofs.HistoryLaws.{with_at_same, with_at_other, append_nothing}
use Rattle.model_history.proofs.PartLaws.{part-le}
use Rattle.model_members.specs.View.{View, Member, first_view, place_of}
use Rattle.model_members.specs.Entry.{Entry, Mark}
use Rattle.model_members.specs.DataType.{Replication}
use Rattle.model_members.specs.Node.{KeyDecl, Node, Input, Fate}
use Rattle.model_members.specs.Node.Input.{Take}
use Rattle.model_members.specs.Step.{step}
use Rattle.model_members.specs.World.{World, Event, start, run, happens, loaded_node, no_entries, moved_on, views_of, IsLawful, AreLawful, StepsAt, IsRun}
use Rattle.model_members.specs.World.Event.{InputAt, Delivery, Loss, Removal, Joining, Restart}
use Rattle.model_members.proofs.Cases.{stepped_at, delivered}
use Rattle.theorem_runs.specs.Pruning.{HistoryVariables, noted, nothing_noted, own_records, variables_from, variables_of}
use Rattle.theorem_runs.proofs.AgreementOverRuns.{start_has}
use Rattle.theorem_runs.proofs.Happening.{NodeAfter, Follows, event_follows}
use Rattle.theorem_runs.proofs.Happening.NodeAfter.{Same, Stepped, Started}
use Rattle.theorem_runs.proofs.RunViews.{at_most_last}
use Rattle.theorem_runs.proofs.Safety.{IsSafe, runs_are_safe}
use Rattle.theorem_runs.proofs.StoredParts.{LoadedFrom, loaded_from}
use Rattle.theorem_runs.proofs.StoredParts.LoadedFrom.{LoadedEmpty, LoadedStored}
use Rattle.theorem_operations.proofs.Moments.{view_stays, lawful_first, lawful_rest, pushed_run}
use Rattle.theorem_operations.proofs.Operations.{step_tells}
use Rattle.theorem_digests.specs.Digests.{MakesFewSteps}
use Rattle.theorem_digests.proofs.OwnRecords.{own_after, filter_le}

-- the most records that an identity makes of a key
abbrev pub most_records : ℕ
most_records = identity_limit * 2 ^ 54

-- members that make so many steps make few
pub makes_few : {Kind Op Shown : Type 0} (D : Replication Kind Op Shown) → D.most_steps ≡ 16384 → MakesFewSteps D
makes_few D e = omega arith

-- an entry with few records and marks of early views
pub record IsSmall {Op : Type 0} (entry : Entry Op) : Type 0 where
  pub records : (i : ℕ) → at entry.history i ≤ most_records
  pub views : (r : ℕ) (mark : Mark) → entry.marks r ≡ Some mark → mark.view ≤ 2 * identity_limit

-- VIEWS

-- each view but the first took a member away or gave an identity
abbrev AreFewViews : View → Type 0
AreFewViews view = view.number + length view.members ≤ 2 * view.given

-- one fewer is left
left_fewer : (i : ℕ) (ms : List Member) → list_any (λ j. j == i) (map (λ (m : Member). m.identity) ms) ≡ true → length (filter (λ (m : Member). not (m.identity == i)) ms) + 1 ≤ length ms
left_fewer i [] e = absurd (cc e)
left_fewer i (m ∷ ms) e = by (m.identity == i) e (left_fewer i ms)
  where
    by : (b : Bool) → (b || list_any (λ j. j == i) (map (λ (n : Member). n.identity) ms)) ≡ true → (list_any (λ j. j == i) (map (λ (n : Member). n.identity) ms) ≡ true → length (filter (λ (n : Member). not (n.identity == i)) ms) + 1 ≤ length ms)
        → length (if not b then m ∷ filter (λ (n : Member). not (n.identity == i)) ms else filter (λ (n : Member). not (n.identity == i)) ms) + 1 ≤ length (m ∷ ms)
    by true e later = let a = filter_le (λ (n : Member). not (n.identity == i)) ms in omega arith
    by false e later = let a = later e in omega arith

module _ {Kind Op Shown : Type 0} (D : Replication Kind Op Shown) (few_steps : MakesFewSteps D) where
  views_follow : (world : World Kind Op Shown) (event : Event Op) → IsLawful D world event → AreFewViews world.view → AreFewViews (happens D world event).view
  views_follow world (InputAt i input fate) lawful few = subst AreFewViews (sym (view_stays D world (InputAt i input fate) tt)) few
  views_follow world (Delivery from to index fate) lawful few = subst AreFewViews (sym (view_stays D world (Delivery from to index fate) tt)) few
  views_follow world (Loss from to) lawful few = few
  views_follow world (Removal i) lawful few = let a = left_fewer i world.view.members lawful.0 in omega arith
  views_follow world (Joining place) lawful few = let a = length-append world.view.members (record { identity = world.view.given; place = place } ∷ []) in omega arith
  views_follow world (Restart i) lawful few =
      let left = filter (λ (m : Member). not (m.identity == i)) world.view.members in
      let a = filter_le (λ (m : Member). not (m.identity == i)) world.view.members in
      let b = length-append left (record { identity = world.view.given; place = place_of world.view i } ∷ []) in
      omega arith

  -- STEPS

  abbrev AreWithin : (ℕ → Option (Node Kind Op Shown)) → Type 0
  AreWithin nodes = (t : ℕ) (node : Node Kind Op Shown) → nodes t ≡ Some node → node.steps ≤ D.most_steps

  set_node : (nodes : ℕ → Option (Node Kind Op Shown)) (i : ℕ) (o : Option (Node Kind Op Shown)) → AreWithin nodes → ((node : Node Kind Op Shown) → o ≡ Some node → node.steps ≤ D.most_steps) → AreWithin (with_at nodes i o)
  set_node nodes i o all here t node e = elim (eqb_tells t i) [
    | inl is ↦ here node (sym (ap (with_at nodes i o) is.1 ∙ with_at_same nodes i o) ∙ e)
    | inr isnt ↦ all t node (sym (with_at_other nodes i o t isnt.1) ∙ e)
  ]

  -- a new member has made no step
  fresh : (loaded node : Node Kind Op Shown) → loaded.steps ≡ 0 → ◌≡◌ {A = Option (Node Kind Op Shown)} (Some loaded) (Some node) → node.steps ≤ D.most_steps
  fresh loaded node none e = let same : loaded ≡ node = cc e in let a : loaded.steps ≡ node.steps = ap (λ (n : Node Kind Op Shown). n.steps) same in omega arith

  -- who made a step was not full
  not_past : (world : World Kind Op Shown) (i : ℕ) (input : Input Op) (fate : Fate) (at_step : StepsAt D world i input fate) → AreWithin world.nodes → (node : Node Kind Op Shown) → ◌≡◌ {A = Option (Node Kind Op Shown)} (Some (step D at_step.node input fate).node) (Some node) → node.steps ≤ D.most_steps
  not_past world i input fate at_step all node e =
      let same : (step D at_step.node input fate).node ≡ node = cc e in
      let a : (step D at_step.node input fate).node.steps ≡ node.steps = ap (λ (n : Node Kind Op Shown). n.steps) same in
      let b = (step_tells D at_step.node input fate).steps in
      let c = all i at_step.node at_step.runs in
      let d : at_step.node.steps ≢ D.most_steps = (λ full. elim (eqb_tells at_step.node.steps D.most_steps) [ inl is ↦ (let f = sym at_step.has_room ∙ is.0 in cc f) | inr isnt ↦ isnt.1 full ]) in
      omega arith

  steps_follow : (world : World Kind Op Shown) (event : Event Op) → IsLawful D world event → AreWithin world.nodes → AreWithin (happens D world event).nodes
  steps_follow world (InputAt i input fate) lawful all =
      subst (λ o. AreWithin (stepped_at D world i o input fate).nodes) (sym lawful.1.runs)
      (set_node world.nodes i (Some (step D lawful.1.node input fate).node) all (not_past world i input fate lawful.1 all))
  steps_follow world (Delivery from to index fate) lawful all =
      subst (λ m. AreWithin (delivered D world from to index m fate).nodes) (sym lawful.1)
      (subst (λ o. AreWithin (stepped_at D (record world { links = moved_on world.links from to index }) to o (Take from lawful.0) fate).nodes) (sym lawful.2.runs)
      (set_node world.nodes to (Some (step D lawful.2.node (Take from lawful.0) fate).node) all (not_past world to (Take from lawful.0) fate lawful.2 all)))
  steps_follow world (Loss from to) lawful all = all
  steps_follow world (Removal i) lawful all = set_node world.nodes i None all (λ node e. absurd (cc e))
  steps_follow world (Joining place) lawful all = set_node world.nodes _ _ all (λ node e. fresh _ node refl e)
  steps_follow world (Restart i) lawful all = set_node (with_at world.nodes i None) _ _ (set_node world.nodes i None all (λ node e. absurd (cc e))) (λ node e. fresh _ node refl e)

  -- EACH MOMENT OF A RUN

  record AreFew (variables : HistoryVariables Op) (world : World Kind Op Shown) : Type 0 where
    views : AreFewViews world.view
    steps : AreWithin world.nodes
    own : (key : Text) (t : ℕ) (node : Node Kind Op Shown) → world.nodes t ≡ Some node → at (node.entries key).history t ≤ identity_limit * node.steps
    made : (key : Text) (i : ℕ) → at (variables.made key) i ≤ most_records

  module _ (variables : HistoryVariables Op) (world : World Kind Op Shown) (safe : IsSafe D variables world) (event : Event Op) (lawful : IsLawful D world event) (few : AreFew variables world) where
    abbrev next : World Kind Op Shown
    next = happens D world event

    follows : Follows D world next
    follows =
        let views = safe.views.views in
        let last = world.view in
        event_follows D world (λ t m. views.below last.number last t views.listed m) (views.rising last.number last views.listed) event lawful

    own_then : (key : Text) (t : ℕ) (new : Node Kind Op Shown) → NodeAfter D world next t new → at (new.entries key).history t ≤ identity_limit * new.steps
    own_then key t new (Same was stays) = few.own key t new was
    own_then key t new (Stepped old input fate was comes is same_view) =
        let well = safe.views.running t old was in
        let views = safe.views.views in
        let given : old.view.given ≤ identity_limit = (
        let a = views.given old.view.number world.view.number old.view world.view (at_most_last (views_of world) world.view views old.view.number old.view well.viewed) well.viewed views.listed in
        let b : world.view.given ≤ identity_limit = safe.logs.few in omega arith) in
        let a = (own_after D t (λ k. identity_limit * old.steps) old input fate given (record { identity = well.identity; own = λ k. few.own k t old was })).own key in
        let b : at (new.entries key).history t ≡ at ((step D old input fate).node.entries key).history t = ap (λ (n : Node Kind Op Shown). at (n.entries key).history t) is in
        let c : new.steps ≡ (step D old input fate).node.steps = ap (λ (n : Node Kind Op Shown). n.steps) is in
        let d = (step_tells D old input fate).steps in
        omega arith
    own_then key t new (Started store is given member made from) = by_load (loaded_from D variables world next safe.views follows t new store given made from key)
      where
        by_load : LoadedFrom D world next t key (new.entries key) → at (new.entries key).history t ≤ identity_limit * new.steps
        by_load (LoadedEmpty empty none) = let a : at (new.entries key).history t ≡ 0 = ap (λ (e : Entry Op). at e.history t) empty in omega arith
        by_load (LoadedStored j node stored was durable place there loaded) =
            let a : at (new.entries key).history t ≡ at stored.history t = ap (λ (e : Entry Op). at e.history t) loaded in
            let b = part-le stored.history (variables.made key) (safe.logs.stored _ key stored there).part t in
            let c = safe.logs.fresh key t (let h = is in omega arith) in
            omega arith

    made_then : (key : Text) (i : ℕ) (o : Option (Node Kind Op Shown)) → next.nodes i ≡ o → length (own_records o key i (variables.made key i)) ≤ most_records
    made_then key i None runs = few.made key i
    made_then key i (Some node) runs =
        let a = own_then key i node (follows.nodes i node runs) in
        let b = steps_follow world event lawful few.steps i node runs in
        let c = few_steps in
        omega arith

    few_follow : AreFew (noted variables next) next
    few_follow = record {
      views = views_follow world event lawful few.views;
      steps = steps_follow world event lawful few.steps;
      own = λ key t node runs. own_then key t node (follows.nodes t node runs);
      made = λ key i. made_then key i (next.nodes i) refl;
    }

  -- EVERY RUN

  module _ (members : ℕ) (keys : List (KeyDecl Kind)) (some : 1 ≤ members) (few : members ≤ identity_limit) where
    abbrev first : World Kind Op Shown
    first = start members keys

    none_held : (key : Text) (t : ℕ) (node : Node Kind Op Shown) → first.nodes t ≡ Some node → at (node.entries key).history t ≡ 0
    none_held key t node runs = let a = part-le (node.entries key).history no_records ((start_has D members keys few).held t node key runs).part t in omega arith

    few_first : AreFew (variables_of D first []) first
    few_first = record {
      views = let a : length (first_view members).members ≡ members = length-map-range_with_len (λ i. record { identity = i; place = i }) 0 members in omega arith;
      steps = λ t node e. by_test t (nat_lt t members) node e;
      own = λ key t node runs. let a = none_held key t node runs in omega arith;
      made = λ key i. made_first key i (first.nodes i) refl;
    }
      where
        by_test : (t : ℕ) (b : Bool) (node : Node Kind Op Shown) → (if b then Some (loaded_node {Op = Op} {Shown = Shown} keys t (first_view members) no_entries) else None) ≡ Some node → node.steps ≤ D.most_steps
        by_test t true node e = fresh _ node refl e
        by_test t false node e = absurd (cc e)

        made_first : (key : Text) (i : ℕ) (o : Option (Node Kind Op Shown)) → first.nodes i ≡ o → length (own_records o key i []) ≤ most_records
        made_first key i None runs = omega arith
        made_first key i (Some node) runs = let a = none_held key i node runs in omega arith

    pushed_variables : (variables : HistoryVariables Op) (world : World Kind Op Shown) (events : List (Event Op)) (event : Event Op)
        → variables_from D variables world (events ++ event ∷ []) ≡ noted (variables_from D variables world events) (happens D (run D world events) event)
    pushed_variables variables world [] event = refl
    pushed_variables variables world (e ∷ events) event = pushed_variables (noted variables (happens D world e)) (happens D world e) events event

    few_along : (done events : List (Event Op)) → AreLawful D first (done ++ events) → AreFew (variables_of D first done) (run D first done) → AreFew (variables_of D first (done ++ events)) (run D first (done ++ events))
    few_along done [] lawful are = subst (λ (es : List (Event Op)). AreFew (variables_of D first es) (run D first es)) (sym (append_nothing done)) are
    few_along done (event ∷ events) lawful are =
        let is_run : IsRun D members keys done (run D first done) = record { some = some; few = few; lawful = lawful_first D first done (event ∷ events) lawful; leads = refl } in
        let safe = runs_are_safe D members keys done (run D first done) is_run in
        let now = (lawful_rest D first done (event ∷ events) lawful).0 in
        let whole : (done ++ event ∷ []) ++ events ≡ done ++ event ∷ events = append_assoc done (event ∷ []) events in
        subst (λ (es : List (Event Op)). AreFew (variables_of D first es) (run D first es)) whole
        (few_along (done ++ event ∷ []) events (subst (λ (es : List (Event Op)). AreLawful D first es) (sym whole) lawful)
        (subst (λ (v : HistoryVariables Op). AreFew v (run D first (done ++ event ∷ []))) (sym (pushed_variables (noted nothing_noted first) first done event))
        (subst (λ (w : World Kind Op Shown). AreFew (noted (variables_of D first done) (happens D (run D first done) event)) w) (sym (pushed_run D first done event))
        (few_follow (variables_of D first done) (run D first done) safe event now are))))

  pub held_are_small : (members : ℕ) (keys : List (KeyDecl Kind)) (events : List (Event Op)) (world : World Kind Op Shown) → IsRun D members keys events world
      → (t : ℕ) (node : Node Kind Op Shown) (key : Text) → world.nodes t ≡ Some node → IsSmall (node.entries key)
  held_are_small members keys events world is_run t node key runs =
      let variables = variables_of D (start members keys) events in
      let safe = runs_are_safe D members keys events world is_run in
      let few : AreFew variables world = subst (AreFew variables) (sym is_run.leads) (few_along members keys is_run.some is_run.few [] events is_run.lawful (few_first members keys is_run.some is_run.few)) in
      record {
        records = λ i. let a = part-le (node.entries key).history (variables.made key) (safe.logs.held t node key runs).part i in let b = few.made key i in omega arith;
        views = λ r mark e.
            let gone = (safe.marks.held t node key runs).gone r mark e in
            let a = at_most_last (views_of world) world.view safe.views.views mark.view gone.view gone.listed in
            let b = few.views in
            let c : world.view.given ≤ identity_limit = safe.logs.few in
            omega arith;
      }
