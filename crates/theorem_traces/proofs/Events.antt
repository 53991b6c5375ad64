-- What an event does to the records made and to what members hold: a quiet one makes none, and what was held is part of what is held then.
use Rattle.std.proofs.Common.{◌≡◌, ℕ, ◌+◌, ◌≤◌, List, [], take, refl, sym, ap, subst, ◌∙◌, arith, Option, Some, None, inl, inr}
use Rattle.std.specs.Prelude.{⊤}
use Rattle.std.proofs.lemmas.Bool.Decides.{eqb_tells}
use Rattle.model_history.specs.Table.{with_at}
use Rattle.model_history.specs.Texts.{Text}
use Rattle.model_history.specs.History.{History, at, IsPartOf}
use Rattle.model_history.proofs.Bridge.{nothing_at}
use Rattle.model_history.proofs.HistoryLaws.{with_at_same, with_at_other}
use Rattle.model_history.proofs.PartLaws.{take_none}
use Rattle.model_members.specs.View.{View}
use Rattle.model_members.specs.DataType.{Replication}
use Rattle.model_members.specs.Message.{Message}
use Rattle.model_members.specs.Node.{KeyDecl, Node, Input, Fate}
use Rattle.model_members.specs.Node.Input.{Take}
use Rattle.model_members.specs.Step.{step}
use Rattle.model_members.specs.World.{World, Event, happens, moved_on, start, IsLawful, IsRun}
use Rattle.model_members.specs.World.Event.{InputAt, Delivery, Loss, Removal, Joining, Restart}
use Rattle.model_members.proofs.Cases.{stepped_at, delivered}
use Rattle.theorem_runs.specs.Logs.{HasLogs}
use Rattle.theorem_runs.specs.Pruning.{HistoryVariables, nothing_noted, own_records, variables_of}
use Rattle.theorem_runs.proofs.Growth.{part_same, step_grows}
use Rattle.theorem_runs.proofs.Happening.{NodeAfter, Follows, event_follows}
use Rattle.theorem_runs.proofs.Happening.NodeAfter.{Same, Stepped, Started}
use Rattle.theorem_runs.proofs.PrunesFollow.{made_follow}
use Rattle.theorem_runs.proofs.Safety.{IsSafe, runs_are_safe}
use Rattle.theorem_runs.proofs.StoredParts.{LoadedFrom, loaded_from, given_later}
use Rattle.theorem_runs.proofs.StoredParts.LoadedFrom.{LoadedEmpty, LoadedStored}
use Rattle.theorem_traces.proofs.Quiet.{IsQuietInput, own_records_stay}

-- no update and no tick
abbrev pub IsQuietEvent : {Op : Type 0} → Event Op → Type 0
IsQuietEvent (InputAt i input fate) = IsQuietInput input
IsQuietEvent _ = ⊤

module _ {Kind Op Shown : Type 0} (D : Replication Kind Op Shown) (members : ℕ) (keys : List (KeyDecl Kind)) where
  abbrev variables_at : List (Event Op) → HistoryVariables Op
  variables_at events = variables_of D (start members keys) events

  module _ (events : List (Event Op)) (world : World Kind Op Shown) (is_run : IsRun D members keys events world) (event : Event Op) (lawful : IsLawful D world event) where
    abbrev next : World Kind Op Shown
    next = happens D world event

    safe : IsSafe D (variables_at events) world
    safe = runs_are_safe D members keys events world is_run

    pub follows : Follows D world next
    follows =
        event_follows D world (λ t m. safe.views.views.below world.view.number world.view t safe.views.views.listed m) (safe.views.views.rising world.view.number world.view safe.views.views.listed) event lawful

    -- WHAT IS HELD

    pub given_grows : world.view.given ≤ next.view.given
    given_grows = given_later D (variables_at events) world next safe.views follows safe.parts follows.views

    -- a running member ran before with part of what it holds, or is new
    pub data Ran (t : ℕ) (new : Node Kind Op Shown) : Type 0 where
      RanBefore : (old : Node Kind Op Shown) → world.nodes t ≡ Some old → ((key : Text) → IsPartOf (old.entries key).history (new.entries key).history) → Ran t new
      IsNew : world.view.given ≤ t → Ran t new

    pub ran : (t : ℕ) (new : Node Kind Op Shown) → next.nodes t ≡ Some new → Ran t new
    ran t new runs = go (follows.nodes t new runs)
      where
        go : NodeAfter D world next t new → Ran t new
        go (Same e stays) = RanBefore new e (λ key. part_same (new.entries key).history)
        go (Stepped old input fate e comes is views) = RanBefore old e (λ key. subst (λ (n : Node Kind Op Shown). IsPartOf (old.entries key).history (n.entries key).history) (sym is) (step_grows D old input fate key))
        go (Started store is given member made from) = IsNew (omega (arith, is))

    -- THE RECORDS MADE

    module _ (logs : Text → History Op) (has : HasLogs logs world) where
      abbrev of_logs : HistoryVariables Op
      of_logs = record nothing_noted { made = logs }

      made_logs : HasLogs (λ key i. own_records (next.nodes i) key i (logs key i)) next
      made_logs = made_follow D of_logs world has event lawful

      -- where each running member's own records are these, and nobody else's changed
      pub logs_are : (later : Text → History Op) → ((key : Text) (i : ℕ) → own_records (next.nodes i) key i (logs key i) ≡ later key i) → HasLogs later next
      logs_are later rows = let same : (λ key i. own_records (next.nodes i) key i (logs key i)) ≡ later = λ k key i. rows key i k in subst (λ (l : Text → History Op). HasLogs l next) same made_logs

-- ROWS

module _ {Kind Op Shown : Type 0} (logs : Text → History Op) (world : World Kind Op Shown) (has : HasLogs logs world) where
  old_row : (o : Option (Node Kind Op Shown)) (i : ℕ) → world.nodes i ≡ o → (key : Text) → own_records o key i (logs key i) ≡ logs key i
  old_row None i e key = refl
  old_row (Some node) i e key = has.own i node key e

  -- one member has changed
  pub changed_row : (i : ℕ) (new : Node Kind Op Shown) (key : Text) (j : ℕ) → own_records (with_at world.nodes i (Some new) j) key j (logs key j) ≡ with_at (logs key) i ((new.entries key).history i) j
  changed_row i new key j = elim (eqb_tells j i) [
    | inl is ↦
        ap (λ k. own_records (with_at world.nodes i (Some new) k) key k (logs key k)) is.1 ∙ ap (λ (o : Option (Node Kind Op Shown)). own_records o key i (logs key i)) (with_at_same world.nodes i (Some new))
        ∙ sym (ap (with_at (logs key) i ((new.entries key).history i)) is.1 ∙ with_at_same (logs key) i ((new.entries key).history i))
    | inr isnt ↦
        ap (λ (o : Option (Node Kind Op Shown)). own_records o key j (logs key j)) (with_at_other world.nodes i (Some new) j isnt.1) ∙ old_row (world.nodes j) j refl key
        ∙ sym (with_at_other (logs key) i ((new.entries key).history i) j isnt.1)
  ]

  -- and its own records stayed
  pub kept_row : (i : ℕ) (node new : Node Kind Op Shown) → world.nodes i ≡ Some node → ((key : Text) → (new.entries key).history i ≡ (node.entries key).history i) → (key : Text) (j : ℕ)
      → own_records (with_at world.nodes i (Some new) j) key j (logs key j) ≡ logs key j
  kept_row i node new runs same key j = changed_row i new key j ∙ elim (eqb_tells j i) [
    | inl is ↦ ap (with_at (logs key) i ((new.entries key).history i)) is.1 ∙ with_at_same (logs key) i ((new.entries key).history i) ∙ same key ∙ has.own i node key runs ∙ ap (logs key) (sym is.1)
    | inr isnt ↦ with_at_other (logs key) i ((new.entries key).history i) j isnt.1
  ]

  -- a member stopped
  pub stopped_row : (i : ℕ) (key : Text) (j : ℕ) → own_records (with_at world.nodes i None j) key j (logs key j) ≡ logs key j
  stopped_row i key j = elim (eqb_tells j i) [
    | inl is ↦ ap (λ k. own_records (with_at world.nodes i None k) key k (logs key k)) is.1 ∙ ap (λ (o : Option (Node Kind Op Shown)). own_records o key i (logs key i)) (with_at_same world.nodes i None) ∙ ap (logs key) (sym is.1)
    | inr isnt ↦ ap (λ (o : Option (Node Kind Op Shown)). own_records o key j (logs key j)) (with_at_other world.nodes i None j isnt.1) ∙ old_row (world.nodes j) j refl key
  ]

-- EVENTS

module _ {Kind Op Shown : Type 0} (D : Replication Kind Op Shown) (members : ℕ) (keys : List (KeyDecl Kind)) (events : List (Event Op)) (world : World Kind Op Shown) (is_run : IsRun D members keys events world) (logs : Text → History Op) (has : HasLogs logs world) where
  -- an input: of its member the records made are then its own
  pub input_logs : (i : ℕ) (input : Input Op) (fate : Fate) (node : Node Kind Op Shown) → world.nodes i ≡ Some node → IsLawful D world (InputAt i input fate)
      → HasLogs (λ key. with_at (logs key) i (((step D node input fate).node.entries key).history i)) (happens D world (InputAt i input fate))
  input_logs i input fate node runs lawful =
      logs_are D members keys events world is_run (InputAt i input fate) lawful logs has _
      (λ key j. subst (λ (o : Option (Node Kind Op Shown)). own_records ((stepped_at D world i o input fate).nodes j) key j (logs key j) ≡ with_at (logs key) i (((step D node input fate).node.entries key).history i) j) (sym runs)
      (changed_row logs world has i (step D node input fate).node key j))

  stepped_rows : (i : ℕ) (input : Input Op) (fate : Fate) (node : Node Kind Op Shown) → world.nodes i ≡ Some node → IsQuietInput input → (key : Text) (j : ℕ)
      → own_records (with_at world.nodes i (Some (step D node input fate).node) j) key j (logs key j) ≡ logs key j
  stepped_rows i input fate node runs quiet = kept_row logs world has i node (step D node input fate).node runs
      (λ key. subst (λ t. ((step D node input fate).node.entries key).history t ≡ (node.entries key).history t) (has.identity i node runs) (own_records_stay D node input fate quiet key))

  -- what a new member holds has no records of its own
  started_row : (event : Event Op) (lawful : IsLawful D world event) → ((happens D world event).view.number ≡ world.view.number + 1) → (key : Text) (j : ℕ) → own_records ((happens D world event).nodes j) key j (logs key j) ≡ logs key j
  started_row event lawful later key j = go ((happens D world event).nodes j) refl
    where
      none_made : world.view.given ≤ j → logs key j ≡ []
      none_made h = nothing_at (logs key j) (has.fresh key j h)

      by_loaded : (new : Node Kind Op Shown) → world.view.given ≤ j → LoadedFrom D world (happens D world event) j key (new.entries key) → (new.entries key).history j ≡ logs key j
      by_loaded new h (LoadedEmpty is nothing) = ap (λ x. x.history j) is ∙ sym (none_made h)
      by_loaded new h (LoadedStored i node stored runs durable place there is) =
          ap (λ x. x.history j) is ∙ (has.stored _ key stored there).part j ∙ ap (take (at stored.history j)) (none_made h) ∙ take_none _ ∙ sym (none_made h)

      by_node : (new : Node Kind Op Shown) → NodeAfter D world (happens D world event) j new → (new.entries key).history j ≡ logs key j
      by_node new (Same e stays) = has.own j new key e
      by_node new (Stepped old input fate e comes is views) = absurd (let a : (happens D world event).view.number ≡ world.view.number = ap (λ (v : View). v.number) views in omega (arith, a, later))
      by_node new (Started store is given member made from) =
          by_loaded new (omega (arith, is)) (loaded_from D (variables_at D members keys events) world (happens D world event) (safe D members keys events world is_run event lawful).views (follows D members keys events world is_run event lawful) j new store given made from key)

      go : (o : Option (Node Kind Op Shown)) → (happens D world event).nodes j ≡ o → own_records o key j (logs key j) ≡ logs key j
      go None e = refl
      go (Some new) e = by_node new ((follows D members keys events world is_run event lawful).nodes j new e)

  -- a quiet event leaves the records made
  pub quiet_logs : (event : Event Op) → IsQuietEvent event → IsLawful D world event → HasLogs logs (happens D world event)
  quiet_logs (InputAt i input fate) quiet lawful =
      logs_are D members keys events world is_run (InputAt i input fate) lawful logs has logs
      (λ key j. subst (λ (o : Option (Node Kind Op Shown)). own_records ((stepped_at D world i o input fate).nodes j) key j (logs key j) ≡ logs key j) (sym lawful.1.runs) (stepped_rows i input fate lawful.1.node lawful.1.runs quiet key j))
  quiet_logs (Delivery from to index fate) quiet lawful =
      logs_are D members keys events world is_run (Delivery from to index fate) lawful logs has logs
      (λ key j. subst (λ (m : Option (Message Op)). own_records ((delivered D world from to index m fate).nodes j) key j (logs key j) ≡ logs key j) (sym lawful.1)
      (subst (λ (o : Option (Node Kind Op Shown)). own_records ((stepped_at D (record world { links = moved_on world.links from to index }) to o (Take from lawful.0) fate).nodes j) key j (logs key j) ≡ logs key j) (sym lawful.2.runs)
      (stepped_rows to (Take from lawful.0) fate lawful.2.node lawful.2.runs tt key j)))
  quiet_logs (Loss from to) quiet lawful = logs_are D members keys events world is_run (Loss from to) lawful logs has logs (λ key j. old_row logs world has (world.nodes j) j refl key)
  quiet_logs (Removal i) quiet lawful = logs_are D members keys events world is_run (Removal i) lawful logs has logs (λ key j. stopped_row logs world has i key j)
  quiet_logs (Joining place) quiet lawful = logs_are D members keys events world is_run (Joining place) lawful logs has logs (started_row (Joining place) lawful refl)
  quiet_logs (Restart i) quiet lawful = logs_are D members keys events world is_run (Restart i) lawful logs has logs (started_row (Restart i) lawful refl)
