-- All that is known of marks and prunes, from the first world on, along every run.
use Rattle.std.proofs.Common.{◌≡◌, ℕ, zero, suc, ◌<◌, ◌≤◌, List, [], ◌∷◌, ◌++◌, refl, sym, ap, subst, ◌∙◌, arith, Bool, true, false, Option, Some, None}
use Rattle.std.specs.Prelude.{if◌then◌else◌, slice_get, nat_lt, find}
use Rattle.std.specs.Str.{bytes_eq}
use Rattle.std.proofs.lemmas.Bool.{ltb-true, lt-ltb}
use Rattle.model_history.specs.Texts.{Text}
use Rattle.model_history.specs.Table.{identity_limit}
use Rattle.model_history.specs.History.{Record, History, at, no_records, HasRecord}
use Rattle.model_members.specs.View.{View, is_member, first_view}
use Rattle.model_members.specs.Entry.{Entry, Mark, empty_entry, seen_by}
use Rattle.model_members.specs.DataType.{Replication}
use Rattle.model_members.specs.Message.{Message}
use Rattle.model_members.specs.Node.{KeyDecl, Node}
use Rattle.model_members.specs.World.{World, Event, no_entries, run, start, happens, message_at, loaded_entry, loaded_node, views_of, IsLawful, AreLawful, IsRun}
use Rattle.theorem_runs.specs.Logs.{HasLogs}
use Rattle.theorem_runs.specs.Pruning.{HistoryVariables, Standing, nothing_noted, noted, variables_from, variables_of, own_records, view_number, joined_by, joining, HasUnprunedMarks, AllSeeTheirMarks}
use Rattle.theorem_runs.proofs.EntriesOverRuns.{AllGood, good_follows, start_good}
use Rattle.theorem_runs.proofs.UnprunedMarks.{unpruned_always}
use Rattle.theorem_runs.proofs.MarksOverRuns.{sees_follow, sees_at_start}
use Rattle.theorem_runs.proofs.AgreementOverRuns.{start_has}
use Rattle.theorem_runs.proofs.ViewLaws.{IsRising, HasPlaces, first_below, first_member, first_places, first_rising}
use Rattle.theorem_runs.proofs.Happening.{event_follows}
use Rattle.theorem_runs.proofs.RunViews.{HasViews, AreViews, views_follow}
use Rattle.theorem_runs.proofs.StoredParts.{HasParts, parts_follow}
use Rattle.theorem_runs.proofs.MarksFollow.{HasMarks, marks_follow}
use Rattle.theorem_runs.proofs.PrunesFollow.{HasPrunes, made_follow, prunes_follow}
use Rattle.theorem_runs.proofs.Bounds.{HasBounds, bounds_follow}
use Rattle.theorem_runs.proofs.EarlyPrunes.{HasBars, bars_follow}

module _ {Kind Op Shown : Type 0} (D : Replication Kind Op Shown) where
  -- what holds of the variables and the world at each moment of a run
  pub record IsSafe (variables : HistoryVariables Op) (world : World Kind Op Shown) : Type 0 where
    pub views : HasViews D variables world
    pub parts : HasParts D world
    pub marks : HasMarks variables world
    pub logs : HasLogs variables.made world
    pub prunes : HasPrunes variables world
    pub bounds : HasBounds variables world
    pub bars : HasBars variables world
    pub good : AllGood D HasUnprunedMarks unpruned_always world
    pub own : AllSeeTheirMarks world

  -- AN EVENT

  safe_follows : (variables : HistoryVariables Op) (world : World Kind Op Shown) → IsSafe variables world → (event : Event Op) → IsLawful D world event → IsSafe (noted variables (happens D world event)) (happens D world event)
  safe_follows variables world safe event lawful =
      let next = happens D world event in
      let views = safe.views.views in
      let last = world.view in
      let follows = event_follows D world (λ t m. views.below last.number last t views.listed m) (views.rising last.number last views.listed) event lawful in
      let good = good_follows D HasUnprunedMarks unpruned_always world next follows safe.good in
      let unpruned : (t : ℕ) (new : Node Kind Op Shown) (key : Text) → next.nodes t ≡ Some new → HasUnprunedMarks (new.entries key) = λ t new key runs. good.held t new runs key in
      let logs = made_follow D variables world safe.logs event lawful in
      record {
        views = views_follow D variables world next safe.views follows;
        parts = parts_follow D variables world next safe.views follows safe.parts;
        marks = marks_follow D variables world next safe.views follows safe.parts safe.marks unpruned;
        logs = logs;
        prunes = prunes_follow D variables world next safe.views follows safe.parts safe.marks safe.logs safe.prunes;
        bounds = bounds_follow D variables world next safe.views follows safe.parts safe.marks unpruned safe.bounds;
        bars = bars_follow D variables world next safe.views follows safe.parts safe.marks safe.logs unpruned logs safe.bars;
        good = good;
        own = sees_follow D world next follows safe.own;
      }

  safe_run : (variables : HistoryVariables Op) (world : World Kind Op Shown) (events : List (Event Op)) → AreLawful D world events → IsSafe variables world → IsSafe (variables_from D variables world events) (run D world events)
  safe_run variables world [] lawful safe = safe
  safe_run variables world (event ∷ events) lawful safe = safe_run (noted variables (happens D world event)) (happens D world event) events lawful.1 (safe_follows variables world safe event lawful.0)

  -- THE FIRST WORLD

  module _ (members : ℕ) (keys : List (KeyDecl Kind)) (some : 0 < members) (few : members ≤ identity_limit) where
    abbrev first : World Kind Op Shown
    first = start members keys

    abbrev opening : HistoryVariables Op
    opening = noted nothing_noted first

    abbrev view : View
    view = first_view members

    -- an entry without a record and without a mark
    pub record IsBare (entry : Entry Op) : Type 0 where
      pub history : entry.history ≡ no_records
      pub marks : (r : ℕ) → entry.marks r ≡ None

    pub record IsFirst (t : ℕ) (node : Node Kind Op Shown) : Type 0 where
      pub small : t < members
      pub identity : node.identity ≡ t
      pub keys_are : node.keys ≡ keys
      pub view_is : node.view ≡ view
      pub bare : (key : Text) → IsBare (node.entries key)

    bare_loaded : (t : ℕ) (o : Option (KeyDecl Kind)) → IsBare (loaded_entry t view no_entries o)
    bare_loaded t None = record { history = refl; marks = λ r. refl }
    bare_loaded t (Some key) = go key.durable
      where
        go : (b : Bool) → IsBare (if b then seen_by t view.number empty_entry else empty_entry)
        go true = record { history = refl; marks = λ r. refl }
        go false = record { history = refl; marks = λ r. refl }

    first_by_test : (t : ℕ) (b : Bool) → nat_lt t members ≡ b → (node : Node Kind Op Shown) → (if b then Some (loaded_node keys t view no_entries) else None) ≡ Some node → IsFirst t node
    first_by_test t true is node e =
        let same : loaded_node keys t view no_entries ≡ node = cc e in
        subst (IsFirst t) same (record { small = ltb-true t members is; identity = refl; keys_are = refl; view_is = refl; bare = λ key. bare_loaded t (find (λ (d : KeyDecl Kind). bytes_eq d.name key) keys) })
    first_by_test t false is node e = absurd (cc e)

    first_node : (t : ℕ) (node : Node Kind Op Shown) → first.nodes t ≡ Some node → IsFirst t node
    first_node t node e = first_by_test t (nat_lt t members) refl node e

    no_message : (from to index : ℕ) (message : Message Op) → message_at first from to index ≡ Some message → ⊥
    no_message from to index message e = go index e
      where
        go : (index : ℕ) → slice_get {X = Message Op} [] index ≡ Some message → ⊥
        go index e = cc e

    one_view : (k : ℕ) (v : View) → slice_get (views_of first) k ≡ Some v → (k ≡ 0) × (view ≡ v)
    one_view zero v e = (refl, cc e)
    one_view (suc k) v e = absurd (cc e)

    first_views : AreViews (views_of first) view
    first_views =
        record {
          long = refl;
          listed = refl;
          numbered = λ k v e. let h = one_view k v e in ap (λ (x : View). x.number) (sym h.1) ∙ sym h.0;
          below = λ k v t e m. let h = one_view k v e in subst (λ (x : View). t < x.given) h.1 (first_below members t (ap (λ (x : View). is_member x t) h.1 ∙ m));
          rising = λ k v e. let h = one_view k v e in subst (λ (x : View). IsRising 0 x.given x.members) h.1 (first_rising members);
          some = λ k v e. let h = one_view k v e in (0, ap (λ (x : View). is_member x 0) (sym h.1) ∙ first_member members 0 some);
          places = λ k v e. let h = one_view k v e in subst HasPlaces h.1 (first_places members);
          given = λ j k v w h hv hw. let a : v.given ≡ w.given = ap (λ (x : View). x.given) (sym (one_view j v hv).1 ∙ (one_view k w hw).1) in omega arith;
          gone = λ j k v w r h hv hw small e. subst (λ (x : View). is_member x r ≡ false) (sym (one_view j v hv).1 ∙ (one_view k w hw).1) e;
        }

    safe_views : HasViews D opening first
    safe_views =
        record {
          views = first_views;
          running = λ t node e.
              let n = first_node t node e in
              record {
                identity = n.identity;
                keys = n.keys_are;
                viewed = subst (λ (v : View). slice_get (views_of first) v.number ≡ Some v) (sym n.view_is) refl;
                member = ap (λ (v : View). is_member v t) n.view_is ∙ first_member members t n.small;
                last = first_member members t n.small;
                installed = ap (λ o. view_number o 0) e;
              };
          all_run = record { runs = λ t m. (loaded_node keys t view no_entries, ap (λ b. if b then Some (loaded_node keys t view no_entries) else None) (lt-ltb t members (first_below members t m))) };
          installed = λ t. go t (nat_lt t members);
        }
      where
        go : (t : ℕ) (b : Bool) → view_number (if b then Some (loaded_node {Op = Op} {Shown = Shown} keys t view no_entries) else None) 0 ≤ 0
        go t true = omega arith
        go t false = omega arith

    safe_parts : HasParts D first
    safe_parts =
        record {
          stored = λ i node runs key entry h. absurd (cc h);
          sent = λ from to index message node runs is. absurd (no_message from to index message is);
          senders = λ from to index message is. absurd (no_message from to index message is);
          groups = λ from to index message is. absurd (no_message from to index message is);
        }

    no_mark : (t : ℕ) (node : Node Kind Op Shown) (key : Text) (r : ℕ) (mark : Mark) → first.nodes t ≡ Some node → (node.entries key).marks r ≡ Some mark → ⊥
    no_mark t node key r mark runs e = let f : ◌≡◌ {A = Option Mark} None (Some mark) = sym (((first_node t node runs).bare key).marks r) ∙ e in cc f

    nobody_joined : (key : Text) (r v t : ℕ) (standing : Standing) (o : Option (Node Kind Op Shown)) → first.nodes t ≡ o → joined_by o key r v t ≡ Some standing → ⊥
    nobody_joined key r v t standing None runs e = cc e
    nobody_joined key r v t standing (Some node) runs e =
        let f : ◌≡◌ {A = Option Standing} None (Some standing) = sym (ap (joining r v t (node.entries key)) (((first_node t node runs).bare key).marks r)) ∙ e in cc f

    safe_marks : HasMarks opening first
    safe_marks =
        record {
          held = λ t node key runs. record { gone = λ r mark e. absurd (no_mark t node key r mark runs e); seen = λ r u mark e. absurd (no_mark t node key r mark runs e) };
          sent = λ from to index message is. absurd (no_message from to index message is);
          stored = λ place key entry h. absurd (cc h);
          joined = λ key r v t standing e. absurd (nobody_joined key r v t standing (first.nodes t) refl e);
        }

    made_row : (key : Text) (i : ℕ) (o : Option (Node Kind Op Shown)) → first.nodes i ≡ o → own_records o key i [] ≡ []
    made_row key i None e = refl
    made_row key i (Some node) e = ap (λ (H : History Op). H i) ((first_node i node e).bare key).history

    nothing_made : opening.made ≡ (λ key. no_records)
    nothing_made = λ k key i. made_row key i (first.nodes i) refl k

    no_prune_made : (key : Text) (o k : ℕ) (x : Record Op) → HasRecord (opening.made key) o k x → ⊥
    no_prune_made key o k x h = let f : slice_get {X = Record Op} [] k ≡ Some x = sym (ap (λ (xs : List (Record Op)). slice_get xs k) (made_row key o (first.nodes o) refl)) ∙ h in cc f

    nothing_held : (t : ℕ) (node : Node Kind Op Shown) (key : Text) (o k : ℕ) (x : Record Op) → first.nodes t ≡ Some node → HasRecord (node.entries key).history o k x → ⊥
    nothing_held t node key o k x runs h = let f : slice_get {X = Record Op} [] k ≡ Some x = sym (ap (λ (H : History Op). slice_get (H o) k) ((first_node t node runs).bare key).history) ∙ h in cc f

    none_counted : (t : ℕ) (node : Node Kind Op Shown) (key : Text) (r : ℕ) → first.nodes t ≡ Some node → at (node.entries key).history r ≡ 0
    none_counted t node key r runs = ap (λ (H : History Op). at H r) ((first_node t node runs).bare key).history

    safe_start : IsSafe opening first
    safe_start =
        record {
          views = safe_views;
          parts = safe_parts;
          marks = safe_marks;
          logs = subst (λ logs. HasLogs logs first) (sym nothing_made) (start_has D members keys few);
          prunes = record { known = λ key o k r x h. absurd (no_prune_made key o k x h); once = λ key o k m r x y h. absurd (no_prune_made key o k x h) };
          bounds = record {
            held = λ key r k t v node past runs h. absurd (let a = none_counted t node key r runs in omega arith);
            sent = λ r k from to index v w message e past listed late member is. absurd (no_message from to index message is);
          };
          bars = record {
            held = λ key r t v node listed runs e. absurd (nothing_held t node key e.owner e.before e.prune runs e.has);
            sent = λ r from to index v w message e listed listed' late member is. absurd (no_message from to index message is);
          };
          good = start_good D HasUnprunedMarks unpruned_always members keys;
          own = sees_at_start D members keys;
        }

    run_is_safe : (events : List (Event Op)) → AreLawful D first events → IsSafe (variables_from D opening first events) (run D first events)
    run_is_safe events lawful = safe_run opening first events lawful safe_start

  -- every run
  pub runs_are_safe : (members : ℕ) (keys : List (KeyDecl Kind)) (events : List (Event Op)) (world : World Kind Op Shown) → IsRun D members keys events world → IsSafe (variables_of D (start members keys) events) world
  runs_are_safe members keys events world is_run =
      subst (λ (w : World Kind Op Shown). IsSafe (variables_of D (start members keys) events) w) (sym is_run.leads) (run_is_safe members keys (let a = is_run.some in omega arith) is_run.few events is_run.lawful)

  -- THE MOMENTS OF A RUN

  lawful_before : (world : World Kind Op Shown) (events before rest : List (Event Op)) → events ≡ before ++ rest → AreLawful D world events → AreLawful D world before
  lawful_before world events [] rest e lawful = tt
  lawful_before world [] (b ∷ before) rest e lawful = absurd (cc e)
  lawful_before world (event ∷ events) (b ∷ before) rest e lawful =
      let same : event ≡ b = cc e in
      let those : events ≡ before ++ rest = cc e in
      subst (λ (x : Event Op). IsLawful D world x × AreLawful D (happens D world x) before) same (lawful.0, lawful_before (happens D world event) events before rest those lawful.1)

  -- what comes first of a run is one
  pub run_before : (members : ℕ) (keys : List (KeyDecl Kind)) (events before rest : List (Event Op)) (world : World Kind Op Shown) → events ≡ before ++ rest → IsRun D members keys events world → IsRun D members keys before (run D (start members keys) before)
  run_before members keys events before rest world e is_run = record { some = is_run.some; few = is_run.few; lawful = lawful_before (start members keys) events before rest e is_run.lawful; leads = refl }
