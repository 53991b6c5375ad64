-- The way of a script.
--     throughout_earlier        what holds throughout a script holds up to each point of it
--     safe_now, way_logs        what logs and runs tell of the world that a script has come to
--     still_part, never_returns        a running member loses nothing on the way; so a prune stays, and with it the pruned identity away
use Rattle.std.proofs.Common.{◌≡◌, ℕ, List, [], ◌++◌, sym, ap, subst, ◌∙◌, Some, append_assoc, ◌<◌, ◌≤◌, ◌∷◌, refl, arith, true, false}
use Rattle.std.specs.Prelude.{All, if◌then◌else◌, slice_get}
use Rattle.std.proofs.lemmas.Option.{get_or_from_slice_get, slice_get_within}
use Rattle.model_history.specs.Texts.{Text}
use Rattle.model_history.specs.History.{History, IsPartOf, versions}
use Rattle.model_history.specs.Vector.{VersionVector, IdentitySet}
use Rattle.model_history.specs.Cuts.{Prunes, without}
use Rattle.model_history.proofs.HistoryLaws.{append_nothing}
use Rattle.model_history.proofs.PartLaws.{part-le, part_trans}
use Rattle.model_kinds.specs.declared.shown.Shown.{Shown}
use Rattle.model_kinds.specs.declared.operation.Op.{Op}
use Rattle.model_members.specs.Node as nodes
use Rattle.model_members.specs.World as worlds
use Rattle.model_members.specs.DataType.{Replication}
use Rattle.model_members.specs.Node.{KeyDecl}
use Rattle.model_members.specs.World.{Event, start, IsRun, happens, run, AreLawful}
use Rattle.model_members.specs.Script.{Playing}
use Rattle.model_members.specs.View.{View}
use Rattle.model_members.specs.Entry.{Entry}
use Rattle.theorem_runs.specs.Logs.{IsLoggedBy}
use Rattle.theorem_runs.specs.Pruning.{variables_of, HistoryVariables, noted}
use Rattle.theorem_runs.proofs.Safety.{runs_are_safe}
use Rattle.theorem_runs.proofs.RunViews.{RunsWell, HasViews, views_follow}
use Rattle.theorem_runs.proofs.PruningSafety.{held_is_pruned}
use Rattle.theorem_runs.proofs.AgreementOverRuns.{logs_throughout}
use Rattle.theorem_runs.proofs.Growth.{part_same, step_grows}
use Rattle.theorem_runs.proofs.Happening.{NodeAfter, ViewsAfter, Follows, event_follows}
use Rattle.theorem_runs.proofs.Happening.NodeAfter.{Same, Stepped, Started}
use Rattle.theorem_runs.proofs.Happening.ViewsAfter.{SameViews, NextViews}
use Rattle.member_keeper.specs.declared.keeper.Keeper.{Ghosts as Keeping}
use Rattle.data_lattice.specs.declared.replica.Replica.{Ghosts}
use Rattle.data_lattice.specs.declared.spelled.SpelledData.{Ghosts as Spelling}
use Rattle.data_markers.specs.Marks.{is_performed, performed_in}
use Rattle.data_envelope.specs.declared.envelope.Envelope.{Envelope}
use Rattle.data_envelope.specs.Images.{StandsFor}
use Rattle.data_envelope.specs.Words.{parts_of}
use Rattle.member_node.specs.Steps.{replication}
use Rattle.member_node.specs.Members.{IsSafe, StandsForKey, StandsForNode}
use Rattle.member_node.specs.declared.key.KeyState.{KeyState}
use Rattle.world_members.specs.declared.world.World.{World}
use Rattle.world_members.specs.Standing.{StandsForWorld}
use Rattle.world_places.specs.Standing.{StandsForRunning}
use Rattle.world_members.specs.Ways.{Throughout, IsPrefix, Means}
use Rattle.world_members.specs.Gone.{IsHeld, HasPruned, IsWithout}

pub prefix_same : {Op : Type 0} (events : List (Event Op)) → IsPrefix events events
prefix_same events = ([], sym (append_nothing events))

pub prefix_trans : {Op : Type 0} (first second third : List (Event Op)) → IsPrefix first second → IsPrefix second third → IsPrefix first third
prefix_trans first second third a b = (a.0 ++ b.0, b.1 ∙ ap (λ events. events ++ b.0) a.1 ∙ append_assoc first a.0 b.0)

module _ {Kind Op Shown : Type 0} (D : Replication Kind Op Shown) (logs : Text → History Op) (members : ℕ) (decls : List (KeyDecl Kind)) where
  -- from a point of a script to each point on the way
  pub throughout_earlier : (now later : Playing Kind Op Shown) → IsPrefix now.events later.events → Throughout D logs members decls later → Throughout D logs members decls now
  throughout_earlier now later more through =
      record {
        histories = through.histories;
        logged = λ before rest e. through.logged before (rest ++ more.0) (more.1 ∙ ap (λ events. events ++ more.0) e ∙ append_assoc before rest more.0);
      }

  -- the events alone count
  pub throughout_same : (now later : Playing Kind Op Shown) → later.events ≡ now.events → Throughout D logs members decls later → Throughout D logs members decls now
  throughout_same now later same through = throughout_earlier now later ([], same ∙ sym (append_nothing now.events)) through

  module _ (p : Playing Kind Op Shown) (is_run : IsRun D members decls p.events p.world) where
    -- logs of the way hold what the world has now
    pub logged_now : Throughout D logs members decls p → IsLoggedBy logs p.world
    logged_now through = subst (λ (world : worlds.World Kind Op Shown). IsLoggedBy logs world) (sym is_run.leads) (through.logged p.events [] (sym (append_nothing p.events)))

module _ {Kind Op Shown : Type 0} (D : Replication Kind Op Shown) (members : ℕ) (decls : List (KeyDecl Kind)) (p : Playing Kind Op Shown) (is_run : IsRun D members decls p.events p.world) where
  -- a running member is one of the last view, and of its own, which is one of the list
  pub well_now : (i : ℕ) (node : nodes.Node Kind Op Shown) → p.world.nodes i ≡ Some node → RunsWell (variables_of D (start members decls) p.events) p.world i node
  well_now i node runs = (runs_are_safe D members decls p.events p.world is_run).views.running i node runs

module _ {Kind Op : Type 0} (D : Replication Kind Op Shown) (logs : Text → History Op) (members : ℕ) (decls : List (KeyDecl Kind)) (p : Playing Kind Op Shown) (is_run : IsRun D members decls p.events p.world) (through : Throughout D logs members decls p) where
  -- a running member's histories are parts of the logs, and exactly pruned
  pub safe_now : (i : ℕ) (node : nodes.Node Kind Op Shown) → p.world.nodes i ≡ Some node → IsSafe logs node
  safe_now i node runs =
      record {
        taken = λ key. (logged_now D logs members decls p is_run through).held i node key runs;
        exact = λ key. held_is_pruned D (variables_of D (start members decls) p.events) p.world (runs_are_safe D members decls p.events p.world is_run) i node key runs;
      }

module _ {T K Kind Delta : Type 0} {ghosts : Ghosts T Kind Op Delta} {keeping : Keeping K} (spelling : Spelling T Kind Op Delta) (kinds : Text → Kind) (members : ℕ) (decls : List (KeyDecl Kind)) where
  -- a script that has come to the same world by the same events
  pub means_same : (p q : Playing Kind Op Shown) (code : World T K Kind Op Delta ghosts keeping) → q.events ≡ p.events → q.world ≡ p.world → Means spelling kinds members decls p code → Means spelling kinds members decls q code
  means_same p q code events world m =
      record {
        run = subst (λ (es : List (Event Op)). IsRun (replication ghosts spelling) members decls es q.world) (sym events) (subst (λ (w : worlds.World Kind Op Shown). IsRun (replication ghosts spelling) members decls p.events w) (sym world) m.run);
        stands = λ logs through. subst (λ (w : worlds.World Kind Op Shown). StandsForWorld spelling kinds logs code w) (sym world) (m.stands logs (throughout_same (replication ghosts spelling) logs members decls p q events through));
      }

  -- in logs of the way up to a later point the world stands for the model's now
  pub stands_before : (p q : Playing Kind Op Shown) (code : World T K Kind Op Delta ghosts keeping) → IsPrefix p.events q.events → Means spelling kinds members decls p code → (logs : Text → History Op) → Throughout (replication ghosts spelling) logs members decls q → StandsForWorld spelling kinds logs code p.world
  stands_before p q code more m logs through = m.stands logs (throughout_earlier (replication ghosts spelling) logs members decls p q more through)

-- a run has logs that hold all histories of its way
pub way_logs : {Kind Op Shown : Type 0} (D : Replication Kind Op Shown) (members : ℕ) (decls : List (KeyDecl Kind)) (p : Playing Kind Op Shown) → IsRun D members decls p.events p.world → (logs : Text → History Op) × Throughout D logs members decls p
way_logs D members decls p is_run = let l = logs_throughout D members decls p.events p.world is_run in (l.0, record { histories = l.1.last.histories; logged = l.1.throughout })

-- NOTHING IS LOST

-- THE MODEL

module _ {Kind Op Shown : Type 0} (D : Replication Kind Op Shown) where
  -- what a member has of a key is part of what it has later
  pub record HadPart (world : worlds.World Kind Op Shown) (t : ℕ) (key : Text) (new : nodes.Node Kind Op Shown) : Type 0 where
    pub old : nodes.Node Kind Op Shown
    pub runs : world.nodes t ≡ Some old
    pub part : IsPartOf (old.entries key).history (new.entries key).history

  module _ (world next : worlds.World Kind Op Shown) (follows : Follows D world next) where
    more_given : world.view.given ≤ next.view.given
    more_given = go follows.views
      where
        go : ViewsAfter D world next → world.view.given ≤ next.view.given
        go (SameViews e v) = let a : next.view.given ≡ world.view.given = ap (λ (x : View). x.given) v in omega arith
        go (NextViews e n) = n.given

    had_before : (t : ℕ) (key : Text) (new : nodes.Node Kind Op Shown) → t < world.view.given → NodeAfter D world next t new → HadPart world t key new
    had_before t key new early (Same was stays) = record { old = new; runs = was; part = part_same (new.entries key).history }
    had_before t key new early (Stepped old input fate was comes is views) =
        record { old = old; runs = was; part = subst (λ (x : nodes.Node Kind Op Shown). IsPartOf (old.entries key).history (x.entries key).history) (sym is) (step_grows D old input fate key) }
    had_before t key new early (Started store is given member made from) = absurd (omega arith)

  had_at_first : (variables : HistoryVariables Op) (world : worlds.World Kind Op Shown) (events : List (Event Op)) → AreLawful D world events → HasViews D variables world
      → (t : ℕ) (key : Text) → t < world.view.given → (new : nodes.Node Kind Op Shown) → (run D world events).nodes t ≡ Some new → HadPart world t key new
  had_at_first variables world [] lawful has t key early new runs = record { old = new; runs = runs; part = part_same (new.entries key).history }
  had_at_first variables world (event ∷ events) lawful has t key early new runs =
      let next = happens D world event in
      let views = has.views in
      let follows = event_follows D world (λ t m. views.below world.view.number world.view t views.listed m) (views.rising world.view.number world.view views.listed) event lawful.0 in
      let more = more_given world next follows in
      let later = had_at_first (noted variables next) next events lawful.1 (views_follow D variables world next has follows) t key (omega arith) new runs in
      let now = had_before world next follows t key later.old early (follows.nodes t later.old later.runs) in
      record { old = now.old; runs = now.runs; part = part_trans (now.old.entries key).history (later.old.entries key).history (new.entries key).history now.part later.part }

  rest_lawful : (world : worlds.World Kind Op Shown) (first rest : List (Event Op)) → AreLawful D world (first ++ rest) → AreLawful D (run D world first) rest
  rest_lawful world [] rest lawful = lawful
  rest_lawful world (event ∷ first) rest lawful = rest_lawful (happens D world event) first rest lawful.1

  run_rest : (world : worlds.World Kind Op Shown) (first rest : List (Event Op)) → run D world (first ++ rest) ≡ run D (run D world first) rest
  run_rest world [] rest = refl
  run_rest world (event ∷ first) rest = run_rest (happens D world event) first rest

  module _ (members : ℕ) (decls : List (KeyDecl Kind)) (p q : Playing Kind Op Shown) (earlier : IsRun D members decls p.events p.world) (later : IsRun D members decls q.events q.world) (more : IsPrefix p.events q.events) where
    abbrev first : worlds.World Kind Op Shown
    first = start members decls

    rest_is : q.world ≡ run D p.world more.0
    rest_is = later.leads ∙ ap (run D first) more.1 ∙ run_rest first p.events more.0 ∙ ap (λ (w : worlds.World Kind Op Shown). run D w more.0) (sym earlier.leads)

    lawful : AreLawful D p.world more.0
    lawful =
        subst (λ (w : worlds.World Kind Op Shown). AreLawful D w more.0) (sym earlier.leads)
        (rest_lawful first p.events more.0 (subst (AreLawful D first) more.1 later.lawful))

    pub had : (t : ℕ) (key : Text) (old new : nodes.Node Kind Op Shown) → p.world.nodes t ≡ Some old → q.world.nodes t ≡ Some new → HadPart p.world t key new
    had t key old new runs now =
        let views = (runs_are_safe D members decls p.events p.world earlier).views in
        had_at_first (variables_of D first p.events) p.world more.0 lawful views t key (views.views.below p.world.view.number p.world.view t views.views.listed (views.running t old runs).last) new
        (subst (λ (w : worlds.World Kind Op Shown). w.nodes t ≡ Some new) rest_is now)

    pub still_part : (t : ℕ) (key : Text) (old new : nodes.Node Kind Op Shown) → p.world.nodes t ≡ Some old → q.world.nodes t ≡ Some new → IsPartOf (old.entries key).history (new.entries key).history
    still_part t key old new runs now =
        let h = had t key old new runs now in
        let same : h.old ≡ old = (let e : Some h.old ≡ Some old = sym h.runs ∙ runs in cc e) in
        subst (λ (x : nodes.Node Kind Op Shown). IsPartOf (x.entries key).history (new.entries key).history) same h.part

-- ENVELOPES

all_at : {X : Type 0} (P : X → Type 0) (xs : List X) (k : ℕ) (x : X) → All P xs → slice_get xs k ≡ Some x → P x
all_at P xs k x all e = subst P (get_or_from_slice_get xs k x x e) (all k x (slice_get_within xs k x e))

module _ {T K Kind Delta : Type 0} {ghosts : Ghosts T Kind Op Delta} {keeping : Keeping K} (spelling : Spelling T Kind Op Delta)
    (kinds : Text → Kind) (logs : Text → History Op) (code : World T K Kind Op Delta ghosts keeping) (world : worlds.World Kind Op Shown) (stands : StandsForWorld spelling kinds logs code world) (id : ℕ) (key : Text) (envelope : Envelope T Kind Op Delta) (held : IsHeld code id key envelope) where
  member : (node : nodes.Node Kind Op Shown) × (world.nodes id ≡ Some node) × StandsForNode ghosts.kind_of ghosts.IsDataOf kinds logs held.node node
  member = subst (λ o. StandsForRunning {ghosts = ghosts} {keeping = keeping} spelling kinds logs o (world.nodes id)) held.runs (stands.running id)

  pub node_held : nodes.Node Kind Op Shown
  node_held = member.0

  pub held_runs : world.nodes id ≡ Some node_held
  unfolding node_held member
  held_runs = member.1

  at_state : StandsForKey ghosts.kind_of ghosts.IsDataOf ghosts.IsDeltaOf kinds logs held.state (node_held.entries held.state.name) (node_held.flushed held.state.name)
  unfolding node_held member
  at_state =
      all_at (λ (state : KeyState T Kind Op Delta). StandsForKey ghosts.kind_of ghosts.IsDataOf ghosts.IsDeltaOf kinds logs state (node_held.entries state.name) (node_held.flushed state.name)) held.node.keys.items held.index held.state
      member.2.entries held.declared

  pub image_held : StandsFor ghosts.IsDataOf (parts_of envelope) (logs key) (node_held.entries key)
  image_held =
      subst (λ (e : Envelope T Kind Op Delta). StandsFor ghosts.IsDataOf (parts_of e) (logs key) (node_held.entries key)) held.held
      (subst (λ (name : Text). StandsFor ghosts.IsDataOf (parts_of held.state.entry) (logs name) (node_held.entries name)) held.named at_state.held.image)

module _ {T Kind Op Delta : Type 0} (ghosts : Ghosts T Kind Op Delta)
    (unmentioned : (state : T) (log : History Op) (held : VersionVector) (gone : IdentitySet) (i : ℕ) → ghosts.IsDataOf state log held gone → without gone held i ≡ 0 → ghosts.mentioned state i ≡ false)
    (removed : ℕ) (log : History Op) where
  -- an envelope of a history that has the prune
  pub without_removed : (after : Envelope T Kind Op Delta) (entry : Entry Op) → StandsFor ghosts.IsDataOf (parts_of after) log entry → (owner index : ℕ) → Prunes log (versions entry.history) removed owner index → IsWithout ghosts removed after
  without_removed after entry stands owner index prunes =
      let gone : performed_in after.markers removed ≡ true = ap is_performed (stands.holds.prunes removed owner index prunes) in
      let none : without (performed_in after.markers) (versions entry.history) removed ≡ 0 = ap (λ b. if b then 0 else versions entry.history removed) gone in
      record {
        pruned = gone;
        uncounted = stands.holds.numbers removed ∙ none;
        unmentioned = unmentioned after.value log (versions entry.history) (performed_in after.markers) removed stands.holds.state none;
      }

module _ {T K Kind Delta : Type 0} {ghosts : Ghosts T Kind Op Delta} {keeping : Keeping K} (spelling : Spelling T Kind Op Delta)
    (unmentioned : (state : T) (log : History Op) (held : VersionVector) (gone : IdentitySet) (i : ℕ) → ghosts.IsDataOf state log held gone → without gone held i ≡ 0 → ghosts.mentioned state i ≡ false)
    (earlier later : World T K Kind Op Delta ghosts keeping) (kinds : Text → Kind) (members : ℕ) (decls : List (KeyDecl Kind)) (p q : Playing Kind Op Shown) (m : Means spelling kinds members decls p earlier) (n : Means spelling kinds members decls q later) (more : IsPrefix p.events q.events) where
  pub never_returns : (id removed : ℕ) (key : Text) (before after : Envelope T Kind Op Delta) → IsHeld earlier id key before → HasPruned removed before → IsHeld later id key after → IsWithout ghosts removed after
  never_returns id removed key before after was pruned now =
      let D = replication ghosts spelling in
      let way = way_logs D members decls q n.run in
      let old_stands = stands_before spelling kinds members decls p q earlier more m way.0 way.1 in
      let new_stands = n.stands way.0 way.1 in
      let old = node_held spelling kinds way.0 earlier p.world old_stands id key before was in
      let new = node_held spelling kinds way.0 later q.world new_stands id key after now in
      let part = still_part D members decls p q m.run n.run more id key old new (held_runs spelling kinds way.0 earlier p.world old_stands id key before was) (held_runs spelling kinds way.0 later q.world new_stands id key after now) in
      let found = (image_held spelling kinds way.0 earlier p.world old_stands id key before was).holds.marked removed pruned in
      let within : found.1 < versions (new.entries key).history found.0 = (let l = found.2.within in let a = part-le (old.entries key).history (new.entries key).history part found.0 in omega arith) in
      without_removed ghosts unmentioned removed (way.0 key) after (new.entries key) (image_held spelling kinds way.0 later q.world new_stands id key after now) found.0 found.1
      (record { within = within; action = found.2.action })
