-- The trace of every run is lawful: step by step, the state of the trace is that of the world.
use Rattle.std.proofs.Common.{◌≡◌, ℕ, ◌≤◌, List, [], ◌∷◌, ◌++◌, refl, sym, ap, subst, ◌∙◌, arith, Some, None, ◌⊎◌, inl, inr}
use Rattle.std.specs.Prelude.{flat_map}
use Rattle.std.specs.List.{AllByRecursion}
use Rattle.model_history.specs.Table.{identity_limit}
use Rattle.model_history.specs.Texts.{Text}
use Rattle.model_history.specs.History.{History, no_records, IsPartOf, IsExactlyPruned}
use Rattle.model_history.proofs.HistoryLaws.{union_same, append_nothing}
use Rattle.model_history.proofs.PartLaws.{part_trans, take_none}
use Rattle.model_members.specs.View.{is_member}
use Rattle.model_members.specs.DataType.{Replication}
use Rattle.model_members.specs.Node.{KeyDecl, Node, Input, Fate, Level}
use Rattle.model_members.specs.Step.{step}
use Rattle.model_members.specs.World.{World, Event, start, happens, IsLawful, IsRun}
use Rattle.model_members.specs.World.Event.{InputAt}
use Rattle.model_members.specs.Script.{Ask, IsStep, ScriptStep, Head, Answer, Told, Playing, KeeperAnswers, opening, told, played, played_all}
use Rattle.model_members.specs.Script.Answer.{Replied}
use Rattle.theorem_runs.specs.Logs.{HasLogs}
use Rattle.theorem_runs.specs.Pruning.{variables_of}
use Rattle.theorem_runs.specs.Pruning.HasEntry.{Held}
use Rattle.theorem_runs.proofs.AgreementOverRuns.{start_has}
use Rattle.theorem_runs.proofs.Growth.{part_same}
use Rattle.theorem_runs.proofs.Playing.{no_events}
use Rattle.theorem_runs.proofs.PruningSafety.{entries_are_pruned}
use Rattle.theorem_runs.proofs.Safety.{IsSafe, runs_are_safe}
use Rattle.theorem_operations.proofs.Moments.{run_pushed}
use Rattle.model_traces.specs.Traces.{TraceLine, Trace, TraceState, nothing_traced, after_lines, AreLawful}
use Rattle.model_traces.specs.Traces as Traces
use Rattle.model_traces.specs.Runs.{record_lines, get_lines, hold_line, of_members, show_line, step_lines, lines_from, trace_of}
use Rattle.theorem_traces.specs.Traced.{AreApart, IsTraced}
use Rattle.model_traces.proofs.Lines.{lawful_both, after_both}
use Rattle.theorem_traces.specs.Telling.{TellsHeld}
use Rattle.theorem_traces.proofs.Events.{IsQuietEvent, Ran, ran, given_grows, follows, quiet_logs}
use Rattle.theorem_traces.proofs.Events.Ran.{RanBefore, IsNew}
use Rattle.theorem_traces.proofs.QuietSteps.{IsQuietStep, step_plays}
use Rattle.theorem_traces.proofs.Holding.{IsDeclared, Agrees, Trails, IsSound, hold_lines_lawful}
use Rattle.theorem_traces.proofs.Showing.{AreShows, end_shows}
use Rattle.theorem_traces.proofs.Recording.{IsPlainAnswer, told_line, IsInput, input_case, Recorded, recorded_trails, now_runs}
use Rattle.theorem_traces.proofs.Updates.{update_recorded}
use Rattle.theorem_traces.proofs.TickRecords.{apart_declared, tick_recorded}
use Rattle.theorem_traces.proofs.Gets.{get_shows}

module _ {Kind Op Shown : Type 0} (D : Replication Kind Op Shown) (value_text : Shown → Text) (members : ℕ) (keys : List (KeyDecl Kind)) (apart : AreApart keys) where
  -- a run came to this world
  record Reaches (events : List (Event Op)) (world : World Kind Op Shown) : Type 0 where
    is_run : IsRun D members keys events world
    same_keys : world.keys ≡ keys

  reaches_next : (events : List (Event Op)) (world : World Kind Op Shown) (event : Event Op) → IsLawful D world event → Reaches events world → Reaches (events ++ event ∷ []) (happens D world event)
  reaches_next events world event lawful reaches = record {
    is_run = run_pushed D members keys events world event reaches.is_run lawful;
    same_keys = (follows D members keys events world reaches.is_run event lawful).keys ∙ reaches.same_keys;
  }

  safe_at : (events : List (Event Op)) (world : World Kind Op Shown) → Reaches events world → IsSafe D (variables_of D (start members keys) events) world
  safe_at events world reaches = runs_are_safe D members keys events world reaches.is_run

  sound_at : (events : List (Event Op)) (world : World Kind Op Shown) → Reaches events world → IsSound keys world
  sound_at events world reaches =
      let safe = safe_at events world reaches in
      record {
        keys_are = λ i node runs. (safe.views.running i node runs).keys ∙ reaches.same_keys;
        member = λ i node runs. (safe.views.running i node runs).last;
        exact = λ i node key runs.
            let held = Held i node runs refl in
            subst IsExactlyPruned (union_same (node.entries key).history) (entries_are_pruned D (variables_of D (start members keys) events) world safe key (node.entries key) (node.entries key) held held);
      }

  -- A STEP'S LINES

  abbrev Lawfully : TraceState Op → List (TraceLine Op) → Type 0
  Lawfully = AreLawful D.data_type value_text keys

  record IsStepLawful (state : TraceState Op) (s : ScriptStep Op) (events : List (Event Op)) (world : World Kind Op Shown) (lines : List (Told Op Shown)) : Type 0 where
    reaches : Reaches events world
    lawful : Lawfully state (step_lines D value_text state s world lines)
    agrees : Agrees keys (after_lines state (step_lines D value_text state s world lines)) world

  abbrev recorded_in : ScriptStep Op → List (Told Op Shown) → List (TraceLine Op)
  recorded_in s lines = flat_map (λ (t : Told Op Shown). record_lines s t.answer) lines

  abbrev shown_in : ScriptStep Op → List (Told Op Shown) → List (TraceLine Op)
  shown_in s lines = flat_map (λ (t : Told Op Shown). get_lines D value_text s t.answer) lines

  -- records, then what members hold, then what a get shows
  composed : (state : TraceState Op) (s : ScriptStep Op) (events : List (Event Op)) (world : World Kind Op Shown) (lines : List (Told Op Shown)) → Reaches events world → Lawfully state (recorded_in s lines) → Trails keys (after_lines state (recorded_in s lines)) world
      → ((later : TraceState Op) → Agrees keys later world → AreShows D value_text keys later (shown_in s lines)) → IsStepLawful state s events world lines
  composed state s events world lines reaches lawful trails shows =
      let records = recorded_in s lines in
      let middle = after_lines state records in
      let holds = of_members (hold_line middle) world in
      let held = hold_lines_lawful D.data_type value_text keys world (sound_at events world reaches) middle trails (apart_declared keys apart) in
      let shown = shows (after_lines middle holds) held.agrees in
      let rest = shown_in s lines in
      let end : after_lines state ((records ++ holds) ++ rest) ≡ after_lines middle holds =
      after_both state (records ++ holds) rest ∙ ap (λ st. after_lines st rest) (after_both state records holds) ∙ shown.leaves in
      record {
        reaches = reaches;
        lawful = lawful_both D.data_type value_text keys state (records ++ holds) rest (lawful_both D.data_type value_text keys state records holds lawful held.lawful)
            (subst (λ st. Lawfully st rest) (sym (after_both state records holds)) shown.lawful);
        agrees = subst (λ st. Agrees keys st world) (sym end) held.agrees;
      }

  trailing : (state : TraceState Op) (world : World Kind Op Shown) → Agrees keys state world → Trails keys state world
  trailing state world agrees = record {
    logs = agrees.logs;
    held = λ i node decl runs is. subst (λ (H : History Op). IsPartOf H (node.entries decl.name).history) (sym (agrees.held i node decl runs is)) (part_same (node.entries decl.name).history);
    fresh = agrees.fresh;
  }

  no_shows : (state : TraceState Op) (lines : List (TraceLine Op)) → lines ≡ [] → AreShows D value_text keys state lines
  no_shows state lines none = subst (AreShows D value_text keys state) (sym none) (record { lawful = tt; leaves = refl })

  -- a step that told neither a record nor a value
  plain_lawful : (state : TraceState Op) (s : ScriptStep Op) (events : List (Event Op)) (world : World Kind Op Shown) (lines : List (Told Op Shown)) → Reaches events world → recorded_in s lines ≡ [] → Trails keys state world
      → ((later : TraceState Op) → Agrees keys later world → AreShows D value_text keys later (shown_in s lines)) → IsStepLawful state s events world lines
  plain_lawful state s events world lines reaches none trails shows =
      composed state s events world lines reaches (subst (Lawfully state) (sym none) tt) (subst (λ ls. Trails keys (after_lines state ls) world) (sym none) trails) shows

  -- the same events, world and lines
  moved : (state : TraceState Op) (s : ScriptStep Op) (events events' : List (Event Op)) (world world' : World Kind Op Shown) (lines lines' : List (Told Op Shown)) → events' ≡ events → world' ≡ world → lines' ≡ lines → IsStepLawful state s events world lines → IsStepLawful state s events' world' lines'
  moved state s events events' world world' lines lines' e f g lawful =
      subst (λ ls. IsStepLawful state s events' world' ls) (sym g) (subst (λ w. IsStepLawful state s events' w lines) (sym f) (subst (λ es. IsStepLawful state s es world lines) (sym e) lawful))

  each_nothing : {X Y : Type 0} (f : X → List Y) (xs : List X) → ((x : X) → f x ≡ []) → flat_map f xs ≡ []
  each_nothing f [] none = refl
  each_nothing f (x ∷ xs) none = ap (λ ys. ys ++ flat_map f xs) (none x) ∙ each_nothing f xs none

  -- A STEP

  module _ (state : TraceState Op) (p : Playing Kind Op Shown) (silent : p.lines ≡ []) (reaches : Reaches p.events p.world) (agrees : Agrees keys state p.world) where
    -- what a running member has made and holds
    own : (i : ℕ) (node : Node Kind Op Shown) → p.world.nodes i ≡ Some node → (name : Text) → (node.entries name).history node.identity ≡ state.made name node.identity
    own i node runs name = ap (node.entries name).history (agrees.logs.identity i node runs) ∙ agrees.logs.own i node name runs ∙ ap (state.made name) (sym (agrees.logs.identity i node runs))

    keys_of : (i : ℕ) (node : Node Kind Op Shown) → p.world.nodes i ≡ Some node → node.keys ≡ keys
    keys_of = (sound_at p.events p.world reaches).keys_are

    held_by : (i : ℕ) (node : Node Kind Op Shown) → p.world.nodes i ≡ Some node → (decl : KeyDecl Kind) → IsDeclared node.keys decl → state.held node.identity decl.name ≡ (node.entries decl.name).history
    held_by i node runs decl is =
        ap (λ j. state.held j decl.name) (agrees.logs.identity i node runs) ∙ agrees.held i node decl runs (subst (λ ks. IsDeclared ks decl) (keys_of i node runs) is)

    -- an answer without an event
    told_lawful : (s : ScriptStep Op) (head : Head Op) (answer : Answer Shown) → record_lines s answer ≡ [] → get_lines D value_text s answer ≡ [] → IsStepLawful state s p.events p.world (told p head answer).lines
    told_lawful s head answer none nothing =
        let line : Told Op Shown = record { head = head; answer = answer; posts = []; ended = None } in
        moved state s p.events p.events p.world p.world (line ∷ []) (p.lines ++ line ∷ []) refl refl (ap (λ ls. ls ++ line ∷ []) silent)
        (plain_lawful state s p.events p.world (line ∷ []) reaches (ap (λ ls. ls ++ []) none) (trailing state p.world agrees) (λ later a. no_shows later (shown_in s (line ∷ [])) (ap (λ ls. ls ++ []) nothing)))

    -- an input of a running member
    input_lawful : (s : ScriptStep Op) (q : Playing Kind Op Shown) (head : Head Op) (i : ℕ) (input : Input Op) (is : IsInput D p q head i input)
        → Recorded D value_text keys i (step D is.node input is.fate).node state (record_lines s (Replied (step D is.node input is.fate).output.reply))
        → ((later : TraceState Op) → Agrees keys later (happens D p.world (InputAt i input is.fate)) → AreShows D value_text keys later (get_lines D value_text s (Replied (step D is.node input is.fate).output.reply)))
        → IsStepLawful state s q.events q.world q.lines
    input_lawful s q head i input is recorded shows =
        let event = InputAt i input is.fate in
        let output = (step D is.node input is.fate).output in
        let line = told_line D head output in
        let next = happens D p.world event in
        let none = append_nothing (record_lines s (Replied output.reply)) in
        moved state s (p.events ++ event ∷ []) q.events next q.world (line ∷ []) q.lines is.events is.world (is.lines ∙ ap (λ ls. ls ++ line ∷ []) silent)
        (composed state s (p.events ++ event ∷ []) next (line ∷ []) (reaches_next p.events p.world event is.lawful reaches) (subst (Lawfully state) (sym none) recorded.lawful)
        (subst (λ ls. Trails keys (after_lines state ls) next) (sym none) (recorded_trails D value_text keys members p.events p.world reaches.is_run state agrees i input is.fate is.node is.runs is.lawful (record_lines s (Replied output.reply)) recorded))
        (λ later a. subst (AreShows D value_text keys later) (sym (append_nothing (get_lines D value_text s (Replied output.reply)))) (shows later a)))

    -- the histories after an input are exactly pruned
    exact_then : (i : ℕ) (input : Input Op) (fate : Fate) (node : Node Kind Op Shown) → p.world.nodes i ≡ Some node → IsLawful D p.world (InputAt i input fate) → (name : Text) → IsExactlyPruned ((step D node input fate).node.entries name).history
    exact_then i input fate node runs lawful name =
        (sound_at (p.events ++ InputAt i input fate ∷ []) (happens D p.world (InputAt i input fate)) (reaches_next p.events p.world (InputAt i input fate) lawful reaches)).exact i (step D node input fate).node name
        (now_runs D value_text keys members p.events p.world reaches.is_run state agrees i input fate node runs)

    update_lawful : (i : ℕ) (key : Text) (op : Op) (level : Level) → let q = played D p (ScriptStep.Asks i (Ask.Update key op level)) in IsStepLawful state (ScriptStep.Asks i (Ask.Update key op level)) q.events q.world q.lines
    update_lawful i key op level =
        input_case D (λ q. IsStepLawful state (ScriptStep.Asks i (Ask.Update key op level)) q.events q.world q.lines) p (Head.Asked i (Ask.Update key op level)) i (Input.Update key op level) tt
        (λ answer plain. told_lawful (ScriptStep.Asks i (Ask.Update key op level)) (Head.Asked i (Ask.Update key op level)) answer (no_record answer plain) refl)
        (λ q is. input_lawful (ScriptStep.Asks i (Ask.Update key op level)) q (Head.Asked i (Ask.Update key op level)) i (Input.Update key op level) is (recorded is.node is.fate is.runs is.lawful) (λ later a. no_shows later [] refl))
      where
        no_record : (answer : Answer Shown) → IsPlainAnswer answer → record_lines (ScriptStep.Asks i (Ask.Update key op level)) answer ≡ []
        no_record Answer.Gone plain = refl
        no_record Answer.HistoryFull plain = refl
        no_record (Replied reply) plain = absurd plain
        no_record Answer.NoSuchView plain = refl
        no_record Answer.NoSuchMessage plain = refl
        no_record Answer.Lost plain = refl
        no_record Answer.Nothing plain = refl
        no_record Answer.LastMember plain = refl
        no_record Answer.PlaceTaken plain = refl
        no_record Answer.TooManyIdentities plain = refl
        no_record Answer.ClearFailed plain = refl
        no_record Answer.LoadFailed plain = refl
        no_record Answer.Stopped plain = refl
        no_record (Answer.NewView n) plain = refl
        no_record (Answer.NewIdentity j n) plain = refl
        no_record (Answer.Settled m b) plain = refl

        recorded : (node : Node Kind Op Shown) (fate : Fate) → p.world.nodes i ≡ Some node → IsLawful D p.world (InputAt i (Input.Update key op level) fate)
            → Recorded D value_text keys i (step D node (Input.Update key op level) fate).node state (record_lines (ScriptStep.Asks i (Ask.Update key op level)) (Replied (step D node (Input.Update key op level) fate).output.reply))
        recorded node fate runs lawful =
            let now = step D node (Input.Update key op level) fate in
            subst (λ ks. Recorded D value_text ks i now.node state (record_lines (ScriptStep.Asks i (Ask.Update key op level)) (Replied now.output.reply))) (keys_of i node runs)
            (subst (λ j. Recorded D value_text node.keys j now.node state (record_lines (ScriptStep.Asks j (Ask.Update key op level)) (Replied now.output.reply))) (agrees.logs.identity i node runs)
            (update_recorded D value_text state node key op level fate (own i node runs) (held_by i node runs) (exact_then i (Input.Update key op level) fate node runs lawful key)))

    tick_lawful : (i : ℕ) → let q = played D p (ScriptStep.Asks i Ask.Tick) in IsStepLawful state (ScriptStep.Asks i Ask.Tick) q.events q.world q.lines
    tick_lawful i =
        input_case D (λ q. IsStepLawful state (ScriptStep.Asks i Ask.Tick) q.events q.world q.lines) p (Head.Asked i Ask.Tick) i Input.PruneTick tt
        (λ answer plain. told_lawful (ScriptStep.Asks i Ask.Tick) (Head.Asked i Ask.Tick) answer (no_record answer plain) refl)
        (λ q is. input_lawful (ScriptStep.Asks i Ask.Tick) q (Head.Asked i Ask.Tick) i Input.PruneTick is (recorded is.node is.fate is.runs is.lawful) (λ later a. no_shows later [] refl))
      where
        no_record : (answer : Answer Shown) → IsPlainAnswer answer → record_lines {Op = Op} (ScriptStep.Asks i Ask.Tick) answer ≡ []
        no_record Answer.Gone plain = refl
        no_record Answer.HistoryFull plain = refl
        no_record (Replied reply) plain = absurd plain
        no_record Answer.NoSuchView plain = refl
        no_record Answer.NoSuchMessage plain = refl
        no_record Answer.Lost plain = refl
        no_record Answer.Nothing plain = refl
        no_record Answer.LastMember plain = refl
        no_record Answer.PlaceTaken plain = refl
        no_record Answer.TooManyIdentities plain = refl
        no_record Answer.ClearFailed plain = refl
        no_record Answer.LoadFailed plain = refl
        no_record Answer.Stopped plain = refl
        no_record (Answer.NewView n) plain = refl
        no_record (Answer.NewIdentity j n) plain = refl
        no_record (Answer.Settled m b) plain = refl

        recorded : (node : Node Kind Op Shown) (fate : Fate) → p.world.nodes i ≡ Some node → IsLawful D p.world (InputAt i Input.PruneTick fate)
            → Recorded D value_text keys i (step D node Input.PruneTick fate).node state (record_lines (ScriptStep.Asks i Ask.Tick) (Replied (step D node Input.PruneTick fate).output.reply))
        recorded node fate runs lawful =
            let now = step D node Input.PruneTick fate in
            let well = (safe_at p.events p.world reaches).views.running i node runs in
            subst (λ ks. Recorded D value_text ks i now.node state (record_lines (ScriptStep.Asks i Ask.Tick) (Replied now.output.reply))) (keys_of i node runs)
            (subst (λ j. Recorded D value_text node.keys j now.node state (record_lines (ScriptStep.Asks j Ask.Tick) (Replied now.output.reply))) (agrees.logs.identity i node runs)
            (tick_recorded D value_text node (subst AreApart (sym (keys_of i node runs)) apart) (ap (is_member node.view) (agrees.logs.identity i node runs) ∙ well.member) state (own i node runs) (held_by i node runs)
            (λ name. (agrees.logs.held i node name runs).closed) fate (exact_then i Input.PruneTick fate node runs lawful)))

    -- quiet events leave the records made, and members with at least what they held
    record Quietly (events : List (Event Op)) (world : World Kind Op Shown) : Type 0 where
      reaches_it : Reaches events world
      logs : HasLogs state.made world
      given : p.world.view.given ≤ world.view.given
      behind : (t : ℕ) (new : Node Kind Op Shown) → world.nodes t ≡ Some new → (p.world.view.given ≤ t) ⊎ ((old : Node Kind Op Shown) × (p.world.nodes t ≡ Some old) × ((key : Text) → IsPartOf (old.entries key).history (new.entries key).history))

    quietly_on : (events : List (Event Op)) (world : World Kind Op Shown) (event : Event Op) → IsLawful D world event → IsQuietEvent event → Quietly events world → Quietly (events ++ event ∷ []) (happens D world event)
    quietly_on events world event lawful quiet so_far =
        let run_there = so_far.reaches_it.is_run in
        record {
          reaches_it = reaches_next events world event lawful so_far.reaches_it;
          logs = quiet_logs D members keys events world run_there state.made so_far.logs event quiet lawful;
          given = (let a = so_far.given in let b = given_grows D members keys events world run_there event lawful in omega (arith, a, b));
          behind = λ t new runs. go t new (ran D members keys events world run_there event lawful t new runs);
        }
      where
        go : (t : ℕ) (new : Node Kind Op Shown) → Ran D members keys events world so_far.reaches_it.is_run event lawful t new
            → (p.world.view.given ≤ t) ⊎ ((old : Node Kind Op Shown) × (p.world.nodes t ≡ Some old) × ((key : Text) → IsPartOf (old.entries key).history (new.entries key).history))
        go t new (RanBefore old was part) = elim (so_far.behind t old was) [
          | inl late ↦ inl late
          | inr first ↦ inr (first.0, first.1, λ key. part_trans (first.0.entries key).history (old.entries key).history (new.entries key).history (first.2 key) (part key))
        ]
        go t new (IsNew late) = inl (let a = so_far.given in omega (arith, a, late))

    quietly : (s : ScriptStep Op) → IsStep s → IsQuietStep s → Quietly (played D p s).events (played D p s).world
    quietly s ok quiet =
        step_plays D Quietly quietly_on p s ok quiet
        (record { reaches_it = reaches; logs = agrees.logs; given = omega arith; behind = λ t new runs. inr (new, runs, λ key. part_same (new.entries key).history) })

    quiet_trails : (events : List (Event Op)) (world : World Kind Op Shown) → Quietly events world → Trails keys state world
    quiet_trails events world q =
        record {
          logs = q.logs;
          held = λ i node decl runs is. elim (q.behind i node runs) [
            | inl late ↦ subst (λ (H : History Op). IsPartOf H (node.entries decl.name).history) (sym (agrees.fresh i decl.name late)) (λ j. refl)
            | inr first ↦ subst (λ (H : History Op). IsPartOf H (node.entries decl.name).history) (sym (agrees.held i first.0 decl first.1 is)) (first.2 decl.name)
          ];
          fresh = λ i key late. agrees.fresh i key (let a = q.given in omega (arith, a, late));
        }

    no_records_told : (s : ScriptStep Op) → IsQuietStep s → (lines : List (Told Op Shown)) → recorded_in s lines ≡ []
    no_records_told (ScriptStep.Asks i (Ask.Update key op level)) quiet lines = absurd quiet
    no_records_told (ScriptStep.Asks i (Ask.Get key level)) quiet lines = each_nothing _ lines (λ t. refl)
    no_records_told (ScriptStep.Asks i Ask.Flush) quiet lines = each_nothing _ lines (λ t. refl)
    no_records_told (ScriptStep.Asks i (Ask.Gossip to)) quiet lines = each_nothing _ lines (λ t. refl)
    no_records_told (ScriptStep.Deliver from to index) quiet lines = each_nothing _ lines (λ t. refl)
    no_records_told (ScriptStep.Lose from to) quiet lines = each_nothing _ lines (λ t. refl)
    no_records_told ScriptStep.Round quiet lines = each_nothing _ lines (λ t. refl)
    no_records_told (ScriptStep.Asks i Ask.Tick) quiet lines = absurd quiet
    no_records_told (ScriptStep.Timeout i op) quiet lines = each_nothing _ lines (λ t. refl)
    no_records_told (ScriptStep.Remove i) quiet lines = each_nothing _ lines (λ t. refl)
    no_records_told (ScriptStep.Join place) quiet lines = each_nothing _ lines (λ t. refl)
    no_records_told (ScriptStep.Restart i) quiet lines = each_nothing _ lines (λ t. refl)
    no_records_told (ScriptStep.Asks i (Ask.Install view)) quiet lines = each_nothing _ lines (λ t. refl)
    no_records_told ScriptStep.Settle quiet lines = absurd quiet

    -- a quiet step whose answers show nothing
    quiet_lawful : (s : ScriptStep Op) → IsStep s → IsQuietStep s → ((answer : Answer Shown) → get_lines D value_text s answer ≡ []) → let q = played D p s in IsStepLawful state s q.events q.world q.lines
    quiet_lawful s ok quiet nothing =
        let q = played D p s in
        let calm = quietly s ok quiet in
        plain_lawful state s q.events q.world q.lines calm.reaches_it (no_records_told s quiet q.lines) (quiet_trails q.events q.world calm) (λ later a. no_shows later (shown_in s q.lines) (each_nothing _ q.lines (λ t. nothing t.answer)))

    get_lawful : (i : ℕ) (key : Text) (level : Level) → let q = played D p (ScriptStep.Asks i (Ask.Get key level)) in IsStepLawful state (ScriptStep.Asks i (Ask.Get key level)) q.events q.world q.lines
    get_lawful i key level =
        let s = ScriptStep.Asks i (Ask.Get key level) in
        let calm = quietly s tt tt in
        input_case D (λ q. Quietly q.events q.world → IsStepLawful state s q.events q.world q.lines) p (Head.Asked i (Ask.Get key level)) i (Input.Get key level) tt
        (λ answer plain calm. told_lawful s (Head.Asked i (Ask.Get key level)) answer refl (no_value answer plain))
        (λ q is calm. got q is calm) calm
      where
        no_value : (answer : Answer Shown) → IsPlainAnswer answer → get_lines D value_text (ScriptStep.Asks i (Ask.Get key level)) answer ≡ []
        no_value Answer.Gone plain = refl
        no_value Answer.HistoryFull plain = refl
        no_value (Replied reply) plain = absurd plain
        no_value Answer.NoSuchView plain = refl
        no_value Answer.NoSuchMessage plain = refl
        no_value Answer.Lost plain = refl
        no_value Answer.Nothing plain = refl
        no_value Answer.LastMember plain = refl
        no_value Answer.PlaceTaken plain = refl
        no_value Answer.TooManyIdentities plain = refl
        no_value Answer.ClearFailed plain = refl
        no_value Answer.LoadFailed plain = refl
        no_value Answer.Stopped plain = refl
        no_value (Answer.NewView n) plain = refl
        no_value (Answer.NewIdentity j n) plain = refl
        no_value (Answer.Settled m b) plain = refl

        got : (q : Playing Kind Op Shown) → IsInput D p q (Head.Asked i (Ask.Get key level)) i (Input.Get key level) → Quietly q.events q.world → IsStepLawful state (ScriptStep.Asks i (Ask.Get key level)) q.events q.world q.lines
        got q is calm =
            let s = ScriptStep.Asks i (Ask.Get key level) in
            let input = Input.Get key level in
            let output = (step D is.node input is.fate).output in
            let line = told_line D (Head.Asked i (Ask.Get key level)) output in
            moved state s q.events q.events q.world q.world (line ∷ []) q.lines refl refl (is.lines ∙ ap (λ ls. ls ++ line ∷ []) silent)
            (plain_lawful state s q.events q.world (line ∷ []) calm.reaches_it refl (quiet_trails q.events q.world calm)
            (λ later a. subst (AreShows D value_text keys later) (sym (append_nothing (get_lines D value_text s (Replied output.reply))))
            (get_shows D value_text keys later q.world (sound_at q.events q.world calm.reaches_it) a i is.node key level is.fate (keys_of i is.node is.runs)
            (ap (λ (w : World Kind Op Shown). w.nodes i) is.world ∙ now_runs D value_text keys members p.events p.world reaches.is_run state agrees i input is.fate is.node is.runs))))

    step_lawful : (s : ScriptStep Op) → IsStep s → IsTraced s → let q = played D p s in IsStepLawful state s q.events q.world q.lines
    step_lawful (ScriptStep.Asks i (Ask.Update key op level)) ok traced = update_lawful i key op level
    step_lawful (ScriptStep.Asks i (Ask.Get key level)) ok traced = get_lawful i key level
    step_lawful (ScriptStep.Asks i Ask.Flush) ok traced = quiet_lawful (ScriptStep.Asks i Ask.Flush) ok tt (λ answer. refl)
    step_lawful (ScriptStep.Asks i (Ask.Gossip to)) ok traced = quiet_lawful (ScriptStep.Asks i (Ask.Gossip to)) ok tt (λ answer. refl)
    step_lawful (ScriptStep.Deliver from to index) ok traced = quiet_lawful (ScriptStep.Deliver from to index) ok tt (λ answer. refl)
    step_lawful (ScriptStep.Lose from to) ok traced = quiet_lawful (ScriptStep.Lose from to) ok tt (λ answer. refl)
    step_lawful ScriptStep.Round ok traced = quiet_lawful ScriptStep.Round ok tt (λ answer. refl)
    step_lawful (ScriptStep.Asks i Ask.Tick) ok traced = tick_lawful i
    step_lawful (ScriptStep.Timeout i op) ok traced = quiet_lawful (ScriptStep.Timeout i op) ok tt (λ answer. refl)
    step_lawful (ScriptStep.Remove i) ok traced = quiet_lawful (ScriptStep.Remove i) ok tt (λ answer. refl)
    step_lawful (ScriptStep.Join place) ok traced = quiet_lawful (ScriptStep.Join place) ok tt (λ answer. refl)
    step_lawful (ScriptStep.Restart i) ok traced = quiet_lawful (ScriptStep.Restart i) ok tt (λ answer. refl)
    step_lawful (ScriptStep.Asks i (Ask.Install view)) ok traced = quiet_lawful (ScriptStep.Asks i (Ask.Install view)) ok tt (λ answer. refl)
    step_lawful ScriptStep.Settle ok traced = absurd traced

  -- ALL STEPS

  -- the lines at the end are lawful, and change nothing
  ended : (state : TraceState Op) (events : List (Event Op)) (world : World Kind Op Shown) → Reaches events world → Agrees keys state world → AreShows D value_text keys state (of_members (show_line D value_text) world)
  ended state events world reaches agrees = end_shows D value_text keys state world (sound_at events world reaches) agrees (apart_declared keys apart)

  all_lawful : (state : TraceState Op) (p : Playing Kind Op Shown) (steps : List (ScriptStep Op)) → AllByRecursion IsStep steps → AllByRecursion IsTraced steps → p.lines ≡ [] → Reaches p.events p.world → Agrees keys state p.world → Lawfully state (lines_from D value_text state p steps)
  all_lawful state p [] ok traced silent reaches agrees = (ended state p.events p.world reaches agrees).lawful
  all_lawful state p (s ∷ steps) ok traced silent reaches agrees =
      let q = played D p s in
      let one = step_lawful state p silent reaches agrees s ok.0 traced.0 in
      let lines = step_lines D value_text state s q.world q.lines in
      lawful_both D.data_type value_text keys state lines (lines_from D value_text (after_lines state lines) (record q { lines = [] }) steps) one.lawful
      (all_lawful (after_lines state lines) (record q { lines = [] }) steps ok.1 traced.1 refl one.reaches one.agrees)

  -- in the end the trace's state is that of the world
  all_agree : (state : TraceState Op) (p : Playing Kind Op Shown) (steps : List (ScriptStep Op)) → AllByRecursion IsStep steps → AllByRecursion IsTraced steps → p.lines ≡ [] → Reaches p.events p.world → Agrees keys state p.world
      → Agrees keys (after_lines state (lines_from D value_text state p steps)) (played_all D p steps).world
  all_agree state p [] ok traced silent reaches agrees = subst (λ st. Agrees keys st p.world) (sym (ended state p.events p.world reaches agrees).leaves) agrees
  all_agree state p (s ∷ steps) ok traced silent reaches agrees =
      let q = played D p s in
      let one = step_lawful state p silent reaches agrees s ok.0 traced.0 in
      let lines = step_lines D value_text state s q.world q.lines in
      subst (λ st. Agrees keys st (played_all D (record q { lines = [] }) steps).world) (sym (after_both state lines (lines_from D value_text (after_lines state lines) (record q { lines = [] }) steps)))
      (all_agree (after_lines state lines) (record q { lines = [] }) steps ok.1 traced.1 refl one.reaches one.agrees)

  agrees_first : members ≤ identity_limit → Agrees keys nothing_traced (start {Op = Op} {Shown = Shown} members keys)
  agrees_first few =
      let logs = start_has D members keys few in
      record {
        logs = logs;
        held = λ i node decl runs is. let same : no_records ≡ (node.entries decl.name).history = (λ k j. sym ((logs.held i node decl.name runs).part j ∙ take_none _) k) in same;
        fresh = λ i key late. refl;
      }

-- THE TRACE OF A SCRIPT'S RUN IS LAWFUL
pub trace_is_lawful : {Kind Op Shown : Type 0} (D : Replication Kind Op Shown) (value_text : Shown → Text) (members : ℕ) (keys : List (KeyDecl Kind)) (answers : KeeperAnswers) (steps : List (ScriptStep Op))
    → 1 ≤ members → members ≤ identity_limit → AreApart keys → AllByRecursion IsStep steps → AllByRecursion IsTraced steps → Traces.IsLawful D.data_type value_text (trace_of D value_text answers members keys steps)
trace_is_lawful {Op = Op} {Shown = Shown} D value_text members keys answers steps some few apart ok traced =
    all_lawful D value_text members keys apart nothing_traced (opening answers members keys) steps ok traced refl
    (record { is_run = no_events D members keys answers some few; same_keys = refl }) (agrees_first D value_text members keys apart few)

-- AND TELLS WHAT MEMBERS HOLD
pub trace_tells : {Kind Op Shown : Type 0} (D : Replication Kind Op Shown) (value_text : Shown → Text) (members : ℕ) (keys : List (KeyDecl Kind)) (answers : KeeperAnswers) (steps : List (ScriptStep Op))
    → 1 ≤ members → members ≤ identity_limit → AreApart keys → AllByRecursion IsStep steps → AllByRecursion IsTraced steps
    → TellsHeld keys (after_lines nothing_traced (trace_of D value_text answers members keys steps).lines) (played_all D (opening answers members keys) steps).world
trace_tells {Op = Op} {Shown = Shown} D value_text members keys answers steps some few apart ok traced =
    let agrees = all_agree D value_text members keys apart nothing_traced (opening answers members keys) steps ok traced refl
    (record { is_run = no_events D members keys answers some few; same_keys = refl }) (agrees_first D value_text members keys apart few) in
    record { logs = agrees.logs; held = λ i node decl runs h. agrees.held i node decl runs (apart_declared keys apart decl h) }
