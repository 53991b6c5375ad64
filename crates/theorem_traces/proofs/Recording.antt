-- A member's input that makes records: after its record lines the trace's state has all records made, and of the member all that it holds.
--     input_case        an input of a script is answered without an event, or is one event with one line
--     Recorded          what record lines of one member come to
use Rattle.std.proofs.Common.{◌≡◌, ◌≢◌, ℕ, List, [], ◌∷◌, ◌++◌, refl, sym, ap, subst, ◌∙◌, arith, Option, Some, None, inl, inr}
use Rattle.std.specs.Prelude.{⊤, if◌then◌else◌, option_map}
use Rattle.std.proofs.lemmas.Bool.Decides.{eqb_tells}
use Rattle.model_history.specs.Table.{with_at}
use Rattle.model_history.specs.Texts.{Text}
use Rattle.model_history.specs.History.{History, IsPartOf}
use Rattle.model_history.proofs.HistoryLaws.{with_at_same}
use Rattle.model_members.specs.DataType.{Replication}
use Rattle.model_members.specs.Node.{KeyDecl, Node, Input, Fate, Output}
use Rattle.model_members.specs.Node.Fate.{NoStore}
use Rattle.model_members.specs.Step.{step, is_full}
use Rattle.model_members.specs.World.{World, Event, Turn, happens, turn_of, output_of, IsGiven, IsLawful, IsRun}
use Rattle.model_members.specs.World.Event.{InputAt}
use Rattle.model_members.specs.Script.{Head, Answer, Told, Playing, told, given, take_turn, output_lines}
use Rattle.model_members.specs.Script.Answer.{Replied, HistoryFull, Gone}
use Rattle.model_members.proofs.Cases.{stepped_at}
use Rattle.theorem_runs.specs.Logs.{HasLogs}
use Rattle.theorem_runs.proofs.Growth.{part_same}
use Rattle.theorem_runs.proofs.Keeping.{if_tells}
use Rattle.theorem_runs.proofs.RunViews.{same_some}
use Rattle.theorem_operations.proofs.PlayedInputs.{turn_taken}
use Rattle.model_traces.specs.Traces.{TraceLine, TraceState, after_lines, AreLawful}
use Rattle.model_traces.proofs.Lines.{with_at_own}
use Rattle.theorem_traces.proofs.Events.{Ran, ran, given_grows, input_logs}
use Rattle.theorem_traces.proofs.Events.Ran.{RanBefore, IsNew}
use Rattle.theorem_traces.proofs.QuietSteps.{turn_at_is, steps_at}
use Rattle.theorem_traces.proofs.Holding.{IsDeclared, Agrees, Trails}

-- an answer that is no member's
abbrev pub IsPlainAnswer : {Shown : Type 0} → Answer Shown → Type 0
IsPlainAnswer Gone = ⊤
IsPlainAnswer HistoryFull = ⊤
IsPlainAnswer _ = ⊥

module _ {Kind Op Shown : Type 0} (D : Replication Kind Op Shown) where
  -- the line of an output
  abbrev pub told_line : Head Op → Output Op Shown → Told Op Shown
  told_line head output = record { head = head; answer = Replied output.reply; posts = output.posts; ended = output.ended }

  -- an input became one event of a running member
  pub record IsInput (p q : Playing Kind Op Shown) (head : Head Op) (i : ℕ) (input : Input Op) : Type 0 where
    pub node : Node Kind Op Shown
    pub runs : p.world.nodes i ≡ Some node
    pub fate : Fate
    pub lawful : IsLawful D p.world (InputAt i input fate)
    pub world : q.world ≡ happens D p.world (InputAt i input fate)
    pub events : q.events ≡ p.events ++ InputAt i input fate ∷ []
    pub lines : q.lines ≡ p.lines ++ told_line head (step D node input fate).output ∷ []

  pub input_case : (P : Playing Kind Op Shown → Type 0) (p : Playing Kind Op Shown) (head : Head Op) (i : ℕ) (input : Input Op) → IsGiven D p.world i input
      → ((answer : Answer Shown) → IsPlainAnswer answer → P (told p head answer)) → ((q : Playing Kind Op Shown) → IsInput p q head i input → P q) → P (given D p head (InputAt i input))
  input_case P p head i input is_given plain takes = by_turn (turn_of p.world (InputAt i input NoStore)) refl
    where
      by_turn : (o : Option (Turn Kind Op Shown)) → turn_of p.world (InputAt i input NoStore) ≡ o → P (elim o [ None ↦ told p head Gone | Some turn ↦ if is_full D turn.before then told p head HistoryFull else take_turn D p head (InputAt i input) turn ])
      by_turn None e = plain Gone tt
      by_turn (Some turn) e =
          let t = turn_at_is D p.world i input NoStore turn e in
          if_tells P (is_full D turn.before) (told p head HistoryFull) (take_turn D p head (InputAt i input) turn) (λ full. plain HistoryFull tt)
          (λ room.
          let taken = turn_taken D p head (InputAt i input) turn in
          let output : output_of D p.world (InputAt i input taken.fate) ≡ Some (step D turn.before input taken.fate).output =
          ap (λ (o : Option (Node Kind Op Shown)). option_map (λ (turn : Turn Kind Op Shown). (step D turn.before turn.input turn.fate).output) (option_map (λ (node : Node Kind Op Shown). record { at = i; before = node; input = input; fate = taken.fate }) o)) t.runs in
          takes (take_turn D p head (InputAt i input) turn) (record {
            node = turn.before;
            runs = t.runs;
            fate = taken.fate;
            lawful = (is_given, steps_at D p.world i input taken.fate turn t room taken.fits);
            world = taken.world;
            events = taken.events;
            lines = taken.lines ∙ ap (λ (o : Option (Output Op Shown)). p.lines ++ output_lines D head o) output;
          }))

-- WHAT RECORD LINES COME TO

module _ {Kind Op Shown : Type 0} (D : Replication Kind Op Shown) (value_text : Shown → Text) (keys : List (KeyDecl Kind)) where
  -- lines of a member that record what made it what it is now
  pub record Recorded (i : ℕ) (now : Node Kind Op Shown) (state : TraceState Op) (lines : List (TraceLine Op)) : Type 0 where
    pub lawful : AreLawful D.data_type value_text keys state lines
    pub made : (key : Text) → (after_lines state lines).made key ≡ with_at (state.made key) i ((now.entries key).history i)
    pub own : (decl : KeyDecl Kind) → IsDeclared keys decl → (after_lines state lines).held i decl.name ≡ (now.entries decl.name).history
    pub others : (t : ℕ) (key : Text) → t ≢ i → (after_lines state lines).held t key ≡ state.held t key

  module _ (members : ℕ) (events : List (Event Op)) (world : World Kind Op Shown) (is_run : IsRun D members keys events world) (state : TraceState Op) (agrees : Agrees keys state world) where
    -- what members held before is part of what they hold then
    part_then : (event : Event Op) (lawful : IsLawful D world event) (t : ℕ) (new : Node Kind Op Shown) (decl : KeyDecl Kind) → (happens D world event).nodes t ≡ Some new → IsDeclared keys decl → IsPartOf (state.held t decl.name) (new.entries decl.name).history
    part_then event lawful t new decl runs is = go (ran D members keys events world is_run event lawful t new runs)
      where
        go : Ran D members keys events world is_run event lawful t new → IsPartOf (state.held t decl.name) (new.entries decl.name).history
        go (RanBefore old was part) = subst (λ (H : History Op). IsPartOf H (new.entries decl.name).history) (sym (agrees.held t old decl was is)) (part decl.name)
        go (IsNew late) = subst (λ (H : History Op). IsPartOf H (new.entries decl.name).history) (sym (agrees.fresh t decl.name late)) (λ j. refl)

    -- the member that made the step runs
    pub now_runs : (i : ℕ) (input : Input Op) (fate : Fate) (node : Node Kind Op Shown) → world.nodes i ≡ Some node → (happens D world (InputAt i input fate)).nodes i ≡ Some (step D node input fate).node
    now_runs i input fate node runs = subst (λ (o : Option (Node Kind Op Shown)). (stepped_at D world i o input fate).nodes i ≡ Some (step D node input fate).node) (sym runs) (with_at_same world.nodes i (Some (step D node input fate).node))

    pub recorded_trails : (i : ℕ) (input : Input Op) (fate : Fate) (node : Node Kind Op Shown) → world.nodes i ≡ Some node → (lawful : IsLawful D world (InputAt i input fate)) (lines : List (TraceLine Op)) → Recorded i (step D node input fate).node state lines
        → Trails keys (after_lines state lines) (happens D world (InputAt i input fate))
    recorded_trails i input fate node runs lawful lines recorded =
        record {
          logs = subst (λ (l : Text → History Op). HasLogs l (happens D world (InputAt i input fate))) (sym made) (input_logs D members keys events world is_run state.made agrees.logs i input fate node runs lawful);
          held = λ t new decl runs' is. elim (eqb_tells t i) [
            | inl same ↦
                let now : (step D node input fate).node ≡ new = same_some ((happens D world (InputAt i input fate)).nodes i) (step D node input fate).node new (now_runs i input fate node runs) (ap (happens D world (InputAt i input fate)).nodes (sym same.1) ∙ runs') in
                subst (λ (H : History Op). IsPartOf H (new.entries decl.name).history)
                (sym (ap (λ j. (after_lines state lines).held j decl.name) same.1 ∙ recorded.own decl is ∙ ap (λ (n : Node Kind Op Shown). (n.entries decl.name).history) now)) (part_same (new.entries decl.name).history)
            | inr other ↦ subst (λ (H : History Op). IsPartOf H (new.entries decl.name).history) (sym (recorded.others t decl.name other.1)) (part_then (InputAt i input fate) lawful t new decl runs' is)
          ];
          fresh = λ t key late.
              let grown = given_grows D members keys events world is_run (InputAt i input fate) lawful in
              let small = agrees.logs.given i node runs in
              recorded.others t key (λ e. absurd (omega (arith, grown, small, late, e))) ∙ agrees.fresh t key (omega (arith, grown, late));
        }
      where
        made : (after_lines state lines).made ≡ (λ key. with_at (state.made key) i (((step D node input fate).node.entries key).history i))
        made = λ k key. recorded.made key k
