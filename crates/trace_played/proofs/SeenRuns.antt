-- What a recorder sees of a step, and of steps one after another.
use Rattle.std.proofs.Common.{◌≡◌, ℕ, suc, List, [], ◌∷◌, ◌++◌, length, refl, sym, ap, subst, ◌∙◌, append_assoc, append-nil, Ok, Err}
use Rattle.std.specs.Prelude.{OnOk, IfOk, Result, MatchResult, String, string_bytes}
use Rattle.std.specs.declared.alloc.Global.{Global}
use Rattle.model_history.specs.Texts.{Text}
use Rattle.model_members.specs.DataType.{Replication}
use Rattle.model_members.specs.Script.{Playing, ScriptStep, played, played_all}
use Rattle.model_kinds.specs.ShownText.{shown_text}
use Rattle.model_kinds.specs.declared.kind.Kind.{Kind}
use Rattle.model_kinds.specs.declared.operation.Op.{Op}
use Rattle.model_kinds.specs.declared.shown.Shown.{Shown}
use Rattle.data_lattice.specs.declared.replica.Replica.{Ghosts}
use Rattle.data_lattice.specs.declared.spelled.SpelledData.{Ghosts as Spelling}
use Rattle.member_keeper.specs.declared.keeper.Keeper.{Ghosts as Keeping}
use Rattle.member_node.specs.Steps.{replication}
use Rattle.script_reading.specs.declared.clients.RunStep.{RunStep}
use Rattle.script_reading.specs.declared.clients.RunStep.TheVariants.{Plain, Threads, Subscribe, Unsubscribe}
use Rattle.script_reading.specs.declared.script.Step.{Step}
use Rattle.script_reading.specs.Meant.{step_of}
use Rattle.world_members.specs.declared.event.Event.{Event}
use Rattle.world_members.specs.declared.world.World.{World}
use Rattle.world_members.specs.Steps.{Plays}
use Rattle.report_lines.specs.Telling.{AreAllKept}
use Rattle.trace_lines.specs.Meant.{trace_meant}
use Rattle.trace_lines.specs.declared.trace.Trace.{Trace}
use Rattle.trace_text.specs.Reading.{Spells}
use Rattle.trace_text.specs.Texts as texts
use Rattle.trace_members.specs.Watching.{SeesStep, SeesEnd}
use Rattle.report_lines.specs.Run.{steps_of}
use Rattle.report_lines.proofs.Runs.{ArePlain, one_way}
use Rattle.report_lines.proofs.Stages.{first_passed, next_passed, goes_further}
use Rattle.trace_told.specs.Seen.{step_seen, steps_seen}
use Rattle.trace_recorder.specs.declared.recorder.Recorder.{Recorder}
use Rattle.trace_played.specs.Seeing.{TracesStep, TracesSteps, TellsEnd, trace_by}
use Rattle.trace_entries.specs.Seeing.{Sees}
use Rattle.trace_entries.proofs.SeenLines.{sees_nothing, sees_both}

-- STEPS

steps_more : (D : Replication Kind Op Shown) (value_text : Shown → Text) (p : Playing Kind Op Shown) (steps : List (ScriptStep Op)) (s : ScriptStep Op)
    → steps_seen D value_text p (steps ++ s ∷ []) ≡ steps_seen D value_text p steps ++ step_seen D value_text s (played D (played_all D p steps) s).world (played D (played_all D p steps) s).lines
steps_more D value_text p [] s = append-nil (step_seen D value_text s (played D p s).world (played D p s).lines)
steps_more D value_text p (t ∷ steps) s =
    let q : Playing Kind Op Shown = record (played D p t) { lines = [] } in
    let first = step_seen D value_text t (played D p t).world (played D p t).lines in
    ap (λ ls. first ++ ls) (steps_more D value_text q steps s)
    ∙ sym (append_assoc first (steps_seen D value_text q steps) (step_seen D value_text s (played D (played_all D q steps) s).world (played D (played_all D q steps) s).lines))

plain_more : (done : List RunStep) (step : Step) → steps_of (done ++ Plain step ∷ []) ≡ steps_of done ++ step_of step ∷ []
plain_more [] step = refl
plain_more (Plain s ∷ done) step = ap (λ ss. step_of s ∷ ss) (plain_more done step)
plain_more (Threads clients ∷ done) step = plain_more done step
plain_more (Subscribe at client key ∷ done) step = plain_more done step
plain_more (Unsubscribe at client key ∷ done) step = plain_more done step

-- A STEP

pub on_each : {A E : Type 0} (r : Result A E) (P Q X : Type 0) → OnOk r X → (X → P) → Q → MatchResult r (λ _. P) (λ _. Q)
on_each (Ok a) P Q X x p q = p x
on_each (Err e) P Q X x p q = q

module _ {T K Delta : Type 0} {ghosts : Ghosts T Kind Op Delta} {keeping : Keeping K} (spelling : Spelling T Kind Op Delta) (step : Step) (old new : World T K Kind Op Delta ghosts keeping) (events : List Event) (plays : Plays spelling step old new events) where
  pub step_traced : {A E : Type 0} (r : Result A E) (before after : Recorder) → OnOk r (SeesStep spelling step new events before after) → MatchResult r (λ _. TracesStep spelling step old new before after) (λ _. AreAllKept old new)
  step_traced r before after saw =
      on_each r (TracesStep spelling step old new before after) (AreAllKept old new) (SeesStep spelling step new events before after) saw (λ sees. (events, plays, sees)) (λ place. record { answers = plays.given place; keeps = plays.kept place })

-- THE END

module _ {T K Delta : Type 0} {ghosts : Ghosts T Kind Op Delta} {keeping : Keeping K} (spelling : Spelling T Kind Op Delta) (world : World T K Kind Op Delta ghosts keeping) (before after : Recorder) (sees : SeesEnd spelling world before after) where
  pub end_told : {E : Type 0} (trace : Trace) → trace ≡ trace_by after → (r : Result (String Global) E) → IfOk r (λ text. string_bytes text ≡ texts.trace_text (trace_meant trace)) → IfOk r (λ text. Spells (string_bytes text) trace)
      → IfOk r (λ text. TellsEnd spelling world before (string_bytes text))
  end_told trace is (Ok text) written spelled = record {
    after = after;
    sees = sees;
    written = written ∙ ap (λ t. texts.trace_text (trace_meant t)) is;
    spelled = subst (Spells (string_bytes text)) is spelled;
  }
  end_told trace is (Err e) written spelled = written

-- STEPS ONE AFTER ANOTHER

module _ {T K Delta : Type 0} {ghosts : Ghosts T Kind Op Delta} {keeping : Keeping K} (spelling : Spelling T Kind Op Delta) where
  pub first_traced : (world : World T K Kind Op Delta ghosts keeping) (code : Recorder) → TracesSteps spelling [] world world code code
  first_traced world code = record { passes = first_passed spelling world; sees = λ load kinds members decls p sets. sees_nothing code }

  pub next_traced : (done : List RunStep) (step : Step) (n : ℕ) → n ≡ suc (length done) → (old mid new : World T K Kind Op Delta ghosts keeping) (before now after : Recorder) → ArePlain done → TracesSteps spelling done old mid before now → TracesStep spelling step mid new now after
      → TracesSteps spelling (done ++ Plain step ∷ []) old new before after
  next_traced done step n number old mid new before now after plain stage traces =
      record {
        passes = next_passed spelling done step n number old mid new traces.0 stage.passes traces.1;
        sees = λ load kinds members decls p sets.
            let D = replication ghosts spelling in
            let further = goes_further spelling done step n number old mid new traces.0 stage.passes traces.1 load kinds members decls p sets in
            let q = further.some.last in
            let last : q ≡ played_all D p (steps_of done) = (one_way D p done plain further.some.lines q further.some.plays).1 in
            let first = stage.sees further.load kinds members decls p further.sets in
            let rest = traces.2 kinds members decls q (played D q (step_of step)) further.reaches.means further.silent further.reaches.lines in
            subst (Sees before after) (sym (ap (steps_seen D shown_text p) (plain_more done step) ∙ steps_more D shown_text p (steps_of done) (step_of step)))
            (sees_both before now after (steps_seen D shown_text p (steps_of done)) _ first
            (subst (λ (x : Playing Kind Op Shown). Sees now after (step_seen D shown_text (step_of step) (played D x (step_of step)).world (played D x (step_of step)).lines)) last rest));
      }
