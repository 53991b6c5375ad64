-- What a recorder sees of a script's run, and the text of what it then has told.
--     TracesStep, TracesSteps        steps were played, and what they did was seen
--     TellsEnd, EndsWithTrace        what members show at the end was seen, and the trace was told
use Rattle.std.specs.Prelude.{◌≡◌, ℕ, List, string_bytes}
use Rattle.model_history.specs.Texts.{Text}
use Rattle.model_members.specs.Node.{KeyDecl}
use Rattle.model_members.specs.Script.{Playing}
use Rattle.model_kinds.specs.ShownText.{shown_text}
use Rattle.model_kinds.specs.declared.kind.Kind.{Kind}
use Rattle.model_kinds.specs.declared.operation.Op.{Op}
use Rattle.model_kinds.specs.declared.shown.Shown.{Shown}
use Rattle.data_lattice.specs.declared.replica.Replica.{Ghosts}
use Rattle.data_lattice.specs.declared.spelled.SpelledData.{Ghosts as Spelling}
use Rattle.member_keeper.specs.declared.keeper.Keeper.{Ghosts as Keeping}
use Rattle.member_node.specs.Steps.{replication}
use Rattle.script_reading.specs.declared.clients.RunStep.{RunStep}
use Rattle.script_reading.specs.declared.script.Step.{Step}
use Rattle.world_members.specs.declared.event.Event.{Event}
use Rattle.world_members.specs.declared.world.World.{World}
use Rattle.world_members.specs.Steps.{Plays}
use Rattle.report_lines.specs.declared.playing.Ending.{Ending}
use Rattle.report_lines.specs.declared.playing.Ending.TheVariants.{Told, NotCleared, Memory}
use Rattle.report_lines.specs.Run.{steps_of}
use Rattle.report_lines.specs.Telling.{LoadAll, SetsOut, PassesSteps}
use Rattle.trace_lines.specs.Meant.{trace_meant}
use Rattle.trace_lines.specs.declared.trace.Trace.{Trace}
use Rattle.trace_text.specs.Reading.{Spells}
use Rattle.trace_text.specs.Texts.{trace_text}
use Rattle.trace_told.specs.Seen.{steps_seen}
use Rattle.trace_recorder.specs.declared.recorder.Recorder.{Recorder}
use Rattle.trace_entries.specs.Seeing.{Sees}
use Rattle.trace_members.specs.Watching.{SeesStep, SeesEnd}

-- the trace that a recorder has told
abbrev pub trace_by : Recorder → Trace
trace_by code = record { keys = code.keys; lines = code.lines }

module _ {T K Delta : Type 0} {ghosts : Ghosts T Kind Op Delta} {keeping : Keeping K} (spelling : Spelling T Kind Op Delta) where
  -- a step was played, and what it did was seen
  abbrev pub TracesStep : Step → (old new : World T K Kind Op Delta ghosts keeping) → (before after : Recorder) → Type 0
  TracesStep step old new before after = (events : List Event) × Plays spelling step old new events × SeesStep spelling step new events before after

  -- all steps were, wherever a script sets out, if what is loaded is what was stored
  pub record TracesSteps (steps : List RunStep) (old new : World T K Kind Op Delta ghosts keeping) (before after : Recorder) : Type 0 where
    pub passes : PassesSteps spelling steps old new
    pub sees : LoadAll steps old → (kinds : Text → Kind) (members : ℕ) (decls : List (KeyDecl Kind)) (p : Playing Kind Op Shown) → SetsOut spelling kinds members decls p passes.1.given old
        → Sees before after (steps_seen (replication ghosts spelling) shown_text p (steps_of steps))

  -- it was, and the text is that of the trace that was then told
  pub record TellsEnd (world : World T K Kind Op Delta ghosts keeping) (before : Recorder) (text : List ℕ) : Type 0 where
    pub after : Recorder
    pub sees : SeesEnd spelling world before after
    pub written : text ≡ trace_text (trace_meant (trace_by after))
    pub spelled : Spells text (trace_by after)

  -- the end of a run of which the recorder saw all steps: it is told so, or memory was refused
  abbrev pub EndsWithTrace : World T K Kind Op Delta ghosts keeping → Recorder → Ending → Type 0
  EndsWithTrace world before (Told text) = TellsEnd world before (string_bytes text)
  EndsWithTrace world before (NotCleared place) = ⊥
  EndsWithTrace world before Memory = Unit {0}
