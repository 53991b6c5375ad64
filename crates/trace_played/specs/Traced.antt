-- The trace of a script's run over keepers.
--     IsTraceText        the text is that of the trace of the run, and the trace is lawful
--     IsTraceOver        the text is that of a trace, tied to the keepers place by place
use Rattle.std.specs.Prelude.{◌≡◌, ◌≢◌, ℕ, List, map, All}
use Rattle.model_history.specs.History.{History}
use Rattle.model_members.specs.DataType.{DataType}
use Rattle.model_members.specs.Script.{KeeperAnswers, none_fails}
use Rattle.model_kinds.specs.ShownText.{shown_text}
use Rattle.model_kinds.specs.declared.kind.Kind.{Kind}
use Rattle.model_kinds.specs.declared.operation.Op.{Op}
use Rattle.model_kinds.specs.declared.shown.Shown.{Shown}
use Rattle.member_keeper.specs.declared.keeper.Keeper.{Ghosts as Keeping}
use Rattle.member_node.specs.Members.{spelled_groups}
use Rattle.model_traces.specs.Traces.{IsLawful}
use Rattle.model_traces.specs.Runs.{trace_of}
use Rattle.script_reading.specs.declared.clients.RunStep.{RunStep}
use Rattle.script_reading.specs.declared.clients.RunStep.TheVariants.{Plain}
use Rattle.script_reading.specs.declared.script.Script.{Script}
use Rattle.script_reading.specs.declared.script.Step.TheVariants.{Settle}
use Rattle.world_places.specs.Keeping.{Given}
use Rattle.report_lines.specs.Kept.{answers_by, NoneRose, EndsOver, IsTheRun, IsRunOver}
use Rattle.report_lines.specs.Run.{decl_of, in_order, steps_of, ending}
use Rattle.trace_lines.specs.Meant.{trace_meant}
use Rattle.trace_lines.specs.declared.trace.Trace.{Trace}
use Rattle.trace_text.specs.Reading.{Spells}
use Rattle.trace_text.specs.Texts.{trace_text}

-- no step is a settle
abbrev pub HasNoSettle : List RunStep → Type 0
HasNoSettle steps = All (λ step. step ≢ Plain Settle) steps

module _ (data_type : DataType Kind Op Shown) (history_byte : Kind → History Op → ℕ) (history_spelled : Kind → History Op → List ℕ) where
  -- the text spells the trace of the script's run, as this program writes traces, and the trace is lawful
  pub record IsTraceText (answers : KeeperAnswers) (script : Script) (text : List ℕ) : Type 0 where
    pub trace : Trace
    pub of_run : trace_meant trace ≡ trace_of (spelled_groups data_type history_byte history_spelled) shown_text answers script.members (map decl_of (in_order script.keys)) (steps_of script.steps)
    pub lawful : IsLawful data_type shown_text (trace_meant trace)
    pub written : text ≡ trace_text (trace_meant trace)
    pub spelled : Spells text trace

  module _ {K : Type 0} (keeping : Keeping K) where
    -- with the answers that the keepers gave, and with none that fails where no call did
    pub record IsWholeTrace (given : Given) (script : Script) (old new : List K) (text : List ℕ) : Type 0 where
      pub traced : IsTraceText (answers_by given) script text
      pub over : EndsOver data_type history_byte history_spelled keeping given script (ending data_type history_byte history_spelled (answers_by given) script) old new
      pub run : IsTheRun data_type history_byte history_spelled keeping (answers_by given) script (ending data_type history_byte history_spelled (answers_by given) script)
      pub unfailing : NoneRose keeping old new → IsTraceText none_fails script text

    -- the text of a script's trace over the keepers
    abbrev pub IsTraceOver : Script → List K → List K → List ℕ → Type 0
    IsTraceOver = IsRunOver data_type history_byte history_spelled keeping (λ answers script text. Unit {0}) IsWholeTrace
