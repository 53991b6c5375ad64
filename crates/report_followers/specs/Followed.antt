-- The run of a script whose clients follow keys, over keepers: what their answers do to it, and what it does to them.
--     IsWatchReport        the text is the report of the script
--     IsFollowedOver        it is that of its run, tied to the keepers place by place
use Rattle.std.specs.Prelude.{◌≡◌, ℕ, List, map}
use Rattle.model_history.specs.History.{History}
use Rattle.model_members.specs.DataType.{DataType}
use Rattle.model_members.specs.Script.{KeeperAnswers, none_fails}
use Rattle.model_kinds.specs.declared.kind.Kind.{Kind}
use Rattle.model_kinds.specs.declared.operation.Op.{Op}
use Rattle.model_kinds.specs.declared.shown.Shown.{Shown}
use Rattle.member_keeper.specs.declared.keeper.Keeper.{Ghosts as Keeping}
use Rattle.member_node.specs.Replies.{spelled_groups}
use Rattle.script_reading.specs.declared.script.Script.{Script}
use Rattle.theorem_watching.specs.Watching.{watch_report}
use Rattle.world_places.specs.Keeping.{Given}
use Rattle.report_lines.specs.Kept.{EndsOver, IsRunOver, IsTheRun, NoneRose, answers_by}
use Rattle.report_lines.specs.Run.{decl_of, in_order, ending}
use Rattle.report_followers.specs.Steps.{watch_steps}

module _ (data_type : DataType Kind Op Shown) (history_byte : Kind → History Op → ℕ) (history_spelled : Kind → History Op → List ℕ) where
  -- the text is the report of the script, which is a function of it and of what the keepers answer
  abbrev pub IsWatchReport : KeeperAnswers → Script → List ℕ → Type 0
  IsWatchReport answers script text =
      text ≡ watch_report (spelled_groups data_type history_byte history_spelled) answers script.members (map decl_of (in_order script.keys)) (watch_steps script.steps)

  module _ {K : Type 0} (keeping : Keeping K) where
    -- The text is the report of a run with these answers, in which the keepers were called
    pub record IsWholeWatch (given : Given) (script : Script) (old new : List K) (text : List ℕ) : Type 0 where
      pub reported : IsWatchReport (answers_by given) script text
      -- the steps that members take part in are played as in a script without the others
      pub over : EndsOver data_type history_byte history_spelled keeping given script (ending data_type history_byte history_spelled (answers_by given) script) old new
      pub run : IsTheRun data_type history_byte history_spelled keeping (answers_by given) script (ending data_type history_byte history_spelled (answers_by given) script)
      -- where no call failed it is the report without failures
      pub unfailing : NoneRose keeping old new → IsWatchReport none_fails script text

    -- nothing is said of a text that tells of a restart, over keepers that tell no tables
    abbrev pub IsFollowedOver : Script → List K → List K → List ℕ → Type 0
    IsFollowedOver = IsRunOver data_type history_byte history_spelled keeping (λ answers script text. Unit {0}) IsWholeWatch
