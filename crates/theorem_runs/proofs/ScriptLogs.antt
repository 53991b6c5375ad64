-- The logs at the end of a script hold all histories before and after each of its steps, and in the midst of a round; and in each of these worlds entries are exactly pruned.
use Rattle.std.proofs.Common.{ℕ, ◌≤◌, List, sym, subst}
use Rattle.std.specs.List.{AllByRecursion}
use Rattle.model_history.specs.Texts.{Text}
use Rattle.model_history.specs.Table.{identity_limit}
use Rattle.model_history.specs.History.{History}
use Rattle.model_members.specs.DataType.{Replication}
use Rattle.model_members.specs.Node.{KeyDecl}
use Rattle.model_members.specs.World.{World, Event, start, IsRun}
use Rattle.model_members.specs.Script.{ScriptStep, IsStep, KeeperAnswers, Playing, opening, played_all}
use Rattle.theorem_runs.specs.Logs.{IsLoggedBy, AreLogsOf, HasNoPrunes}
use Rattle.theorem_runs.specs.Pruning.{variables_of, EntriesArePruned}
use Rattle.theorem_runs.proofs.Safety.{runs_are_safe}
use Rattle.theorem_runs.proofs.PruningSafety.{entries_are_pruned}
use Rattle.theorem_runs.proofs.AgreementOverRuns.{logs_throughout}
use Rattle.theorem_runs.proofs.Playing.{Appends, IsQuietStep, no_events, played_is_run, no_ticks}

module _ {Kind Op Shown : Type 0} (D : Replication Kind Op Shown) (members : ℕ) (keys : List (KeyDecl Kind)) where
  -- a script on its way, whose events stand first among those of the whole run
  pub logged_at : (events : List (Event Op)) (logs : Text → History Op) → AreLogsOf D members keys events logs → (p : Playing Kind Op Shown) → IsRun D members keys p.events p.world → Appends D p.events events → IsLoggedBy logs p.world
  logged_at events logs all p is_run later = subst (λ (world : World Kind Op Shown). IsLoggedBy logs world) (sym is_run.leads) (all.throughout p.events later.0 later.1)

  -- the logs of a whole script
  pub script_logs : (answers : KeeperAnswers) (steps : List (ScriptStep Op)) → 1 ≤ members → members ≤ identity_limit → AllByRecursion IsStep steps
      → (logs : Text → History Op) × AreLogsOf D members keys (played_all D (opening answers members keys) steps).events logs
  script_logs answers steps some few ok =
      let end = played_all D (opening answers members keys) steps in
      logs_throughout D members keys end.events end.world (played_is_run D members keys (opening answers members keys) steps ok (no_events D members keys answers some few))

  -- a script without ticks and settles has logs without prunes
  pub script_unpruned : (answers : KeeperAnswers) (steps : List (ScriptStep Op)) (logs : Text → History Op) → AllByRecursion IsStep steps → AllByRecursion (IsQuietStep D) steps
      → AreLogsOf D members keys (played_all D (opening answers members keys) steps).events logs → (key : Text) → HasNoPrunes (logs key)
  script_unpruned answers steps logs ok calm all = all.unpruned (no_ticks D (opening answers members keys) steps ok calm tt)

  -- in each world of a script the union of any two entries of a key is exactly pruned
  pub pruned_at : (p : Playing Kind Op Shown) → IsRun D members keys p.events p.world → EntriesArePruned p.world
  pruned_at p is_run = entries_are_pruned D (variables_of D (start members keys) p.events) p.world (runs_are_safe D members keys p.events p.world is_run)
