-- The rounds of scripts are rounds.
use Rattle.std.proofs.Common.{◌≡◌, ℕ, List, ◌++◌, refl, sym, ap, ◌∙◌}
use Rattle.model_members.specs.DataType.{Replication}
use Rattle.model_members.specs.Node.{KeyDecl}
use Rattle.model_members.specs.World.{World, Event, run, start, IsRun}
use Rattle.model_members.specs.Script.{Playing, ScriptStep, played}
use Rattle.theorem_runs.proofs.Playing.{played_appends, step_is_run}
use Rattle.theorem_operations.specs.Finishing.{IsRound}
use Rattle.theorem_operations.proofs.Moments.{run_append}

module _ {Kind Op Shown : Type 0} (D : Replication Kind Op Shown) (members : ℕ) (keys : List (KeyDecl Kind)) where
  pub round_is : (p : Playing Kind Op Shown) → IsRun D members keys p.events p.world → (more : List (Event Op)) × ((played D p ScriptStep.Round).events ≡ p.events ++ more) × IsRound D p.world more
  round_is p is_run =
      let a = played_appends D p ScriptStep.Round tt in
      let s = step_is_run D members keys p ScriptStep.Round tt is_run in (
        a.0,
        a.1,
        record {
          playing = p;
          begins = refl;
          ends = s.leads ∙ ap (run D (start members keys)) a.1 ∙ run_append D (start members keys) p.events a.0 ∙ ap (λ (w : World Kind Op Shown). run D w a.0) (sym is_run.leads);
          made = a.1;
        },
      )
