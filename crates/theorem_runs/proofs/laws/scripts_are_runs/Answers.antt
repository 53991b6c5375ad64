use Rattle.model_members.specs.Script.{opening}
use Rattle.theorem_runs.proofs.Playing.{no_events, played_is_run}
use Rattle.theorem_runs.proofs.laws.scripts_are_runs.Goals as goal

pub returns : goal.returns
returns g c = λ D members keys answers steps some few ok. played_is_run D members keys (opening answers members keys) steps ok (no_events D members keys answers some few)
