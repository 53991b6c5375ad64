use Rattle.model_members.specs.Script.{opening}
use Rattle.theorem_runs.proofs.Playing.{no_events}
use Rattle.theorem_sections.proofs.Sectioned.{all_run}
use Rattle.theorem_sections.proofs.laws.sections_are_runs.Goals as goal

pub returns : goal.returns
returns g c = λ D members keys answers steps some few ok lines last plays.
    all_run D members keys (opening answers members keys) last steps lines ok plays (no_events D members keys answers some few)
