use Rattle.theorem_runs.proofs.AgreementOverRuns.{logs_throughout}
use Rattle.theorem_runs.proofs.laws.logs_throughout.Goals as goal

pub returns : goal.returns
returns g c = λ D members keys events world is_run. logs_throughout D members keys events world is_run
