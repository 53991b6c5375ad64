use Rattle.theorem_runs.proofs.Safety.{runs_are_safe}
use Rattle.theorem_runs.proofs.PassedOver.{nothing_is_passed_over}
use Rattle.theorem_runs.proofs.laws.nothing_is_passed_over.Goals as goal

pub returns : goal.returns
returns g c = λ D members keys events world is_run. nothing_is_passed_over D _ world (runs_are_safe D members keys events world is_run)
