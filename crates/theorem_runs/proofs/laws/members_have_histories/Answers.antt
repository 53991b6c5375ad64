use Rattle.theorem_runs.proofs.HeldHistories.{all_have}
use Rattle.theorem_runs.proofs.Safety.{runs_are_safe}
use Rattle.theorem_runs.proofs.laws.members_have_histories.Goals as goal

pub returns : goal.returns
returns g c = λ D members keys events world is_run. all_have _ _ (runs_are_safe D members keys events world is_run).logs
