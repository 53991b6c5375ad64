use Rattle.theorem_runs.proofs.Safety.{runs_are_safe}
use Rattle.theorem_runs.proofs.RunViews.{sound_views}
use Rattle.theorem_runs.proofs.laws.sound_views.Goals as goal

pub returns : goal.returns
returns g c = λ D members keys events world is_run. sound_views D _ world (runs_are_safe D members keys events world is_run).views
