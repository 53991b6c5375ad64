use Rattle.theorem_watching.proofs.Projecting.{plays_plain_steps}
use Rattle.theorem_watching.proofs.laws.subscriptions_change_nothing.Goals as goal

pub returns : goal.returns
returns g c = λ D before steps. plays_plain_steps D before steps
