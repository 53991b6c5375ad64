use Rattle.theorem_operations.proofs.TwoRounds.{operation_is_over}
use Rattle.theorem_operations.proofs.laws.operations_finish.Goals as goal

pub returns : goal.returns
returns g c = λ D members keys t op undisturbed. operation_is_over D members keys t op undisturbed
