use Rattle.theorem_client_operations.proofs.Completing.{all_finish}
use Rattle.theorem_client_operations.proofs.laws.client_operations_finish.Goals as goal

pub returns : goal.returns
returns g c = λ D members keys before is_run clients moves end section undisturbed. all_finish D members keys before is_run clients moves end section undisturbed
