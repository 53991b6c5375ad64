use Rattle.theorem_client_operations.proofs.Commanding.{calls_stand_once}
use Rattle.theorem_client_operations.proofs.laws.calls_stand_once.Goals as goal

pub returns : goal.returns
returns g c = λ D members keys before is_run clients moves end section. calls_stand_once D members keys before is_run clients moves end section
