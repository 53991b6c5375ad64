use Rattle.theorem_operations.proofs.QuorumOfScripts.{gets_include}
use Rattle.theorem_operations.proofs.laws.quorum_theorem_of_scripts.Goals as goal

pub returns : goal.returns
returns g c = λ D answers members keys steps some few ok. gets_include D answers members keys steps some few ok
