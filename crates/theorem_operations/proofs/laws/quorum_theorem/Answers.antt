use Rattle.theorem_operations.proofs.QuorumTheorem.{at_once, later}
use Rattle.theorem_operations.proofs.laws.quorum_theorem.Goals as goal

pub returns-clause-at_once : goal.returns-clause-at_once
returns-clause-at_once g c = λ D members keys r unchanged. at_once D members keys r unchanged

pub returns-clause-later : goal.returns-clause-later
returns-clause-later g c = λ D members keys r unchanged. later D members keys r unchanged
