use Rattle.theorem_runs.proofs.Growth.{step_grows}
use Rattle.theorem_runs.proofs.laws.nothing_is_lost.Goals as goal

pub returns-clause-records : goal.returns-clause-records
returns-clause-records g c = step_grows

pub returns-clause-deleted : goal.returns-clause-deleted
returns-clause-deleted g c = λ D stay node input fate key deleted. stay (node.entries key).history _ (step_grows D node input fate key) deleted
