use Rattle.model_history.proofs.HistoryLaws.{at-union, union_same, union_assoc, union_comm}
use Rattle.model_history.proofs.laws.union_laws.Goals as goal

pub returns-clause-count : goal.returns-clause-count
returns-clause-count g c = at-union

pub returns-clause-same : goal.returns-clause-same
returns-clause-same g c = union_same

pub returns-clause-assoc : goal.returns-clause-assoc
returns-clause-assoc g c = union_assoc

pub returns-clause-comm : goal.returns-clause-comm
returns-clause-comm g c = union_comm
