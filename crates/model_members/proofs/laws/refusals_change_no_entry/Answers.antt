use Rattle.std.proofs.Common.{ap}
use Rattle.model_members.specs.Node.{Node}
use Rattle.model_members.proofs.RefusedInputs.{refused_leaves}
use Rattle.model_members.proofs.laws.refusals_change_no_entry.Goals as goal

pub returns-clause-all : goal.returns-clause-all
returns-clause-all g c = λ D node input fate refused. (refused_leaves D node fate input refused).0

pub returns-clause-entries : goal.returns-clause-entries
returns-clause-entries g c = λ D node input fate refused key. ap (λ (n : Node _ _ _). n.entries key) (refused_leaves D node fate input refused).0

pub returns-clause-silent : goal.returns-clause-silent
returns-clause-silent g c = λ D node input fate refused. (refused_leaves D node fate input refused).1
