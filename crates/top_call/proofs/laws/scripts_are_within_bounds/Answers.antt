use Rattle.top_call.proofs.Bounds.{spelled_within}
use Rattle.top_call.proofs.laws.scripts_are_within_bounds.Goals as goal

pub returns-clause-members : goal.returns-clause-members
returns-clause-members c = λ clients bytes script spells. let its = spelled_within clients bytes script spells in (its.0, its.1)

pub returns-clause-steps : goal.returns-clause-steps
returns-clause-steps c = λ clients bytes script spells. (spelled_within clients bytes script spells).2
