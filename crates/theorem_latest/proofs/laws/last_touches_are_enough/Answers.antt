use Rattle.theorem_latest.proofs.Touching.{last_touches_are_enough, last_touches_of_identities}
use Rattle.theorem_latest.proofs.laws.last_touches_are_enough.Goals as goal

pub returns-clause-any : goal.returns-clause-any
returns-clause-any g c = last_touches_are_enough

pub returns-clause-of_identity : goal.returns-clause-of_identity
returns-clause-of_identity g c = last_touches_of_identities
