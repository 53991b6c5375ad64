use Rattle.theorem_sections.proofs.OnTheWay.{waits_on, takes_first}
use Rattle.theorem_sections.proofs.laws.messages_are_due.Goals as goal

pub returns-clause-taken : goal.returns-clause-taken
returns-clause-taken g c = λ at stamp posts takes queue x rest from m one others later waits. takes_first at stamp posts takes queue x rest from m one others later waits

pub returns-clause-others : goal.returns-clause-others
returns-clause-others g c = λ at stamp posts takes queue x rest none waits. waits_on at stamp posts takes queue x rest none waits
