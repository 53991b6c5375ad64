use Rattle.std.proofs.Common.{refl}
use Rattle.theorem_settling.proofs.Settled.{leaves_settled, sends_few, counts_blocked}
use Rattle.theorem_settling.proofs.laws.settle_theorem.Goals as goal

pub returns-clause-answers : goal.returns-clause-answers
returns-clause-answers g c = λ D p. refl

pub returns-clause-settled : goal.returns-clause-settled
returns-clause-settled g c = λ D members keys p is_run digests stays messages blocked answer. leaves_settled D members keys p is_run messages blocked answer digests stays

pub returns-clause-few_messages : goal.returns-clause-few_messages
returns-clause-few_messages g c = λ D members keys p is_run messages blocked answer. sends_few D members keys p is_run messages blocked answer

pub returns-clause-second_number : goal.returns-clause-second_number
returns-clause-second_number g c = λ D members keys p is_run messages blocked answer. counts_blocked D members keys p is_run messages blocked answer
