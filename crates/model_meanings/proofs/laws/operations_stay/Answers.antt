use Rattle.std.proofs.Common.{ap, ◌∙◌}
use Rattle.model_history.proofs.PastLaws.{identity_of_record}
use Rattle.model_meanings.specs.Growing.{is_operation}
use Rattle.model_meanings.proofs.Operations.{operation_named, operation_stays, has_one}
use Rattle.model_meanings.proofs.laws.operations_stay.Goals as goal

pub returns-clause-stays : goal.returns-clause-stays
returns-clause-stays g c = operation_stays

pub returns-clause-is : goal.returns-clause-is
returns-clause-is g c = operation_named

pub returns-clause-has : goal.returns-clause-has
returns-clause-has g c = λ test H history i k r op has is passes. has_one test H i k r (identity_of_record H history i k r has) has (ap (is_operation test) is ∙ passes)
