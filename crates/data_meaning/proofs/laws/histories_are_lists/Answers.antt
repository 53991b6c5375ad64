use Rattle.data_meaning.proofs.Spelled.{spelled}
use Rattle.data_meaning.proofs.laws.histories_are_lists.Goals as goal

pub returns : goal.returns
returns c = λ H history. spelled H history
