use Rattle.model_meanings.proofs.SharesLaw.{shares_add_up}
use Rattle.model_meanings.proofs.laws.shares_add_up.Goals as goal

pub returns : goal.returns
returns g c = λ amount H history exact. shares_add_up amount H history exact
