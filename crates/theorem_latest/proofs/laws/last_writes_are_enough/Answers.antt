use Rattle.theorem_latest.proofs.Writing.{winner_is_last}
use Rattle.theorem_latest.proofs.laws.last_writes_are_enough.Goals as goal

pub returns : goal.returns
returns g c = λ assigned H history. winner_is_last assigned H history
