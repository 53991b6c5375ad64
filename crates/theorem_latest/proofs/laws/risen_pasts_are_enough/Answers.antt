use Rattle.theorem_latest.proofs.Rising.{risen_pasts_are_enough}
use Rattle.theorem_latest.proofs.laws.risen_pasts_are_enough.Goals as goal

pub returns : goal.returns
returns g c = λ made H known history few taken more. risen_pasts_are_enough made H known history few taken more
