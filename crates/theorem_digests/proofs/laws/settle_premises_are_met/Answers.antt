use Rattle.theorem_digests.proofs.SmallSettle.{settle_premises}
use Rattle.theorem_digests.proofs.laws.settle_premises_are_met.Goals as goal

pub returns : goal.returns
returns c = settle_premises
