use Rattle.data_counters.proofs.Limits.{amounts_raised, either_way}
use Rattle.data_counters.proofs.amounts.Amounts.raise.Goals as goal

pub invariant_of-self : goal.invariant_of-self
invariant_of-self c = either_way c.raise.result c.self.inside.numbers c.raise.new.self _ c.raise.ensures.ok c.raise.ensures.err c.self.invariant (amounts_raised _ _ _ c.to.invariant c.self.invariant)
