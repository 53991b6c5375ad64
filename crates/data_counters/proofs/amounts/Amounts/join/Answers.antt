use Rattle.data_counters.proofs.Limits.{amounts_joined, either_way}
use Rattle.data_counters.proofs.amounts.Amounts.join.Goals as goal

pub invariant_of-self : goal.invariant_of-self
invariant_of-self c = either_way c.join.result c.self.inside.numbers c.join.new.self _ c.join.ensures.ok c.join.ensures.err c.self.invariant (amounts_joined _ _ c.self.invariant c.other.invariant)
