use Rattle.data_counters.proofs.Limits.{amounts_empty}
use Rattle.data_counters.proofs.amounts.Amounts.new.Goals as goal

pub invariant_of-result : goal.invariant_of-result
invariant_of-result c = amounts_empty c.new.result c.new.ensures
