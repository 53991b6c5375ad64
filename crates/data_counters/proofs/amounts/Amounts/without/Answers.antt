use Rattle.std.proofs.Common.{subst, sym}
use Rattle.data_counters.specs.Kept.{AreAmounts}
use Rattle.data_counters.proofs.Limits.{amounts_removed}
use Rattle.data_counters.proofs.amounts.Amounts.without.Goals as goal

pub invariant_of-self : goal.invariant_of-self
invariant_of-self c = subst AreAmounts (sym c.without.ensures) (amounts_removed _ _ c.self.invariant)
