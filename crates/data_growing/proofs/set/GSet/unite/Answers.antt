use Rattle.std.proofs.Common.{◌++◌}
use Rattle.data_growing.proofs.Merging.{rising_of_set}
use Rattle.data_growing.proofs.set.GSet.unite.Goals as goal

pub invariant_of-self-2 : goal.invariant_of-self-2
invariant_of-self-2 c = rising_of_set _ (c.deref-2.result.now ++ c.deref-3.result.now) c.in_ok-self-inside.ensures
