use Rattle.base_vectors.specs.Vectors.{number_at}
use Rattle.data_counters.proofs.Sums.{IsSumBelow}
use Rattle.data_counters.proofs.counter.GCounter.sum.Given as goal

abbrev pub invariant-loop-number : goal.invariant-loop-number
invariant-loop-number l = IsSumBelow (number_at l.self.shares) l.number l.total
