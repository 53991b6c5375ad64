use Rattle.std.proofs.Common.{◌≡◌}
use Rattle.std.specs.List.{range_with_len}
use Rattle.base_vectors.specs.Vectors.{number_at}
use Rattle.trace_values.specs.Sums.{counted_sums}
use Rattle.trace_values.proofs.sums.sums_of.Given as goal

abbrev pub invariant-loop-number : goal.invariant-loop-number
invariant-loop-number l = l.sums ≡ counted_sums l.rows (number_at l.known) (range_with_len 0 l.number)
