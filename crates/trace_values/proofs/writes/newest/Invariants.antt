use Rattle.std.proofs.Common.{◌≡◌}
use Rattle.std.specs.List.{range_with_len}
use Rattle.base_vectors.specs.Vectors.{number_at}
use Rattle.trace_values.specs.Writes.{newest_of}
use Rattle.trace_values.proofs.writes.newest.Given as goal

abbrev pub invariant-loop-number : goal.invariant-loop-number
invariant-loop-number l = l.newest ≡ newest_of l.writes (number_at l.known) (range_with_len 0 l.number)
