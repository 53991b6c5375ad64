use Rattle.std.proofs.Common.{◌≡◌, length}
use Rattle.base_vectors.specs.Vectors.{number_at}
use Rattle.base_vectors.proofs.Readings.{pairs_below}
use Rattle.base_vectors.proofs.numbers.Numbers.count.Given as goal

abbrev pub invariant-loop-word : goal.invariant-loop-word
invariant-loop-word l = l.count ≡ length (pairs_below (number_at l.self) l.word-index)
