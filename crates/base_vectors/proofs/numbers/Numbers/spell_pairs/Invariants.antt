use Rattle.std.proofs.Common.{◌≡◌, ◌++◌}
use Rattle.std.specs.List.{flat_map}
use Rattle.base_vectors.specs.Vectors.{number_at}
use Rattle.base_vectors.specs.Spelling.{pair_spelled}
use Rattle.base_vectors.proofs.Readings.{pairs_below}
use Rattle.base_vectors.proofs.numbers.Numbers.spell_pairs.Given as goal

abbrev pub invariant-loop-index : goal.invariant-loop-index
invariant-loop-index l = l.into.items ≡ l.fn.into.items ++ flat_map pair_spelled (pairs_below (number_at l.self) l.index)
