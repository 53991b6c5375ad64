use Rattle.std.proofs.Common.{◌≡◌, ◌++◌, ◌∷◌}
use Rattle.base_vectors.specs.IdSets.{members_in, member_count}
use Rattle.base_vectors.proofs.Readings.{members_below}
use Rattle.base_vectors.proofs.id_set.IdSet.spell.Given as goal

abbrev pub invariant-loop-number : goal.invariant-loop-number
invariant-loop-number l = l.into.items ≡ l.fn.into.items ++ member_count (members_in l.self) ∷ members_below (members_in l.self) l.number
