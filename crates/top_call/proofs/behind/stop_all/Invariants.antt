use Rattle.std.proofs.Common.{◌≡◌, ◌≤◌, ◌+◌, ◌++◌, map, vec_len, vec_capacity}
use Rattle.std.specs.Vec.Iter.{into_iter_items, into_iter_len}
use Rattle.top_call.proofs.behind.stop_all.Given as goal

abbrev pub invariant-loop-keeper : goal.invariant-loop-keeper
invariant-loop-keeper g l =
    (l.inner.items ++ map (λ keeper. keeper.inner) (into_iter_items l.keeper-iterator) ≡ map (λ keeper. keeper.inner) l.fn.keepers.items)
    × (vec_len l.inner + into_iter_len l.keeper-iterator ≤ vec_capacity l.inner)
