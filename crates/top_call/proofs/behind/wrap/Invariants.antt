use Rattle.std.proofs.Common.{◌≡◌, ◌≤◌, ◌+◌, ◌++◌, map, vec_len, vec_capacity}
use Rattle.std.specs.Vec.Iter.{into_iter_items, into_iter_len}
use Rattle.top_call.specs.Stopping.{gathering}
use Rattle.top_call.proofs.behind.wrap.Given as goal

abbrev pub invariant-loop-keeper : goal.invariant-loop-keeper
invariant-loop-keeper g l =
    (l.wrapped.items ++ map (gathering l.period) (into_iter_items l.keeper-iterator) ≡ map (gathering l.fn.period) l.fn.keepers.items)
    × (vec_len l.wrapped + into_iter_len l.keeper-iterator ≤ vec_capacity l.wrapped)
