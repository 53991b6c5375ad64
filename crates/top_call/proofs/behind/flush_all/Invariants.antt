use Rattle.std.proofs.Common.{◌≡◌, ◌≤◌, ◌+◌, ◌++◌, vec_len, vec_capacity}
use Rattle.std.specs.Vec.Iter.{into_iter_items, into_iter_len}
use Rattle.top_call.specs.Stopping.{AreHandedOn}
use Rattle.top_call.proofs.behind.flush_all.Given as goal

abbrev pub invariant-loop-keeper : goal.invariant-loop-keeper
invariant-loop-keeper g l =
    AreHandedOn g.K.Keeper l.any_refused l.yielded l.all.items
    × (l.yielded ++ into_iter_items l.keeper-iterator ≡ l.fn.keepers.items)
    × (vec_len l.all + into_iter_len l.keeper-iterator ≤ vec_capacity l.all)
