use Rattle.std.proofs.Common.{◌≡◌, ◌≤◌, ◌+◌, vec_len, vec_capacity}
use Rattle.std.specs.Vec.Iter.{into_iter_items, into_iter_len}
use Rattle.member_keeper.specs.Tables.{put_all}
use Rattle.member_keeper.proofs.table.put_each.Given as goal

abbrev pub invariant-loop-entry : goal.invariant-loop-entry
invariant-loop-entry l =
    (put_all l.table.items (into_iter_items l.entry-iterator) ≡ put_all l.fn.table.items l.fn.entries.items)
    × (vec_len l.table + into_iter_len l.entry-iterator ≤ vec_capacity l.table)
