use Rattle.std.proofs.Common.{◌≡◌, ◌++◌}
use Rattle.std.specs.Vec.Iter.{into_iter_items}
use Rattle.data_deltalog.specs.Words.{all_appended}
use Rattle.data_deltalog.proofs.delta_log.DeltaLog.add_all.Given as goal

-- those that were added so far, and those to come
abbrev pub invariant-loop-next : goal.invariant-loop-next
invariant-loop-next g l = record {
  split : l.yielded ++ into_iter_items l.next-iterator ≡ l.fn.records.items;
  log : l.self ≡ all_appended l.initial.self l.yielded;
}
