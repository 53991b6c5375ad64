use Rattle.std.proofs.Common.{ℕ, ◌<◌, slice_index_or}
use Rattle.thread_run_order.specs.Section.{TakesNothing}
use Rattle.thread_run_order.proofs.passing.takes_none.Given as goal

abbrev pub invariant-loop-entry : goal.invariant-loop-entry
invariant-loop-entry g l = (k : ℕ) (d : _) → k < l.entry-index → TakesNothing {keeping = g.K.Keeper} (slice_index_or l.history k d)
