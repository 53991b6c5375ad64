use Rattle.std.proofs.Common.{◌≡◌, ℕ, ◌<◌, true, slice_index_or}
use Rattle.thread_clients.proofs.clients.are_complete.Given as goal

abbrev pub invariant-loop-job : goal.invariant-loop-job
invariant-loop-job g l = (k : ℕ) (d : _) → k < l.job-index → (slice_index_or l.jobs k d).complete ≡ true
