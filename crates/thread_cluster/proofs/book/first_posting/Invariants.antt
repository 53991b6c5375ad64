use Rattle.std.proofs.Common.{ℕ, ◌<◌, ◌≤◌, length, get_or}
use Rattle.thread_cluster.proofs.book.first_posting.Given as goal

abbrev pub invariant-loop-first : goal.invariant-loop-first
invariant-loop-first l = record {
  within : l.first ≤ length l.postings;
  later : (k : ℕ) → l.first ≤ k → k < length l.postings → l.number < (get_or l.postings k (0, 0)).1;
}

abbrev pub decreases-loop-first : goal.decreases-loop-first
decreases-loop-first l = l.first
