use Rattle.std.proofs.Common.{◌≡◌, ℕ, ◌<◌}
use Rattle.base_vectors.specs.Vectors.{number_at}
use Rattle.trace_checker.proofs.rules.counts_some.Given as goal

abbrev pub invariant-loop-number : goal.invariant-loop-number
invariant-loop-number l = (j : ℕ) → j < l.number → number_at l.known j ≡ 0
