use Rattle.std.proofs.Common.{ℕ, ◌<◌}
use Rattle.base_vectors.specs.Vectors.{number_at}
use Rattle.trace_checker.specs.Holds.{HoldsLast}
use Rattle.trace_checker.proofs.rules.holds_pasts.Given as goal

abbrev pub invariant-loop-number : goal.invariant-loop-number
invariant-loop-number l = (j : ℕ) → j < l.number → number_at l.mine j < number_at l.known j → HoldsLast l.rows l.known j
