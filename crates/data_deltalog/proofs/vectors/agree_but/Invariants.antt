use Rattle.std.proofs.Common.{◌≡◌, ◌≢◌, ℕ, ◌<◌}
use Rattle.base_vectors.specs.Vectors.{number_at}
use Rattle.data_deltalog.proofs.vectors.agree_but.Given as goal

-- those that were passed agree
abbrev pub invariant-loop-number : goal.invariant-loop-number
invariant-loop-number l = (i : ℕ) → i < l.number → i ≢ l.id → number_at l.one i ≡ number_at l.other i
