use Rattle.std.proofs.Common.{◌≡◌}
use Rattle.trial_calls.proofs.delta_logs.filled.Given as goal

abbrev pub invariant-loop-number : goal.invariant-loop-number
invariant-loop-number l = (l.log.last ≡ l.number) × (l.log.origin ≡ l.origin)
