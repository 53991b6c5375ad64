use Rattle.std.proofs.Common.{◌≡◌, length}
use Rattle.trial_rows.proofs.rows.keepers.Given as goal

abbrev pub invariant-loop-at : goal.invariant-loop-at
invariant-loop-at l = length l.keepers.items ≡ l.at
