use Rattle.std.proofs.Common.{◌≡◌, length}
use Rattle.trial_rows.proofs.loading.loading_keepers.Given as goal

abbrev pub invariant-loop-place : goal.invariant-loop-place
invariant-loop-place l = length l.keepers.items ≡ l._place
