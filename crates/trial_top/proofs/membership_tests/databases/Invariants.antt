use Rattle.std.proofs.Common.{◌≡◌, length}
use Rattle.trial_top.proofs.membership_tests.databases.Given as goal

abbrev pub invariant-loop-place : goal.invariant-loop-place
invariant-loop-place l = length l.keepers.items ≡ l._place
