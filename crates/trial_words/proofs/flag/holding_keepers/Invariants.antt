use Rattle.std.proofs.Common.{◌≡◌, length}
use Rattle.trial_words.proofs.flag.holding_keepers.Given as goal

abbrev pub invariant-loop-place : goal.invariant-loop-place
invariant-loop-place l = length l.keepers.items ≡ l.place
