use Rattle.std.proofs.Common.{◌≡◌, ℕ, ◌-◌, ◌≤◌, Some, length, vec_len}
use Rattle.std.specs.Prelude.{slice_get}
use Rattle.model_history.specs.History.{no_records}
use Rattle.trace_checker.specs.declared.key_history.KeyHistory.{KeyHistory}
use Rattle.trace_checker.specs.Standing.{StandsForKey}
use Rattle.trace_checker.proofs.checking.begin.Given as goal

abbrev pub invariant-loop-alloc : goal.invariant-loop-alloc
invariant-loop-alloc l = (vec_len l.codes ≤ length l.keys) × ((n : ℕ) (code : KeyHistory) → slice_get l.codes.items n ≡ Some code → StandsForKey code no_records (λ i. no_records))

abbrev pub decreases-loop-alloc : goal.decreases-loop-alloc
decreases-loop-alloc l = length l.keys - vec_len l.codes
