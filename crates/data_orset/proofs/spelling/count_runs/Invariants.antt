use Rattle.std.proofs.Common.{◌≡◌, ◌+◌, ◌≤◌, drop, length, ◌-◌}
use Rattle.data_orset.specs.Runs.{grouped}
use Rattle.data_orset.proofs.spelling.count_runs.Given as goal

abbrev pub invariant-loop-start : goal.invariant-loop-start
invariant-loop-start l = (l.count + length (grouped (drop l.start l.dots)) ≡ length (grouped l.dots)) × (l.start ≤ length l.dots) × (l.count ≤ l.start)

abbrev pub decreases-loop-start : goal.decreases-loop-start
decreases-loop-start l = length l.dots - l.start
