use Rattle.std.proofs.Common.{◌≡◌, ◌++◌, ◌≤◌, drop, length, ◌-◌}
use Rattle.std.specs.List.{flat_map}
use Rattle.data_orset.specs.Elements.{element_spelled, elements_spelled}
use Rattle.data_orset.specs.Runs.{grouped}
use Rattle.data_orset.proofs.spelling.spelling_of.Given as goal

abbrev pub invariant-loop-start : goal.invariant-loop-start
invariant-loop-start l = (l.bytes.items ++ flat_map element_spelled (grouped (drop l.start l.dots)) ≡ elements_spelled (grouped l.dots)) × (l.start ≤ length l.dots)

abbrev pub decreases-loop-start : goal.decreases-loop-start
decreases-loop-start l = length l.dots - l.start
