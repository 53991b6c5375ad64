use Rattle.std.proofs.Common.{◌≤◌, ◌-◌, length}
use Rattle.base_bytes.specs.TextOrder.{IsRising}
use Rattle.data_growing.proofs.Searching.{IsBetween}
use Rattle.trace_values.specs.Elements.{names}
use Rattle.trace_values.proofs.sets.search.Given as goal

abbrev pub invariant-loop-low : goal.invariant-loop-low
invariant-loop-low l = (l.low ≤ l.high) × (l.high ≤ length l.elements) × (IsRising (names l.elements) → IsBetween (names l.elements) l.name l.low l.high)

abbrev pub decreases-loop-low : goal.decreases-loop-low
decreases-loop-low l = l.high - l.low
