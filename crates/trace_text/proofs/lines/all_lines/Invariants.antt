use Rattle.std.proofs.Common.{◌≡◌, drop, [], length, All}
use Rattle.serde_json.specs.View.{items_view}
use Rattle.trace_lines.specs.WellFormed.{IsLine}
use Rattle.trace_text.specs.Reading.{lines_after}
use Rattle.trace_text.proofs.lines.all_lines.Given as goal

abbrev pub invariant-loop-value : goal.invariant-loop-value
invariant-loop-value l =
    (length l.lines ≡ l.value-index)
    × (l.number ≡ l.value-index)
    × All IsLine l.lines
    × (lines_after l.lines (items_view (drop l.value-index l.list)) ≡ lines_after [] (items_view l.list))
