use Rattle.std.proofs.Common.{◌≡◌, map, take}
use Rattle.serde_json.specs.View.{view}
use Rattle.trace_lines.specs.Meant.{line_meant}
use Rattle.trace_text.specs.Texts.{line_data}
use Rattle.trace_text.proofs.text.lines_value.Given as goal

abbrev pub invariant-loop-line : goal.invariant-loop-line
invariant-loop-line l = map view l.values.items ≡ map (λ line. line_data (line_meant line)) (take l.line-index l.lines)
