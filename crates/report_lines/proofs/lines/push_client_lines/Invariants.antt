use Rattle.std.proofs.Common.{◌≡◌, ◌++◌, flat_map, take, string_bytes}
use Rattle.report_lines.specs.Lines.{client_line_text}
use Rattle.report_lines.proofs.lines.push_client_lines.Given as goal

abbrev pub invariant-loop-line : goal.invariant-loop-line
invariant-loop-line l = string_bytes l.text ≡ string_bytes l.initial.text ++ flat_map (client_line_text l.number) (take l.line-index l.lines)
