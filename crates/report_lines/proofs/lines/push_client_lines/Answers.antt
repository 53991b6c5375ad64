use Rattle.std.proofs.Common.{◌≤◌, ◌++◌, length, flat_map, string_bytes, ap, ◌∙◌, arith}
use Rattle.std.proofs.lemmas.List.{take_all}
use Rattle.report_lines.specs.Lines.{client_line_text}
use Rattle.report_lines.proofs.lines.push_client_lines.Goals as goal

pub returns : goal.returns
returns c =
    let done : length c.args.lines.now ≤ c.loop-line.line-index = omega (arith, c.loop-line-test.false) in
    c.loop-line.invariant ∙ ap (λ lines. string_bytes c.args.text.now ++ flat_map (client_line_text c.args.number) lines) (take_all c.loop-line.line-index c.args.lines.now done)
