use Rattle.std.proofs.Common.{◌++◌, string_bytes, ap, sym, ◌∙◌}
use Rattle.report_lines.specs.Lines.{answer_text}
use Rattle.report_lines.proofs.lines.push_answer.Goals as goal

pub returns-in_ok-write-in-Settled : goal.returns-in_ok-write-in-Settled
returns-in_ok-write-in-Settled c = c.in_ok-write-in-Settled.ensures.bytes ∙ ap (λ a. string_bytes c.args.text.now ++ answer_text a) (sym c.in-Settled.is)
