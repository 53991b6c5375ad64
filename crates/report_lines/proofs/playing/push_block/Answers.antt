use Rattle.std.proofs.Common.{◌++◌, string_bytes, ap, ◌∙◌}
use Rattle.report_lines.proofs.playing.push_block.Goals as goal

pub returns : goal.returns
returns g c = (string_bytes c.in_ok-block.block, c.in_ok-block.ensures, c.in_ok-push_str.ensures.bytes ∙ ap (λ t. string_bytes c.args.text.now ++ t) c.as_str.ensures.value)
