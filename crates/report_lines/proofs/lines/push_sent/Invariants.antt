use Rattle.std.proofs.Common.{◌≡◌, ◌++◌, flat_map, take, string_bytes}
use Rattle.report_lines.specs.Lines.{post_text}
use Rattle.report_lines.proofs.lines.push_sent.Given as goal

abbrev pub invariant-loop-post : goal.invariant-loop-post
invariant-loop-post l = string_bytes l.text ≡ string_bytes l.initial.text ++ flat_map post_text (take l.post-index l.sent)
