use Rattle.std.proofs.Common.{◌≡◌, ◌++◌, flat_map, take, string_bytes}
use Rattle.report_followers.specs.Lines.{notice_text}
use Rattle.report_followers.proofs.lines.push_notices.Given as goal

abbrev pub invariant-loop-notice : goal.invariant-loop-notice
invariant-loop-notice l = string_bytes l.text ≡ string_bytes l.initial.text ++ flat_map (notice_text l.number l.at) (take l.notice-index l.notices)
