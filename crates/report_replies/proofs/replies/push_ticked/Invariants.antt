use Rattle.std.proofs.Common.{◌≡◌, ◌++◌, flat_map, take, string_bytes}
use Rattle.report_replies.specs.Replies.{outcome_text}
use Rattle.report_replies.proofs.replies.push_ticked.Given as goal

abbrev pub invariant-loop-told : goal.invariant-loop-told
invariant-loop-told l = string_bytes l.text ≡ string_bytes l.initial.text ++ flat_map outcome_text (take l.told-index l.outcomes)
