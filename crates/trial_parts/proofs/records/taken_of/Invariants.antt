use Rattle.std.proofs.Common.{◌≡◌, take}
use Rattle.trial_parts.specs.Counting.{counted}
use Rattle.trial_parts.proofs.records.taken_of.Given as goal

abbrev pub invariant-loop-record : goal.invariant-loop-record
invariant-loop-record l = l.those.items ≡ counted l.taken (take l.record-index l.records)
