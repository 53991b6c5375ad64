use Rattle.std.proofs.Common.{◌≡◌, take}
use Rattle.member_node.proofs.outcome.copy_outcomes.Given as goal

abbrev pub invariant-loop-told : goal.invariant-loop-told
invariant-loop-told l = l.copies ≡ take l.told-index l.told-items
