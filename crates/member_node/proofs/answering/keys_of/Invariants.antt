use Rattle.std.proofs.Common.{◌≡◌, ℕ, take, map}
use Rattle.member_node.proofs.Common.{Keyed}
use Rattle.member_node.proofs.answering.keys_of.Given as goal

abbrev pub invariant-loop-gap : goal.invariant-loop-gap
invariant-loop-gap l = l.keys ≡ map (λ (gap : Keyed ℕ). gap.key) (take l.gap-index l.gaps)
