use Rattle.std.proofs.Common.{◌≡◌, not, filter}
use Rattle.std.specs.List.{range_with_len}
use Rattle.member_node.proofs.Common.{is_member}
use Rattle.member_node.proofs.preparing.left.Given as goal

-- of the identities so far
abbrev pub invariant-loop-number : goal.invariant-loop-number
invariant-loop-number l = l.ids ≡ filter (λ i. not (is_member l.view i)) (range_with_len 0 l.number)
