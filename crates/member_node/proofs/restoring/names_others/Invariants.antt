use Rattle.std.proofs.Common.{◌≡◌, false, not, ◌&&◌}
use Rattle.std.specs.List.{list_any, range_with_len}
use Rattle.member_node.proofs.Common.{parts_of}
use Rattle.member_node.specs.Restoring.{is_earlier, is_named}
use Rattle.member_node.proofs.restoring.names_others.Given as goal

abbrev pub invariant-loop-number : goal.invariant-loop-number
invariant-loop-number g l = list_any (λ i. not (is_earlier l.id l.given i) && is_named g.T.Replica.mentioned (parts_of l.entry) i) (range_with_len 0 l.number) ≡ false
