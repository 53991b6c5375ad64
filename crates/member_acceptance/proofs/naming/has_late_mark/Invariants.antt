use Rattle.std.proofs.Common.{◌≡◌, false}
use Rattle.std.specs.List.{list_any, range_with_len}
use Rattle.data_markers.specs.Marks.{mark_of}
use Rattle.member_acceptance.specs.Naming.{is_late}
use Rattle.member_acceptance.proofs.naming.has_late_mark.Given as goal

abbrev pub invariant-loop-number : goal.invariant-loop-number
invariant-loop-number l = list_any (λ r. is_late l.view (mark_of l.markers r)) (range_with_len 0 l.number) ≡ false
