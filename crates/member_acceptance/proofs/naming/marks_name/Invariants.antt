use Rattle.std.proofs.Common.{◌≡◌, false}
use Rattle.std.specs.List.{list_any, range_with_len}
use Rattle.data_markers.specs.Marks.{mark_of}
use Rattle.member_acceptance.specs.Naming.{names_at}
use Rattle.member_acceptance.proofs.naming.marks_name.Given as goal

abbrev pub invariant-loop-number : goal.invariant-loop-number
invariant-loop-number l = list_any (λ r. names_at r (mark_of l.markers r) l.id) (range_with_len 0 l.number) ≡ false
