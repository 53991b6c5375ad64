use Rattle.std.proofs.Common.{◌≡◌, ◌-◌}
use Rattle.std.specs.FinMap as map
use Rattle.data_markers.specs.Spelling.{marks_from, put_by}
use Rattle.data_markers.proofs.spelling.read_marks.Given as goal

abbrev pub invariant-loop : goal.invariant-loop
invariant-loop l = put_by l.marks (marks_from l.least (l.count - l.counter) l.rest) ≡ put_by map.empty (marks_from 0 l.count l.bytes)
