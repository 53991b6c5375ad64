use Rattle.std.proofs.Common.{◌≡◌, ◌-◌}
use Rattle.base_vectors.specs.Spelling.{members_from, added_by}
use Rattle.base_vectors.proofs.reading.read_members.Given as goal

abbrev pub invariant-loop : goal.invariant-loop
invariant-loop l = added_by l.set (members_from l.least (l.count - l.counter) l.rest) ≡ added_by 0 (members_from 0 l.count l.bytes)
