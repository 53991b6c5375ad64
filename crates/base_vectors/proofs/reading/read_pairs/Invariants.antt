use Rattle.std.proofs.Common.{◌≡◌, ◌-◌}
use Rattle.std.specs.FinMap as map
use Rattle.base_vectors.specs.IdSets.{members_in}
use Rattle.base_vectors.specs.Spelling.{pairs_in, raised_by}
use Rattle.base_vectors.proofs.reading.read_pairs.Given as goal

abbrev pub invariant-loop : goal.invariant-loop
invariant-loop l = raised_by l.numbers (pairs_in l.most (members_in l.barred) l.least (l.count - l.counter) l.rest) ≡ raised_by map.empty (pairs_in l.most (members_in l.barred) 0 l.count l.bytes)
