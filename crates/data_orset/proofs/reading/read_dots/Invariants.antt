use Rattle.std.proofs.Common.{◌≡◌, ◌-◌, ◌++◌, List, map}
use Rattle.base_vectors.specs.IdSets.{members_in}
use Rattle.base_vectors.specs.declared.id.Dot.{Dot}
use Rattle.data_orset.specs.Placing.{at_dot}
use Rattle.data_orset.specs.Reading.{dots_in}
use Rattle.data_orset.proofs.Loops.{with_front}
use Rattle.data_orset.proofs.reading.read_dots.Given as goal

-- the dots before are read, and stand at the end
abbrev pub invariant-loop : goal.invariant-loop
invariant-loop l = (front : List Dot)
    × (with_front front (dots_in (members_in l.barred) (l.count - l.counter) l.origin l.seq l.rest) ≡ dots_in (members_in l.barred) l.count 0 0 l.bytes)
    × (l.all ≡ l.initial.all ++ map (λ d. at_dot d l.text) front)
