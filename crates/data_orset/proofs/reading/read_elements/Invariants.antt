use Rattle.std.proofs.Common.{◌≡◌, ◌-◌, List, None}
use Rattle.std.specs.List.{flat_map}
use Rattle.base_vectors.specs.IdSets.{members_in}
use Rattle.data_orset.specs.Elements.{Element, placed_of}
use Rattle.data_orset.specs.Reading.{elements_in}
use Rattle.data_orset.proofs.Loops.{with_front, last_of}
use Rattle.data_orset.proofs.reading.read_elements.Given as goal

-- the elements before are read, and stand at their dots; the last one's text is kept
abbrev pub invariant-loop : goal.invariant-loop
invariant-loop l = (front : List Element)
    × (with_front front (elements_in (members_in l.barred) (l.count - l.counter) (last_of front) l.rest) ≡ elements_in (members_in l.barred) l.count None l.bytes)
    × (l.last ≡ last_of front)
    × (l.all ≡ flat_map placed_of front)
