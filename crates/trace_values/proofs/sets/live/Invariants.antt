use Rattle.std.proofs.Common.{◌≡◌, take, filter}
use Rattle.base_vectors.specs.Vectors.{number_at}
use Rattle.trace_values.specs.Elements.{names, counts_live}
use Rattle.trace_values.proofs.sets.live.Given as goal

abbrev pub invariant-loop-element : goal.invariant-loop-element
invariant-loop-element l = l.all ≡ names (filter (counts_live l.rows (number_at l.known)) (take l.element-index l.elements))
