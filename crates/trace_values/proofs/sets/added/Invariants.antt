use Rattle.std.proofs.Common.{◌≡◌, take, filter}
use Rattle.base_vectors.specs.Vectors.{number_at}
use Rattle.trace_values.specs.Elements.{names, counts_add}
use Rattle.trace_values.proofs.sets.added.Given as goal

abbrev pub invariant-loop-element : goal.invariant-loop-element
invariant-loop-element l = l.all ≡ names (filter (counts_add (number_at l.known)) (take l.element-index l.elements))
