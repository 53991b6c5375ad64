use Rattle.std.proofs.Common.{false}
use Rattle.base_vectors.specs.Vectors.{number_at}
use Rattle.trace_values.specs.Elements.{is_pruned, AreMarked}
use Rattle.trace_values.proofs.sets.keep_prune.Given as goal

abbrev pub invariant-loop-place : goal.invariant-loop-place
invariant-loop-place l = AreMarked l.place (is_pruned l.rows (number_at l.past) l.removed) (λ x. false) l.id l.number l.initial.elements.items l.elements.items
