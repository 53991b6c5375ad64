use Rattle.data_envelope.proofs.Dropped.{IsDroppedBelow}
use Rattle.data_envelope.proofs.cleaning.drop_performed.Given as goal

abbrev pub invariant-loop-number : goal.invariant-loop-number
invariant-loop-number g l = IsDroppedBelow g.T.Replica.IsDataOf g.T.Replica.kind_of g.T.Replica.mentioned l.initial.value l.value l.initial.versions l.versions l.markers l.number
