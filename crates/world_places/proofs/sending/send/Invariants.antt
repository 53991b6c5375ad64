use Rattle.world_places.proofs.Sendings.{IsSentSoFar, IsToldSoFar}
use Rattle.world_places.proofs.sending.send.Given as goal

abbrev pub invariant-loop-post : goal.invariant-loop-post
invariant-loop-post g l = record { row : IsSentSoFar l.initial.row l.yielded l.row; told : IsToldSoFar l.initial.sent l.yielded l.sent }
