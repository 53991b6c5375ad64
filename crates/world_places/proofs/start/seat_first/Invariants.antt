use Rattle.world_places.proofs.Starting.{IsSeatedBelow}
use Rattle.world_places.proofs.start.seat_first.Given as goal

abbrev pub invariant-loop-place : goal.invariant-loop-place
invariant-loop-place g l = IsSeatedBelow l.place l.keys l.fn.members l.nodes l.initial.spare l.spare
