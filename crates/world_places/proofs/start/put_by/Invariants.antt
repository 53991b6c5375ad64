use Rattle.world_places.proofs.Starting.{IsPutBy}
use Rattle.world_places.proofs.start.put_by.Given as goal

abbrev pub invariant-loop-keeper : goal.invariant-loop-keeper
invariant-loop-keeper g l = IsPutBy l.initial.keepers l.keepers l.spare

abbrev pub decreases-loop-keeper : goal.decreases-loop-keeper
decreases-loop-keeper g l = goal.left-loop-keeper g l
