use Rattle.world_places.proofs.Starting.{AreGathered}
use Rattle.world_members.proofs.world.gathered.Given as goal

abbrev pub invariant-loop-node : goal.invariant-loop-node
invariant-loop-node g l = (goal.iterator-loop-node g).can_next l.node-iterator × (goal.iterator-loop-node g).is_finite l.node-iterator × AreGathered l.initial.keepers l.yielded l.keepers
