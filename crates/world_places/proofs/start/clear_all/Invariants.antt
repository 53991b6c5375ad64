use Rattle.world_places.proofs.Starting.{AreClearedBelow}
use Rattle.world_places.proofs.start.clear_all.Given as goal

abbrev pub invariant-loop-place : goal.invariant-loop-place
invariant-loop-place g l = AreClearedBelow g.K.Keeper l.place l.initial.keepers.items l.keepers.items
