use Rattle.std.proofs.Common.{arith}
use Rattle.world_places.proofs.Starting.{put_whole}
use Rattle.world_places.proofs.start.put_by.Goals as goal

pub returns-clause-spare : goal.returns-clause-spare
returns-clause-spare g c = put_whole c.args.keepers.now c.loop-keeper.keepers c.loop-keeper.spare c.loop-keeper.invariant (grind arith) (omega arith)
