use Rattle.world_members.proofs.Steps.{times_out}
use Rattle.world_members.proofs.world.World.timeout.Goals as goal

pub returns : goal.returns
returns g c = times_out g.T.SpelledData c.args.self.now c.give.new.self g.met.K.Keeper.tells_alike c.give.result c.args.at c.args.op c.give.ensures
