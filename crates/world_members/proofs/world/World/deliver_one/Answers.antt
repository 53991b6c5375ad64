use Rattle.std.proofs.Common.{◌<◌, arith}
use Rattle.model_history.specs.Table.{identity_limit}
use Rattle.world_members.proofs.Steps.{delivers_this, delivers_next}
use Rattle.world_members.proofs.world.World.deliver_one.Goals as goal

pub returns-in-Some : goal.returns-in-Some
returns-in-Some g c = delivers_this g.T.SpelledData c.args.self.now c.deliver.new.self c.deliver.result c.args.from c.args.to c.args.index c.in-Some.index c.in-Some.is c.deliver.ensures

pub returns-in-None : goal.returns-in-None
returns-in-None g c =
    let small : c.args.from < identity_limit = omega arith in
    let few : c.args.to < identity_limit = omega arith in
    delivers_next g.T.SpelledData c.args.self.now c.deliver-in-None.new.self c.args.from c.args.to small few c.next-due.result c.next-due.ensures c.deliver-in-None.result c.args.index c.in-None.is c.deliver-in-None.ensures
