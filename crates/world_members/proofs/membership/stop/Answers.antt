use Rattle.std.proofs.Common.{arith, sym, ◌∙◌}
use Rattle.world_places.proofs.Seats.{left_at}
use Rattle.world_members.proofs.membership.stop.Goals as goal

pub returns-in-Some-clause-left : goal.returns-in-Some-clause-left
returns-in-Some-clause-left g c =
    left_at c.args.nodes.now.items c.args.spare.now.items c.from-index.result (omega (arith, c.args.nodes.now.ok.0)) (omega (arith, c.args.spare.now.ok.0)) c.index_mut.result.now c.take.new.self c.index_mut.ensures.value c.take.ensures.after c.args.place c.from-index.ensures c.in-Some.node c.into_keeper.result
    (sym c.take.ensures.value ∙ c.in-Some.is) c.into_keeper.ensures
