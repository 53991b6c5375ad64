use Rattle.std.proofs.Common.{arith, sym, ap, subst, ◌∙◌, Some, map}
use Rattle.model_members.specs.World.{loaded_node, no_entries}
use Rattle.member_node.specs.Members.{declared, StandsForNode}
use Rattle.world_places.proofs.Seats.{seats_at, put_back}
use Rattle.world_places.proofs.start.seat.Goals as goal

pub returns-in-Ok-clause-seats : goal.returns-in-Ok-clause-seats
returns-in-Ok-clause-seats g c =
    seats_at c.args.id c.args.view.now c.args.keys.now c.args.nodes.now.items c.args.spare.now.items c.args.place c.from-index.result c.from-index.ensures (omega (arith, c.args.nodes.now.ok.0)) (omega (arith, c.args.spare.now.ok.0)) c.index_mut.result.now c.index_mut.ensures.value
    c.take.new.self c.in-Ok.node c.in-Some.keeper c.take.ensures.after (sym c.take.ensures.value ∙ c.in-Some.is)
    (record {
      identity = c.in-Ok.ensures.identity;
      kept = c.in-Ok.ensures.keeper;
      limit = c.in-Ok.ensures.limit;
      stands = λ kinds logs histories of_kinds.
          subst (λ v. StandsForNode g.T.Replica.kind_of g.T.Replica.IsDataOf kinds logs c.in-Ok.node (loaded_node (map declared c.args.keys.now) c.args.id v no_entries)) c.in_ok-view.ensures (c.in-Ok.ensures.stands kinds logs histories of_kinds);
    })

pub returns-in-Err-clause-spare_stay : goal.returns-in-Err-clause-spare_stay
returns-in-Err-clause-spare_stay g c =
    put_back c.args.spare.now.items c.from-index.result c.take.new.self c.index_mut.result.now (Some c.in-Err.keeper) (omega (arith, c.args.spare.now.ok.0)) c.index_mut.ensures.value (ap Some c.in-Err.ensures.err ∙ sym c.in-Some.is ∙ c.take.ensures.value)
