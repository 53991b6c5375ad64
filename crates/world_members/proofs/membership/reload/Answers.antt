use Rattle.std.proofs.Common.{arith, sym, subst, ◌∙◌, inl, Err, Ok, None}
use Rattle.member_node.proofs.Standing.{becomes_same, back_same}
use Rattle.world_members.specs.Reloading.{Reloads}
use Rattle.world_places.proofs.Seats.{acts_at, acts_nowhere, acts_same}
use Rattle.world_members.proofs.membership.reload.Goals as goal

pub returns-in-Err-clause-reloads : goal.returns-in-Err-clause-reloads
returns-in-Err-clause-reloads g c = acts_same (Reloads g.T.SpelledData c.args.id c.args.view.now (Err c.in-Err.memory)) c.args.nodes.now.items c.args.place (λ node. (back_same node, inl (becomes_same (g.K.Keeper.answers node.keeper))))

pub returns-in_default-clause-reloads : goal.returns-in_default-clause-reloads
returns-in_default-clause-reloads g c =
    acts_nowhere (Reloads g.T.SpelledData c.args.id c.args.view.now (Ok None)) c.args.nodes.now.items c.args.place c.from-index.result c.from-index.ensures c.index_mut.result.now c.take.new.self (omega (arith, c.args.nodes.now.ok.0)) c.index_mut.ensures.value (sym c.take.ensures.value ∙ c.in_default.is)

pub returns-clause-reloads : goal.returns-clause-reloads
returns-clause-reloads g c =
    acts_at (Reloads g.T.SpelledData c.args.id c.args.view.now c.loaded-node.result.1) c.args.nodes.now.items c.args.place c.from-index.result c.from-index.ensures c.index_mut.result.now c.take.new.self c.in-Some.old c.loaded-node.result.0 (omega (arith, c.args.nodes.now.ok.0))
    c.index_mut.ensures.value (sym c.take.ensures.value ∙ c.in-Some.is) (subst (λ v. Reloads g.T.SpelledData c.args.id v c.loaded-node.result.1 c.in-Some.old c.loaded-node.result.0) c.in-Ok.ensures c.loaded-node.ensures)
