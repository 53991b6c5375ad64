use Rattle.std.proofs.Common.{take, [], ◌∷◌, ◌++◌, sym, ap, ◌∙◌, subst, arith, map, take_all, All}
use Rattle.std.proofs.lemmas.List.{map_more, map-append}
use Rattle.std.proofs.lemmas.List.Elements.{All-push}
use Rattle.member_node.proofs.Common.{declared_by, IsFresh}
use Rattle.member_node.proofs.restoring.all_emptied.Goals as goal

pub loop-state-preserved : goal.loop-state-preserved
loop-state-preserved g c =
    let states = c.loop-state.states in
    let state = c.in_ok-emptied.field-0 in
    let fresh = IsFresh g.T.Replica.kind_of g.T.Replica.IsDataOf g.T.Replica.IsDeltaOf c.args.id in
    record {
      declared =
          ap (map declared_by) c.in_ok-push.ensures.ok ∙ map-append declared_by states (state ∷ [])
          ∙ ap (λ xs. xs ++ declared_by state ∷ []) c.loop-state.invariant.declared
          ∙ ap (λ d. map declared_by (take c.loop-state.state-index c.args.keys.now) ++ d ∷ []) (c.in_ok-emptied.ensures.declared ∙ ap declared_by c.state-item.is)
          ∙ sym (map_more declared_by c.args.keys.now c.loop-state.state-index c.state-item.result c.loop-state-test.true);
      fresh = subst (All fresh) (sym c.in_ok-push.ensures.ok) (All-push fresh states state c.loop-state.invariant.fresh c.in_ok-emptied.ensures.fresh);
    }

pub returns-clause-declared : goal.returns-clause-declared
returns-clause-declared g c =
    let all = take_all c.loop-state.state-index c.args.keys.now (omega arith) in
    ap (map declared_by) c.into_vec.ensures ∙ c.loop-state.invariant.declared ∙ ap (map declared_by) all

pub returns-clause-fresh : goal.returns-clause-fresh
returns-clause-fresh g c =
    let fresh = IsFresh g.T.Replica.kind_of g.T.Replica.IsDataOf g.T.Replica.IsDeltaOf c.args.id in
    subst (All fresh) (sym c.into_vec.ensures) c.loop-state.invariant.fresh
