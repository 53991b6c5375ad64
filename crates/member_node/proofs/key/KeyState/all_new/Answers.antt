use Rattle.std.proofs.Common.{take, [], ◌∷◌, ◌++◌, sym, ap, ◌∙◌, subst, arith, map, take_all, All}
use Rattle.std.proofs.lemmas.List.{map_more, map-append}
use Rattle.std.proofs.lemmas.List.Elements.{All-push}
use Rattle.member_node.proofs.Common.{declared_by, IsFresh}
use Rattle.member_node.specs.Keys.{declared}
use Rattle.member_node.proofs.key.KeyState.all_new.Goals as goal

pub loop-decl-preserved : goal.loop-decl-preserved
loop-decl-preserved g c =
    let states = c.loop-decl.states in
    let state = c.in_ok-new.field-0 in
    let fresh = IsFresh g.T.Replica.kind_of g.T.Replica.IsDataOf g.T.Replica.IsDeltaOf c.args.id in
    record {
      declared =
          ap (map declared_by) c.in_ok-push.ensures.ok ∙ map-append declared_by states (state ∷ [])
          ∙ ap (λ xs. xs ++ declared_by state ∷ []) c.loop-decl.invariant.declared
          ∙ ap (λ d. map declared (take c.loop-decl.decl-index c.args.keys.now) ++ d ∷ []) (c.in_ok-new.ensures.declared ∙ ap declared c.decl-item.is)
          ∙ sym (map_more declared c.args.keys.now c.loop-decl.decl-index c.decl-item.result c.loop-decl-test.true);
      fresh = subst (All fresh) (sym c.in_ok-push.ensures.ok) (All-push fresh states state c.loop-decl.invariant.fresh c.in_ok-new.ensures.fresh);
    }

pub returns-clause-declared : goal.returns-clause-declared
returns-clause-declared g c =
    let all = take_all c.loop-decl.decl-index c.args.keys.now (omega arith) in
    ap (map declared_by) c.into_vec.ensures ∙ c.loop-decl.invariant.declared ∙ ap (map declared) all

pub returns-clause-fresh : goal.returns-clause-fresh
returns-clause-fresh g c =
    let fresh = IsFresh g.T.Replica.kind_of g.T.Replica.IsDataOf g.T.Replica.IsDeltaOf c.args.id in
    subst (All fresh) (sym c.into_vec.ensures) c.loop-decl.invariant.fresh
