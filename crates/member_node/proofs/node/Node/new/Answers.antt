use Rattle.std.proofs.Common.{rules, arith, refl, sym, subst}
use Rattle.member_node.proofs.Common.{AreDistinct}
use Rattle.member_node.proofs.Standing.{few_fresh, unpruned_fresh, logged_fresh, kinds_fresh, names_fresh, stands_first}
use Rattle.member_node.proofs.node.Node.new.Goals as goal

pub invariant_of-result : goal.invariant_of-result
invariant_of-result g c = record {
  few_own = few_fresh g.T.Replica.kind_of g.T.Replica.IsDataOf g.T.Replica.IsDeltaOf c.args.id c.in-Ok.keys.items c.in-Ok.ensures.fresh 0;
  unpruned = unpruned_fresh g.T.Replica.kind_of g.T.Replica.IsDataOf g.T.Replica.IsDeltaOf c.args.id c.in-Ok.keys.items c.in-Ok.ensures.fresh;
  logged = logged_fresh g.T.Replica.kind_of g.T.Replica.IsDataOf g.T.Replica.IsDeltaOf c.args.id c.in-Ok.keys.items c.in-Ok.ensures.fresh;
  of_kinds = kinds_fresh g.T.Replica.kind_of g.T.Replica.IsDataOf g.T.Replica.IsDeltaOf c.args.id c.in-Ok.keys.items c.in-Ok.ensures.fresh;
  distinct = subst AreDistinct (sym (names_fresh c.in-Ok.keys.items c.args.keys.now c.in-Ok.ensures.declared)) c.requires.distinct;
  few_steps = search rules;
  few_limit = omega arith;
  few_operations = search rules;
}

pub returns-in-Ok-of-clause-stands : goal.returns-in-Ok-of-clause-stands
returns-in-Ok-of-clause-stands g c = λ kinds logs histories of_kinds.
    stands_first g.T.Replica.kind_of g.T.Replica.IsDataOf kinds logs _ c.args.keys.now c.args.view c.in-Ok.ensures.declared c.in-Ok.ensures.fresh c.requires.distinct histories of_kinds refl c.new.ensures refl
