use Rattle.std.proofs.Common.{◌≡◌, take, map, All}
use Rattle.member_node.proofs.Common.{declared_by, IsFresh}
use Rattle.member_node.specs.Keys.{declared}
use Rattle.member_node.proofs.key.KeyState.all_new.Given as goal

abbrev pub invariant-loop-decl : goal.invariant-loop-decl
invariant-loop-decl g l = record {
  declared : map declared_by l.states ≡ map declared (take l.decl-index l.keys);
  fresh : All (IsFresh g.T.Replica.kind_of g.T.Replica.IsDataOf g.T.Replica.IsDeltaOf l.id) l.states;
}
