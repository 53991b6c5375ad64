use Rattle.std.proofs.Common.{◌≡◌, take, map, All}
use Rattle.member_node.proofs.Common.{declared_by, IsFresh}
use Rattle.member_node.proofs.restoring.all_emptied.Given as goal

abbrev pub invariant-loop-state : goal.invariant-loop-state
invariant-loop-state g l = record {
  declared : map declared_by l.states ≡ map declared_by (take l.state-index l.keys);
  fresh : All (IsFresh g.T.Replica.kind_of g.T.Replica.IsDataOf g.T.Replica.IsDeltaOf l.id) l.states;
}
