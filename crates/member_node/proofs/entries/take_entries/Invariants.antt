use Rattle.std.proofs.Common.{List, take, ◌≡◌, length}
use Rattle.member_node.proofs.Common.{Text, History, after_entries, Shown, AreOfTheirKinds, TellsEntries, AreMade, IsKept, AreHeld, AreExactAt, IsAtWork}
use Rattle.model_members.specs.Entry.{Entry}
use Rattle.model_members.specs.Message as sending
use Rattle.model_members.specs.Node.{Node as Member}
use Rattle.member_node.proofs.entries.take_entries.Given as goal

-- whatever is taken later, it is exactly pruned at the end
abbrev pub invariant-loop-keyed : goal.invariant-loop-keyed
invariant-loop-keyed g l = record {
  counted : length l.changes ≡ length l.keys;
  kept : AreMade (IsKept g.T.Replica.kind_of l.id) l.keys l.initial.changes → AreMade (IsKept g.T.Replica.kind_of l.id) l.keys l.changes;
  image : (kinds : Text → g.row.T-Kind.Denot) (logs : Text → History g.row.T-Op.Denot) (before : Text → Entry g.row.T-Op.Denot) (node : Member g.row.T-Kind.Denot g.row.T-Op.Denot Shown) (sent rest : List (sending.Keyed (Entry g.row.T-Op.Denot)))
      → AreExactAt l.keys (after_entries (after_entries node sent) rest).entries → AreOfTheirKinds g.T.Replica.kind_of l.keys
      → AreHeld g.T.Replica.kind_of g.T.Replica.IsDataOf kinds logs l.id l.keys before → AreMade (IsKept g.T.Replica.kind_of l.id) l.keys l.initial.changes
      → TellsEntries g.T.Replica kinds logs l.keys (take l.keyed-index l.entries) sent
      → IsAtWork g.T.Replica.kind_of g.T.Replica.IsDataOf kinds logs l.id l.keys l.view before l.initial.changes node
      → IsAtWork g.T.Replica.kind_of g.T.Replica.IsDataOf kinds logs l.id l.keys l.view before l.changes (after_entries node sent);
}
