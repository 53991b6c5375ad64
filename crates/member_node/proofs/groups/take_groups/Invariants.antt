use Rattle.std.proofs.Common.{◌≡◌, ℕ, List, take, map, length}
use Rattle.member_node.proofs.Common.{Text, History, after_groups, Shown, AreOfTheirKinds, TellsGroups, AreMade, IsKept, AreHeld, IsAtWork, gap_told}
use Rattle.model_members.specs.Entry.{Entry, Group}
use Rattle.model_members.specs.Message as sending
use Rattle.model_members.specs.Node.{Node as Member}
use Rattle.member_node.proofs.groups.take_groups.Given as goal

abbrev pub invariant-loop-keyed : goal.invariant-loop-keyed
invariant-loop-keyed g l = record {
  counted : length l.changes ≡ length l.keys;
  kept : AreMade (IsKept g.T.Replica.kind_of l.id) l.keys l.initial.changes → AreMade (IsKept g.T.Replica.kind_of l.id) l.keys l.changes;
  image : (kinds : Text → g.row.T-Kind.Denot) (logs : Text → History g.row.T-Op.Denot) (view : ℕ) (entries : Text → Entry g.row.T-Op.Denot) (node : Member g.row.T-Kind.Denot g.row.T-Op.Denot Shown) (sent : List (sending.Keyed (Group g.row.T-Op.Denot)))
      → AreOfTheirKinds g.T.Replica.kind_of l.keys → AreHeld g.T.Replica.kind_of g.T.Replica.IsDataOf kinds logs l.id l.keys entries → AreMade (IsKept g.T.Replica.kind_of l.id) l.keys l.initial.changes → TellsGroups g.T.Replica kinds logs l.keys (take l.keyed-index l.groups) sent
      → IsAtWork g.T.Replica.kind_of g.T.Replica.IsDataOf kinds logs l.id l.keys view entries l.initial.changes node
      → IsAtWork g.T.Replica.kind_of g.T.Replica.IsDataOf kinds logs l.id l.keys view entries l.changes (after_groups node sent).node × (l.gaps ≡ map gap_told (after_groups node sent).gaps);
}
