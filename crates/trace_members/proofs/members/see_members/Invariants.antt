use Rattle.std.proofs.Common.{◌≡◌, flat_map, take}
use Rattle.model_history.specs.Texts.{Text}
use Rattle.model_history.specs.History.{History}
use Rattle.model_members.specs.DataType.{Replication}
use Rattle.model_members.specs.World.{World}
use Rattle.model_kinds.specs.declared.kind.Kind.{Kind}
use Rattle.model_kinds.specs.declared.operation.Op.{Op}
use Rattle.model_kinds.specs.declared.shown.Shown.{Shown}
use Rattle.world_members.specs.Standing.{StandsForWorld}
use Rattle.trace_recorder.specs.Saw.{IsFormed}
use Rattle.trace_entries.specs.Seeing.{Sees}
use Rattle.trace_members.proofs.SeenMembers.{member_seen}
use Rattle.trace_members.proofs.members.see_members.Given as goal

abbrev pub invariant-loop-member : goal.invariant-loop-member
invariant-loop-member g l =
    ((D : Replication Kind Op Shown) (kinds : Text → Kind) (logs : Text → History Op) (here : World Kind Op Shown) → D.data_type ≡ g.T.Replica.data_type → StandsForWorld g.T.SpelledData kinds logs l.world here
    → Sees l.initial.recorder l.recorder (flat_map (member_seen D l.look here) (take l.member-index l.member-items))) × (IsFormed l.initial.recorder → IsFormed l.recorder)
