use Rattle.std.proofs.Common.{◌≡◌, take, map, All}
use Rattle.member_node.proofs.Common.{Text, History, Shown, declared_by, StandsForKey, AreSpelled}
use Rattle.model_members.specs.Node.{Node as Member}
use Rattle.member_node.specs.Planning.{Lead, ticked_entry}
use Rattle.member_node.proofs.Making.{put_of}
use Rattle.member_node.proofs.storing.stores_of_ticks.Given as goal

-- those of the keys so far
abbrev pub invariant-loop-index : goal.invariant-loop-index
invariant-loop-index g l = (kinds : Text → g.row.T-Kind.Denot) (logs : Text → History g.row.T-Op.Denot) (old next : Member g.row.T-Kind.Denot g.row.T-Op.Denot Shown) → old.keys ≡ map declared_by l.keys → next.keys ≡ map declared_by l.keys
    → All (λ state. StandsForKey g.T.Replica.kind_of g.T.Replica.IsDataOf g.T.Replica.IsDeltaOf kinds logs state (old.entries state.name) (old.flushed state.name)) l.keys
    → Lead g.T.Replica.IsDataOf logs l.keys old.entries next.entries (ticked_entry l.ticks) → AreSpelled g.T.Replica g.T.SpelledData logs l.stores (put_of old next (take l.index l.keys))
