use Rattle.std.proofs.Common.{◌≡◌, ◌<◌, ◌≤◌, ℕ, [], None, length, take, map, All, slice_index_or}
use Rattle.member_node.proofs.Common.{Text, History, Shown, declared_by, StandsForKey, AreSpelled}
use Rattle.model_members.specs.Node.{Node as Member}
use Rattle.member_node.specs.Planning.{Lead, changed_entry}
use Rattle.member_node.specs.declared.change.ChangeAt.{ChangeAt}
use Rattle.member_node.proofs.Making.{put_of}
use Rattle.member_node.proofs.storing.stores_of_changes.Given as goal

-- those of the keys up to the last one so far
abbrev pub invariant-loop-at : goal.invariant-loop-at
invariant-loop-at g l = record {
  from : ℕ;
  few : from ≤ length l.keys;
  begun : (j : ℕ) (d : ChangeAt g.row.T.Denot g.row.T-Kind.Denot g.row.T-Op.Denot g.row.T-Delta.Denot) → j < l.at-index → (slice_index_or l.written j d).index < from;
  ahead : (j : ℕ) (d : ChangeAt g.row.T.Denot g.row.T-Kind.Denot g.row.T-Op.Denot g.row.T-Delta.Denot) → l.at-index ≤ j → j < length l.written → from ≤ (slice_index_or l.written j d).index;
  spelled : (kinds : Text → g.row.T-Kind.Denot) (logs : Text → History g.row.T-Op.Denot) (old next : Member g.row.T-Kind.Denot g.row.T-Op.Denot Shown) → old.keys ≡ map declared_by l.keys → next.keys ≡ map declared_by l.keys
      → All (λ state. StandsForKey g.T.Replica.kind_of g.T.Replica.IsDataOf g.T.Replica.IsDeltaOf kinds logs state (old.entries state.name) (old.flushed state.name)) l.keys
      → Lead g.T.Replica.IsDataOf logs l.keys old.entries next.entries (changed_entry l.changes) → AreSpelled g.T.Replica g.T.SpelledData logs l.stores (put_of old next (take from l.keys));
  nothing : ((k : ℕ) → changed_entry l.changes k ≡ None) → l.stores ≡ [];
}
