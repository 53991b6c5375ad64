-- What the calls of a log answer and leave, by the entries that it stands for.
--     AddsOperation, AddsPrune        one record more
--     GivesGroup, GoesAsFlushed        the records after a number
use Rattle.std.specs.Prelude.{◌≡◌, ◌↔◌, ℕ, ◌+◌, true, Some, None, Result, IfOk}
use Rattle.model_history.specs.History.{History, at}
use Rattle.model_history.specs.History.Action.{Operation}
use Rattle.model_history.specs.Log.{IsTakenFrom}
use Rattle.model_members.specs.DataType.{Replication}
use Rattle.model_members.specs.Entry.{Entry, with_action, with_prune, group_after}
use Rattle.model_members.specs.Node.{Node, KeyState}
use Rattle.model_members.specs.Step.{is_behind, goes_as_group}
use Rattle.model_kinds.specs.declared.shown.Shown.{Shown}
use Rattle.data_lattice.specs.declared.replica.Replica.{Ghosts}
use Rattle.data_envelope.specs.Images.{StandsForGroup}
use Rattle.data_envelope.specs.Words.{group_parts}
use Rattle.data_deltalog.specs.declared.delta_log.NextRecord.{NextRecord}
use Rattle.data_deltalog.specs.declared.grouped.Grouped.{Grouped}
use Rattle.data_deltalog.specs.Answers.Answer.{AsGroup}
use Rattle.data_deltalog.specs.Contents.{LogParts}
use Rattle.data_deltalog.specs.Images.{StandsForLog}
use Rattle.data_deltalog.specs.Words.{answer_in, IfGroup, IsAfter}

module _ {Kind Delta Op : Type 0} (IsDeltaOf : Delta → History Op → ℕ → ℕ → ℕ → Type 0) where
  -- where it is of an operation that the entry's history goes on with, the log then stands for the entry with that
  abbrev pub AddsOperation : (old new : LogParts Kind Delta) → NextRecord Delta → Type 0
  AddsOperation old new next =
      (log : History Op) (entry : Entry Op) (op : Op) (made : Delta) → StandsForLog IsDeltaOf old log entry → IsTakenFrom log (with_action entry old.origin (Operation op)).history → IsAfter old (at entry.history) next
      → next.delta ≡ Some made → IsDeltaOf made log old.origin (at entry.history old.origin) (at entry.history old.origin + 1) → StandsForLog IsDeltaOf new log (with_action entry old.origin (Operation op))

  -- the same of a prune, which has no delta
  abbrev pub AddsPrune : (old new : LogParts Kind Delta) → NextRecord Delta → Type 0
  AddsPrune old new next =
      (log : History Op) (entry : Entry Op) (removed : ℕ) → StandsForLog IsDeltaOf old log entry → IsTakenFrom log (with_prune entry old.origin removed).history → IsAfter old (at entry.history) next
      → next.delta ≡ None → StandsForLog IsDeltaOf new log (with_prune entry old.origin removed)

module _ {T Kind Op Delta : Type 0} (ghosts : Ghosts T Kind Op Delta) where
  -- a group that is answered is that of the entry's own records after the number
  abbrev pub GivesGroup : {E : Type 0} → LogParts Kind Delta → ℕ → Result (Grouped T Kind Op Delta ghosts) E → Type 0
  GivesGroup parts after result =
      (log : History Op) (entry : Entry Op) → StandsForLog ghosts.IsDeltaOf parts log entry → IfOk result (λ grouped. IfGroup grouped (λ made. StandsForGroup ghosts.IsDeltaOf (group_parts made) log (group_after entry parts.origin after)))

  -- a group is answered exactly where a member of the model flushes one to a peer that it flushed up to the number, and that is behind
  abbrev pub GoesAsFlushed : {E : Type 0} → LogParts Kind Delta → ℕ → Result (Grouped T Kind Op Delta ghosts) E → Type 0
  GoesAsFlushed parts after result =
      (D : Replication Kind Op Shown) (node : Node Kind Op Shown) (peer : ℕ) (key : KeyState Kind Op) (log : History Op) → StandsForLog ghosts.IsDeltaOf parts log key.entry
      → D.log_length ≡ 50 → node.identity ≡ parts.origin → node.flushed key.name peer ≡ after → is_behind D node peer key ≡ true
      → IfOk result (λ grouped. (answer_in grouped ≡ AsGroup) ↔ (goes_as_group D node peer key ≡ true))
