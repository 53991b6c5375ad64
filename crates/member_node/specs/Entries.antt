-- What taking entries comes to, in all logs and for all members of the model.
--     entry_taken        an entry after another was taken
--     MeansEntryTaken        by an envelope
--     MeansEnvelopeTaken, MeansEntriesTaken, MeansMerged        by the keys
--     PassesEntryOver        an entry of no declared key, or of another kind, changes nothing
--     is_changed_at        the entry of a key is another than before
use Rattle.std.specs.Prelude.{◌≡◌, ℕ, List, Bool, false, not, if◌then◌else◌, Option}
use Rattle.model_history.specs.Texts.{Text}
use Rattle.model_history.specs.History.{History, union, IsExactlyPruned}
use Rattle.model_members.specs.Entry as model
use Rattle.model_members.specs.Entry.{merged, seen_by, is_unchanged}
use Rattle.model_members.specs.Message as sending
use Rattle.model_members.specs.Node.{Node}
use Rattle.model_members.specs.Step.{is_entry_passed_over, take_entry, after_entries}
use Rattle.model_kinds.specs.declared.shown.Shown.{Shown}
use Rattle.data_markers.specs.Marks.{performed_in}
use Rattle.data_lattice.specs.declared.replica.Replica.{Ghosts}
use Rattle.data_envelope.specs.declared.envelope.Envelope.{Envelope}
use Rattle.data_envelope.specs.Images.{StandsFor}
use Rattle.data_envelope.specs.Words.{parts_of}
use Rattle.member_messages.specs.declared.message.Keyed.{Keyed}
use Rattle.member_messages.specs.Standing.{StandsForKeyed}
use Rattle.member_node.specs.declared.key.KeyState.{KeyState}
use Rattle.member_node.specs.declared.change.Change.{Change}
use Rattle.member_node.specs.Own.{AreOfTheirKinds}
use Rattle.member_node.specs.Changes.{AreMade}
use Rattle.member_node.specs.Inputs.{IsEntryPassedOver, TellsEntries}
use Rattle.member_node.specs.Taking.{IsKept, StandsAfter, AreExactAt, AreHeld, AreHeldBy, AreOnTheWay, IsAtWork}

-- the model's entry after another was taken
abbrev pub entry_taken : {Op : Type 0} → (id view : ℕ) → (before other : model.Entry Op) → model.Entry Op
entry_taken id view before other = if is_entry_passed_over id before other then before else seen_by id view (merged before other)

-- the entry of the key is another than before
abbrev pub is_changed_at : {T Kind Op Delta : Type 0} → (old new : Text → model.Entry Op) → KeyState T Kind Op Delta → Bool
is_changed_at old new state = not (is_unchanged (old state.name) (new state.name))

module _ {T Kind Op Delta : Type 0} (ghosts : Ghosts T Kind Op Delta) (id view : ℕ) where
  -- the envelope that comes of two of the same kind stands for what the model makes of their entries
  abbrev pub MeansEntryTaken : (mine theirs : Envelope T Kind Op Delta) → Option (Envelope T Kind Op Delta) → Type 0
  MeansEntryTaken mine theirs taken =
      (log : History Op) (before other : model.Entry Op) → performed_in (parts_of mine).marks id ≡ false → ghosts.kind_of mine.value ≡ ghosts.kind_of theirs.value
      → StandsFor ghosts.IsDataOf (parts_of mine) log before → StandsFor ghosts.IsDataOf (parts_of theirs) log other → (is_entry_passed_over id before other ≡ false → IsExactlyPruned (union before.history other.history))
      → StandsAfter ghosts.IsDataOf log taken before (entry_taken id view before other)

  -- the changes lead to the member that has taken the entry too
  abbrev pub MeansEnvelopeTaken : List (KeyState T Kind Op Delta) → Keyed (Envelope T Kind Op Delta) → (old new : List (Option (Change T Kind Op Delta))) → Type 0
  MeansEnvelopeTaken keys keyed old new =
      (kinds : Text → Kind) (logs : Text → History Op) (entries : Text → model.Entry Op) (node : Node Kind Op Shown) (sent : sending.Keyed (model.Entry Op))
      → AreExactAt keys (take_entry node sent).entries → AreHeld ghosts.kind_of ghosts.IsDataOf kinds logs id keys entries → AreMade (IsKept ghosts.kind_of id) keys old
      → StandsForKeyed ghosts.kind_of ghosts.IsDataOf kinds logs keyed sent → IsAtWork ghosts.kind_of ghosts.IsDataOf kinds logs id keys view entries old node
      → IsAtWork ghosts.kind_of ghosts.IsDataOf kinds logs id keys view entries new (take_entry node sent)

  -- and the entries of a message, one after another
  abbrev pub MeansEntriesTaken : List (KeyState T Kind Op Delta) → List (Keyed (Envelope T Kind Op Delta)) → (old new : List (Option (Change T Kind Op Delta))) → Type 0
  MeansEntriesTaken keys entries old new =
      (kinds : Text → Kind) (logs : Text → History Op) (before : Text → model.Entry Op) (node : Node Kind Op Shown) (sent : List (sending.Keyed (model.Entry Op)))
      → AreExactAt keys (after_entries node sent).entries → AreOnTheWay ghosts.kind_of ghosts.IsDataOf kinds logs id keys before old → TellsEntries ghosts kinds logs keys entries sent
      → IsAtWork ghosts.kind_of ghosts.IsDataOf kinds logs id keys view before old node → IsAtWork ghosts.kind_of ghosts.IsDataOf kinds logs id keys view before new (after_entries node sent)

  -- so they do where nothing was taken before
  abbrev pub MeansMerged : List (KeyState T Kind Op Delta) → List (Keyed (Envelope T Kind Op Delta)) → List (Option (Change T Kind Op Delta)) → Type 0
  MeansMerged keys entries changes =
      (kinds : Text → Kind) (logs : Text → History Op) (node : Node Kind Op Shown) (sent : List (sending.Keyed (model.Entry Op)))
      → AreExactAt keys (after_entries node sent).entries → AreHeldBy ghosts.kind_of ghosts.IsDataOf kinds logs id keys view node → TellsEntries ghosts kinds logs keys entries sent
      → IsAtWork ghosts.kind_of ghosts.IsDataOf kinds logs id keys view node.entries changes (after_entries node sent)

module _ {T Kind Op Delta : Type 0} (ghosts : Ghosts T Kind Op Delta) (id : ℕ) where
  -- an entry of no declared key, or of another kind, changes nothing
  abbrev pub PassesEntryOver : List (KeyState T Kind Op Delta) → Keyed (Envelope T Kind Op Delta) → (old new : List (Option (Change T Kind Op Delta))) → Type 0
  PassesEntryOver keys keyed old new = AreOfTheirKinds ghosts.kind_of keys → AreMade (IsKept ghosts.kind_of id) keys old → IsEntryPassedOver ghosts keys keyed → new ≡ old
