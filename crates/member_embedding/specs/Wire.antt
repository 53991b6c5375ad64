-- Messages as bytes, between members of several processes.
--     IsSpellingOf        bytes that a message is spelled by
--     StandsAsPosted, IsTakenAsPosted        what is read of them stands for what was posted, and so does taking it
use Rattle.std.specs.Prelude.{◌≡◌, ℕ, List}
use Rattle.model_history.specs.Texts.{Text}
use Rattle.model_history.specs.History.{History}
use Rattle.model_members.specs.Message.{Message as Meant}
use Rattle.model_members.specs.Node as nodes
use Rattle.data_lattice.specs.declared.replica.Replica.{Ghosts}
use Rattle.data_lattice.specs.declared.spelled.SpelledData.{Ghosts as Spelling}
use Rattle.data_delta_codec.specs.declared.spelled_delta.SpelledDelta.{Ghosts as DeltaSpelling}
use Rattle.member_messages.specs.declared.message.Message.{Message}
use Rattle.member_messages.specs.Standing.{StandsForMessage}
use Rattle.member_codec.specs.Messages.{Told, message_parts, message_bytes, IsSpellable}
use Rattle.member_node.specs.declared.key.KeyState.{KeyState}
use Rattle.member_node.specs.Inputs.{StandsForTake}

module _ {T Kind Op Delta : Type 0} (ghosts : Ghosts T Kind Op Delta) (spelling : Spelling T Kind Op Delta) (deltas : DeltaSpelling T Kind Op Delta) where
  abbrev pub IsSpellingOf : List ℕ → Told ghosts spelling deltas → Type 0
  IsSpellingOf bytes parts = IsSpellable ghosts spelling deltas parts × (bytes ≡ message_bytes ghosts spelling deltas parts)

  -- a message that the bytes of a posted one spell stands for whatever that one stands for
  abbrev pub StandsAsPosted : (Text → Kind) → (Text → History Op) → Type 0
  StandsAsPosted kinds logs =
      (posted read : Message T Kind Op Delta ghosts) (told : Meant Op) (bytes : List ℕ) → IsSpellingOf bytes (message_parts posted) → IsSpellingOf bytes (message_parts read)
      → StandsForMessage ghosts.kind_of ghosts.IsDataOf kinds logs posted told → StandsForMessage ghosts.kind_of ghosts.IsDataOf kinds logs read told

  -- and a member of any keys that takes it from anyone takes that
  abbrev pub IsTakenAsPosted : (Text → Kind) → (Text → History Op) → Type 0
  IsTakenAsPosted kinds logs =
      (keys : List (KeyState T Kind Op Delta)) (from : ℕ) (posted read : Message T Kind Op Delta ghosts) (told : Meant Op) (bytes : List ℕ) → IsSpellingOf bytes (message_parts posted) → IsSpellingOf bytes (message_parts read)
      → StandsForMessage ghosts.kind_of ghosts.IsDataOf kinds logs posted told → StandsForTake kinds logs keys from read (nodes.Input.Take from told)
