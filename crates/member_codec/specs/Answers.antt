-- What reading a message or a view answers.
use Rattle.std.specs.Prelude.{◌≡◌, ℕ, List, length, Result, Ok, Err, IfOk}
use Rattle.base_bytes.specs.declared.fault.Fault.{Fault}
use Rattle.base_bytes.specs.declared.fault.FieldError.{FieldError}
use Rattle.base_bytes.specs.declared.fault.ReadError.{ReadError}
use Rattle.base_bytes.specs.declared.fault.ReadError.TheVariants as placed_error
use Rattle.base_bytes.specs.Fields.{Fails}
use Rattle.base_bytes.specs.Spelling.{placed}
use Rattle.data_lattice.specs.declared.replica.Replica.{Ghosts}
use Rattle.data_lattice.specs.declared.spelled.SpelledData.{Ghosts as Spelling}
use Rattle.data_delta_codec.specs.declared.spelled_delta.SpelledDelta.{Ghosts as DeltaSpelling}
use Rattle.data_envelope.specs.Images.{Parts, GroupParts}
use Rattle.member_messages.specs.declared.message.Message.{Message}
use Rattle.member_codec.specs.Messages.{MessageParts, message_parts, message_bytes, IsSpellable}
use Rattle.member_codec.specs.declared.error.CodecError.{CodecError}
use Rattle.member_codec.specs.declared.error.CodecError.TheVariants.{NotASpelling, Memory}

-- a fault of either sort, by its place
abbrev pub refusal : ReadError → CodecError
refusal (placed_error.Short place) = NotASpelling place
refusal (placed_error.BadByte place) = NotASpelling place
refusal placed_error.Memory = Memory

-- a value of the parts that were read, or else the fault of the field that is cut short, breaks its rule or is left over,
-- among so many bytes, unless memory ran out
abbrev pub IsRead : {X Y : Type 0} → (X → Y) → ℕ → Result X CodecError → Result Y Fault → Type 0
IsRead parts total (Ok value) read = read ≡ Ok (parts value)
IsRead parts total (Err e) read = (fault : FieldError) × Fails fault read × (e ≡ refusal (placed total fault))

module _ {T Kind Op Delta : Type 0} (ghosts : Ghosts T Kind Op Delta) (spelling : Spelling T Kind Op Delta) (deltas : DeltaSpelling T Kind Op Delta) where
  -- what was read is a message that the bytes spell
  abbrev pub ReadsSpelled : {E : Type 0} → List ℕ → Result (Message T Kind Op Delta ghosts) E → Type 0
  ReadsSpelled bytes result = IfOk result (λ message. IsSpellable ghosts spelling deltas (message_parts message) × (bytes ≡ message_bytes ghosts spelling deltas (message_parts message)))

  -- what the bytes spell is read, unless memory runs out
  abbrev pub ReadsWhatIsSpelled : List ℕ → Result (Message T Kind Op Delta ghosts) CodecError → Type 0
  ReadsWhatIsSpelled bytes result =
      (parts : MessageParts (Parts T) (GroupParts Delta)) → IsSpellable ghosts spelling deltas parts → bytes ≡ message_bytes ghosts spelling deltas parts → IsRead message_parts (length bytes) result (Ok parts)
