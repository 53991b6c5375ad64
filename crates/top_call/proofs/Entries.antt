-- The bytes of a stored entry are one or none, so they call for one status.
use Rattle.std.proofs.Common.{◌≡◌, ℕ, ◌<◌, ◌≤◌, List, length, Bool, Result, Ok, arith, refl}
use Rattle.model_history.specs.Vector.{IdentitySet}
use Rattle.base_bytes.specs.declared.fault.Fault.{Fault}
use Rattle.base_bytes.specs.declared.fault.FieldError.{FieldError}
use Rattle.base_bytes.specs.declared.fault.FieldError.TheVariants as field
use Rattle.base_bytes.specs.Fields.{Fails}
use Rattle.base_bytes.specs.Spelling.{placed}
use Rattle.data_envelope.specs.Images.{Parts}
use Rattle.data_codec.specs.declared.error.CodecError.{CodecError}
use Rattle.data_codec.specs.declared.error.CodecError.TheVariants as codec
use Rattle.data_codec.specs.Answers.{Refuses, refusal}
use Rattle.data_codec.specs.Envelopes.{IsEnvelope}
use Rattle.data_codec.specs.Stored.{IsStored, stored_of}
use Rattle.data_value.specs.declared.data.Data.{Data}
use Rattle.top_call.specs.Passages.{limit}
use Rattle.top_call.specs.Upgrading.{IsEntry, IsPlaceDue, IsUpgradeDueBy, EntryCallsFor, EntryCallsFor as calls}
use Rattle.top_call.specs.declared.due.Due.{Due}
use Rattle.top_call.specs.declared.due.Due.TheVariants.{NotAnEnvelope, Memory}
use Rattle.top_call.specs.declared.status.Status.{Status}
use Rattle.top_call.specs.declared.status.Status.TheVariants as status

-- what can be read is not refused at a place
pub read_is_no_fault : {Y : Type 0} (total place : ℕ) (y : Y) → Refuses total (codec.NotAnEnvelope place) (Ok y) → ⊥
read_is_no_fault {Y} total place y h = go h.0 h.1 h.2
  where
    go : (fault : FieldError) → Fails {Y = Y} fault (Ok y) → codec.NotAnEnvelope place ≡ refusal (placed total fault) → ⊥
    go field.Memory fails e = absurd (cc e)
    go (field.Fault fault) fails e = absurd (cc fails)

-- what is due where reading refuses bytes, and reads whatever is stored
pub refused_due : {T : Type 0} (is_known : ℕ → Bool) (data_in : ℕ → IdentitySet → List ℕ → Result (T × List ℕ) Fault) (byte_of : T → ℕ) (spelled : T → List ℕ) (IsSound : T → Type 0) (mentioned : T → ℕ → Bool) (bytes : List ℕ) (error : CodecError) (due : Due)
    → Refuses (length bytes) error (stored_of is_known data_in bytes) → ((parts : Parts T) → IsEnvelope IsSound mentioned parts → IsStored byte_of spelled parts bytes → Refuses (length bytes) error (Ok parts)) → IsPlaceDue error due
    → IsUpgradeDueBy is_known data_in byte_of spelled IsSound mentioned bytes due
refused_due is_known data_in byte_of spelled IsSound mentioned bytes (codec.NotAnEnvelope place) (NotAnEnvelope text) exact only told =
    (place, record { first = exact; none = λ parts is. read_is_no_fault (length bytes) place parts (only parts is.envelope is.stored) }, told)
refused_due is_known data_in byte_of spelled IsSound mentioned bytes error Memory exact only told = tt
refused_due is_known data_in byte_of spelled IsSound mentioned bytes error due exact only told = absurd told

module _ (bytes : List ℕ) where
  pub entry_calls : (parts : Parts Data) (wanted : Status) → length bytes ≤ limit → IsEntry parts bytes → EntryCallsFor bytes wanted → status.Done ≡ wanted
  entry_calls parts _ within is (calls.done other short k) = refl
  entry_calls parts _ within is (calls.not_an_envelope short none) = absurd (none parts is)
  entry_calls parts _ within is (calls.too_long long) = absurd (omega arith)

  pub no_entry_calls : (wanted : Status) → length bytes ≤ limit → ((parts : Parts Data) → IsEntry parts bytes → ⊥) → EntryCallsFor bytes wanted → status.NotAnEnvelope ≡ wanted
  no_entry_calls _ within none (calls.done parts short is) = absurd (none parts is)
  no_entry_calls _ within none (calls.not_an_envelope short other) = refl
  no_entry_calls _ within none (calls.too_long long) = absurd (omega arith)

  pub length_calls : (wanted : Status) → limit < length bytes → EntryCallsFor bytes wanted → status.TooLong ≡ wanted
  length_calls _ more (calls.done parts short is) = absurd (omega arith)
  length_calls _ more (calls.not_an_envelope short none) = absurd (omega arith)
  length_calls _ more (calls.too_long long) = refl
