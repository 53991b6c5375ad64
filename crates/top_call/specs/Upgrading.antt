-- Stored entries on a source: which bytes are one, how it is written in format 2, and what is due for them.
--     IsEntry         bytes are an envelope in format 1 or 2
--     Upgrades         they are, and others are its bytes in format 2
--     IsFaultAt         they are none, and this is the place of their first fault
--     IsUpgradeDueBy         what is due for them, of any type of data
--     EntryCallsFor         the status that they call for
use Rattle.std.specs.Prelude.{◌≡◌, ℕ, ◌<◌, ◌≤◌, List, ◌++◌, length, codes, decimal, Bool, string_bytes, Result}
use Rattle.model_history.specs.Vector.{IdentitySet}
use Rattle.base_bytes.specs.declared.fault.Fault.{Fault}
use Rattle.data_envelope.specs.Images.{Parts}
use Rattle.data_codec.specs.declared.error.CodecError.{CodecError}
use Rattle.data_codec.specs.declared.error.CodecError.TheVariants as codec
use Rattle.data_codec.specs.Answers.{Refuses}
use Rattle.data_codec.specs.Envelopes.{IsEnvelope}
use Rattle.data_codec.specs.Stored.{IsStored, envelope_stored, stored_of}
use Rattle.data_value.specs.Data.{mentioned}
use Rattle.data_value.specs.DataSpelled as data_spelled
use Rattle.data_value.specs.declared.data.Data.{Data}
use Rattle.top_call.specs.Passages.{Passage, ReadsWhole, limit}
use Rattle.top_call.specs.declared.due.Due.{Due}
use Rattle.top_call.specs.declared.due.Due.TheVariants.{Upgraded, NotAnEnvelope, Memory}
use Rattle.top_call.specs.declared.status.Status.{Status}
use Rattle.top_call.specs.declared.status.Status.TheVariants as status

-- at which place bytes stop being an envelope
abbrev pub not_an_envelope_text : ℕ → List ℕ
not_an_envelope_text place = codes "not an envelope: place " ++ decimal place ++ codes "\n"

-- What is due where bytes were not read as an entry, unless memory was refused.
abbrev pub IsPlaceDue : CodecError → Due → Type 0
IsPlaceDue error Memory = Unit {0}
IsPlaceDue (codec.NotAnEnvelope place) (NotAnEnvelope text) = string_bytes text ≡ not_an_envelope_text place
IsPlaceDue error due = ⊥

-- ---- of any type of data

module _ {T : Type 0} (byte_of : T → ℕ) (spelled : T → List ℕ) (IsSound : T → Type 0) (mentioned : T → ℕ → Bool) where
  -- The bytes are an envelope of these parts, in format 1 or 2.
  pub record IsEntryBy (parts : Parts T) (bytes : List ℕ) : Type 0 where
    pub envelope : IsEnvelope IsSound mentioned parts
    pub stored : IsStored byte_of spelled parts bytes

  -- The bytes are an envelope in format 1 or 2, and the text is its bytes in format 2.
  pub record UpgradesBy (bytes text : List ℕ) : Type 0 where
    pub parts : Parts T
    pub is : IsEntryBy parts bytes
    pub written : text ≡ envelope_stored byte_of spelled parts

module _ {T : Type 0} (is_known : ℕ → Bool) (data_in : ℕ → IdentitySet → List ℕ → Result (T × List ℕ) Fault) (byte_of : T → ℕ) (spelled : T → List ℕ) (IsSound : T → Type 0) (mentioned : T → ℕ → Bool) where
  -- The bytes are no envelope in either format. The first field that is cut short, breaks its rule or is left over begins at this place.
  pub record IsFaultAtBy (place : ℕ) (bytes : List ℕ) : Type 0 where
    pub first : Refuses (length bytes) (codec.NotAnEnvelope place) (stored_of is_known data_in bytes)
    pub none : (parts : Parts T) → IsEntryBy byte_of spelled IsSound mentioned parts bytes → ⊥

  -- What is due for the bytes, unless memory was refused.
  abbrev pub IsUpgradeDueBy : List ℕ → Due → Type 0
  IsUpgradeDueBy bytes (Upgraded text) = UpgradesBy byte_of spelled IsSound mentioned bytes text.items
  IsUpgradeDueBy bytes (NotAnEnvelope text) = (place : ℕ) × IsFaultAtBy place bytes × (string_bytes text ≡ not_an_envelope_text place)
  IsUpgradeDueBy bytes Memory = Unit {0}
  IsUpgradeDueBy bytes due = ⊥

-- ---- of the six kinds

abbrev pub IsEntry : Parts Data → List ℕ → Type 0
IsEntry = IsEntryBy data_spelled.byte_of data_spelled.spelled data_spelled.IsSound mentioned

-- What `upgrade` writes of some bytes.
abbrev pub Upgrades : (bytes text : List ℕ) → Type 0
Upgrades = UpgradesBy data_spelled.byte_of data_spelled.spelled data_spelled.IsSound mentioned

abbrev pub IsFaultAt : (place : ℕ) → (bytes : List ℕ) → Type 0
IsFaultAt = IsFaultAtBy data_spelled.is_known data_spelled.read_in data_spelled.byte_of data_spelled.spelled data_spelled.IsSound mentioned

abbrev pub IsUpgradeDue : List ℕ → Due → Type 0
IsUpgradeDue = IsUpgradeDueBy data_spelled.is_known data_spelled.read_in data_spelled.byte_of data_spelled.spelled data_spelled.IsSound mentioned

-- The source was read to its end, and its bytes are no envelope, by their first fault.
abbrev pub HasNoEntry : Passage → ℕ → Type 0
HasNoEntry read place = (bytes : List ℕ) × ReadsWhole read bytes × IsFaultAt place bytes

-- The status that the bytes of a source call for, where a stored entry is read from it.
pub data EntryCallsFor (bytes : List ℕ) : Status → Type 0 where
  done : (parts : Parts Data) → length bytes ≤ limit → IsEntry parts bytes → EntryCallsFor bytes status.Done
  not_an_envelope : length bytes ≤ limit → ((parts : Parts Data) → IsEntry parts bytes → ⊥) → EntryCallsFor bytes status.NotAnEnvelope
  too_long : limit < length bytes → EntryCallsFor bytes status.TooLong
