-- Envelopes and entries as they are stored. Format 2 is the byte 2, the spelling without its first byte, and SHA-1 of all that stands before it. Format 1 is the spelling.
--     sealed         bytes with their SHA-1 behind them
--     envelope_stored, entry_stored         the one spelling of format 2
--     IsStored, stored_of         the bytes are those of either format, and how they are read
use Rattle.std.specs.Prelude.{◌≡◌, ◌⊎◌, ℕ, ◌-◌, List, [], ◌∷◌, ◌++◌, length, take, drop, Bool, false, ◌==◌, if◌then◌else◌, Result, Ok}
use Rattle.std.specs.Str.{bytes_eq}
use Rattle.model_history.specs.History.{History}
use Rattle.model_history.specs.Vector.{IdentitySet}
use Rattle.model_members.specs.Entry.{Entry}
use Rattle.base_bytes.specs.declared.fault.Fault.{Fault}
use Rattle.base_bytes.specs.Fields.{◌>>=◌, kept, enough}
use Rattle.data_envelope.specs.Images.{Parts}
use Rattle.data_codec.specs.Envelopes.{spelled_in, envelope_spelled, parts_in, envelope_of}
use Rattle.data_codec.specs.Entries.{entry_in}
use Rattle.sha1.specs.Sha1.{sha1}

-- bytes, and their SHA-1 behind them
abbrev pub sealed : List ℕ → List ℕ
sealed bytes = bytes ++ sha1 bytes

module _ {T : Type 0} (byte_of : T → ℕ) (spelled : T → List ℕ) where
  abbrev pub envelope_stored : Parts T → List ℕ
  envelope_stored parts = sealed (spelled_in byte_of spelled 2 parts)

  -- the bytes are an envelope in format 1 or 2
  abbrev pub IsStored : Parts T → List ℕ → Type 0
  IsStored parts bytes = (bytes ≡ envelope_spelled byte_of spelled parts) ⊎ (bytes ≡ envelope_stored parts)

module _ {Kind Op : Type 0} (history_byte : Kind → History Op → ℕ) (history_spelled : Kind → History Op → List ℕ) where
  unfoldable pub entry_stored : Kind → Entry Op → List ℕ
  entry_stored kind entry = sealed (entry_in history_byte history_spelled 2 kind entry)

-- one field of 20 bytes, the SHA-1 of those before it, and nothing after it
unfoldable pub seal_of : List ℕ → List ℕ → Result (Unit {0}) Fault
seal_of before bytes = do
  _ ← enough 20 bytes
  _ ← kept (bytes_eq (take 20 bytes) (sha1 before)) (length bytes)
  kept (length (drop 20 bytes) == 0) (length (drop 20 bytes))

-- whether the first byte says format 2
abbrev pub is_second : List ℕ → Bool
is_second [] = false
is_second (first ∷ bytes) = first == 2

module _ {T : Type 0} (is_known : ℕ → Bool) (data_in : ℕ → IdentitySet → List ℕ → Result (T × List ℕ) Fault) where
  -- the fields of the spelling, and the seal of all of them
  unfoldable pub sealed_of : List ℕ → Result (Parts T) Fault
  sealed_of bytes = do
    parts ← parts_in is_known data_in 2 bytes
    _ ← seal_of (take (length bytes - length parts.1) bytes) parts.1
    Ok parts.0

  -- format 2, or else format 1
  unfoldable pub stored_of : List ℕ → Result (Parts T) Fault
  stored_of bytes = if is_second bytes then sealed_of bytes else envelope_of is_known data_in bytes
