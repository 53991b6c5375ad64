-- Envelopes as bytes: their one spelling, and how they are read, field by field.
use Rattle.std.specs.Prelude.{◌≡◌, ℕ, ◌^◌, List, ◌∷◌, ◌++◌, length, Bool, true, false, ◌==◌, Result, Ok}
use Rattle.model_history.specs.Vector.{IdentitySet}
use Rattle.base_bytes.specs.declared.fault.Fault.{Fault}
use Rattle.base_bytes.specs.Fields.{◌>>=◌, kept, byte_in}
use Rattle.base_vectors.specs.Vectors.{number_at}
use Rattle.base_vectors.specs.Spelling.{numbers_spelled, numbers_in, AreSpellable, AreFree}
use Rattle.data_markers.specs.Marks.{performed_in}
use Rattle.data_markers.specs.Spelling.{marks_spelled, marks_in}
use Rattle.data_markers.specs.SpellingLaws.{AreSpellable as AreMarks}
use Rattle.data_envelope.specs.Images.{Parts}
use Rattle.data_codec.specs.declared.reading.Head.{Head}

-- numbers of records are at most this
abbrev pub most_seq : ℕ
most_seq = 2 ^ 62

module _ {T : Type 0} (byte_of : T → ℕ) (spelled : T → List ℕ) where
  -- the format, the byte that tells what the data are, the marks, the numbers of records, and the data
  abbrev pub spelled_in : ℕ → Parts T → List ℕ
  spelled_in format parts = format ∷ byte_of parts.value ∷ marks_spelled parts.marks ++ numbers_spelled (number_at parts.versions) ++ spelled parts.value

  abbrev pub envelope_spelled : Parts T → List ℕ
  envelope_spelled parts = spelled_in 1 parts

module _ {T : Type 0} (spelling : T → ℕ × List ℕ) where
  -- by the byte and the spelling of data together
  abbrev pub spelled_by : Parts T → List ℕ
  spelled_by parts = envelope_spelled (λ value. (spelling value).0) (λ value. (spelling value).1) parts

module _ (is_known : ℕ → Bool) where
  unfoldable pub head_in : ℕ → List ℕ → Result (Head × List ℕ) Fault
  head_in format bytes = do
    first ← byte_in bytes
    _ ← kept (first.0 == format) (length bytes)
    kind ← byte_in first.1
    _ ← kept (is_known kind.0) (length first.1)
    marks ← marks_in kind.1
    versions ← numbers_in most_seq (performed_in marks.0) marks.1
    Ok (record { kind = kind.0; marks = marks.0; versions = versions.0 }, versions.1)

module _ {T : Type 0} (is_known : ℕ → Bool) (data_in : ℕ → IdentitySet → List ℕ → Result (T × List ℕ) Fault) where
  -- no pruned identity has records or is named by the data
  unfoldable pub parts_in : ℕ → List ℕ → Result (Parts T × List ℕ) Fault
  parts_in format bytes = do
    head ← head_in is_known format bytes
    value ← data_in head.0.kind (performed_in head.0.marks) head.1
    Ok (record { value = value.0; versions = head.0.versions; marks = head.0.marks }, value.1)

  -- format 1, and nothing follows
  unfoldable pub envelope_of : List ℕ → Result (Parts T) Fault
  envelope_of bytes = do
    parts ← parts_in 1 bytes
    _ ← kept (length parts.1 == 0) (length parts.1)
    Ok parts.0

-- each part can be spelled
pub record IsSpelled {T : Type 0} (IsSound : T → Type 0) (parts : Parts T) : Type 0 where
  pub marks : AreMarks parts.marks
  pub versions : AreSpellable most_seq parts.versions
  pub value : IsSound parts.value

-- and no pruned identity has records or is named by the data
pub record IsEnvelope {T : Type 0} (IsSound : T → Type 0) (mentioned : T → ℕ → Bool) (parts : Parts T) : Type 0 where
  pub spelled : IsSpelled IsSound parts
  pub counted : AreFree (performed_in parts.marks) parts.versions
  pub named : (i : ℕ) → performed_in parts.marks i ≡ true → mentioned parts.value i ≡ false
