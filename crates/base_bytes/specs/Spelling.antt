-- The one spelling of fields, and what the two directions have to do with each other.
use Rattle.std.specs.Prelude.{◌≡◌, ℕ, ◌-◌, ◌<◌, ◌≤◌, List, ◌∷◌, ◌++◌, length, slice_index, true, Result, Ok, Err}
use Rattle.std.specs.Int.{w32, w64, to_be_bytes}
use Rattle.std.specs.Str.{is_utf8}
use Rattle.model_history.specs.Texts.{Text}
use Rattle.base_bytes.specs.declared.fault.Fault.{Fault}
use Rattle.base_bytes.specs.declared.fault.Fault.TheVariants.{Short, BadByte}
use Rattle.base_bytes.specs.declared.fault.ReadError.{ReadError}
use Rattle.base_bytes.specs.declared.fault.ReadError.TheVariants as error
use Rattle.base_bytes.specs.declared.fault.FieldError.{FieldError}
use Rattle.base_bytes.specs.declared.fault.FieldError.TheVariants as field
use Rattle.base_bytes.specs.Fields.{Fails}

-- four and eight bytes, the greatest first
abbrev pub word_spelled : ℕ → List ℕ
word_spelled n = to_be_bytes w32 n

abbrev pub number_spelled : ℕ → List ℕ
number_spelled n = to_be_bytes w64 n

abbrev pub text_spelled : Text → List ℕ
text_spelled text = length text ∷ text

-- a text has at most 64 bytes, which are UTF-8
pub record IsText (text : Text) : Type 0 where
  pub short : length text ≤ 64
  pub utf8 : is_utf8 text ≡ true

abbrev pub AreBytes : List ℕ → Type 0
AreBytes bytes = (i : ℕ) → slice_index bytes i < 256

-- what was read from the front of bytes, and what is left
pub record Takes (bytes text rest : List ℕ) : Type 0 where
  pub parts : bytes ≡ text ++ rest
  pub rest_are_bytes : AreBytes rest

-- a fault, by the place of its field among so many bytes
abbrev pub placed : ℕ → FieldError → ReadError
placed total field.Memory = error.Memory
placed total (field.Fault (Short left)) = error.Short (total - left)
placed total (field.Fault (BadByte left)) = error.BadByte (total - left)

-- of so many bytes a value and the place after it was answered, or the place of the first fault, unless memory ran out
abbrev pub GivesAt : {X : Type 0} → ℕ → Result (X × ℕ) ReadError → Result (X × List ℕ) Fault → Type 0
GivesAt total (Ok found) read = (rest : List ℕ) × (read ≡ Ok (found.0, rest)) × (found.1 ≡ total - length rest)
GivesAt total (Err e) read = (fault : FieldError) × Fails fault read × (e ≡ placed total fault)
