-- What a line says.
--     SaysStep        a JSON text says a step, in the form that scripts have
--     BringsBytes        behind the word from: an identity in decimal, and bytes in hexadecimal digits
--     Says        a line says so, or says nothing for this reason
use Rattle.std.specs.Prelude.{◌≡◌, ℕ, ◌<◌, List, [], ◌++◌, codes, decimal, IsErr, Result, Ok, Err}
use Rattle.model_history.specs.Table.{identity_limit}
use Rattle.serde_json.specs.Data.{Data}
use Rattle.hex.specs.Hex.{decode_of}
use Rattle.script_reading.specs.declared.fault.Rule.{Rule}
use Rattle.script_reading.specs.declared.script.Step.{Step}
use Rattle.script_reading.specs.Forms.{plain_of}
use Rattle.script_reading.specs.Reading.{Reads, HasNoReading}
use Rattle.top_lines.specs.declared.line.Line.{Line}
use Rattle.top_lines.specs.declared.line.Line.TheVariants.{Asks, Brings, Decides}
use Rattle.top_lines.specs.declared.refusal.Refusal.{Refusal}
use Rattle.top_lines.specs.declared.refusal.Refusal.TheVariants.{NotJson, NotAStep, NoSender, NotHex}

-- ---- steps

-- a JSON text that is a step as a script's first one, without clients
pub record IsStepText (line : List ℕ) (step : Step) : Type 0 where
  pub value : Data
  pub reads : Reads line value
  pub is : plain_of [] 1 value ≡ Ok step

-- a JSON text that breaks this rule of such a step
pub record BreaksRule (line : List ℕ) (number : ℕ) : Type 0 where
  pub value : Data
  pub reads : Reads line value
  pub broken : Rule
  pub is : plain_of [] 1 value ≡ Err broken
  pub told : number ≡ broken.number

abbrev pub SaysStep : List ℕ → Result Step Refusal → Type 0
SaysStep line (Ok step) = IsStepText line step
SaysStep line (Err NotJson) = HasNoReading line
SaysStep line (Err (NotAStep number)) = BreaksRule line number
SaysStep line (Err _) = ⊥

-- ---- bytes

-- hexadecimal digits of these bytes, or of none
abbrev pub AreHex : List ℕ → Result (List ℕ) Refusal → Type 0
AreHex digits (Ok bytes) = decode_of digits ≡ Ok bytes
AreHex digits (Err NotHex) = IsErr (decode_of digits)
AreHex digits (Err _) = ⊥

-- an identity, in decimal
abbrev pub IsIdentity : ℕ → List ℕ → Type 0
IsIdentity n word = (word ≡ decimal n) × (n < identity_limit)

-- an identity, a space, and what stands behind it
pub record IsSent (rest : List ℕ) (from : ℕ) (digits : List ℕ) : Type 0 where
  pub given : from < identity_limit
  pub is : rest ≡ decimal from ++ codes " " ++ digits

abbrev pub BringsBytes : List ℕ → Result Line Refusal → Type 0
BringsBytes rest (Ok (Brings from bytes)) = (digits : List ℕ) × IsSent rest from digits × (decode_of digits ≡ Ok bytes)
BringsBytes rest (Ok _) = ⊥
BringsBytes rest (Err NoSender) = (from : ℕ) (digits : List ℕ) → IsSent rest from digits → ⊥
BringsBytes rest (Err NotHex) = (from : ℕ) × (digits : List ℕ) × IsSent rest from digits × IsErr (decode_of digits)
BringsBytes rest (Err _) = ⊥

-- ---- lines

-- a line begins with this word, and the rest is told so
pub record Behind {X : Type 0} (word : List ℕ) (IsSo : List ℕ → X → Type 0) (line : List ℕ) (said : X) : Type 0 where
  pub rest : List ℕ
  pub begins : line ≡ word ++ rest
  pub is : IsSo rest said

-- it begins with neither word
pub record IsOther (line : List ℕ) : Type 0 where
  pub no_from : (rest : List ℕ) → line ≡ codes "from " ++ rest → ⊥
  pub no_install : (rest : List ℕ) → line ≡ codes "install " ++ rest → ⊥

-- a line says so in one of three ways, by its first word
pub data Says (line : List ℕ) : Result Line Refusal → Type 0 where
  brings : (said : Result Line Refusal) → Behind (codes "from ") BringsBytes line said → Says line said
  decides : (bytes : List ℕ) → Behind (codes "install ") AreHex line (Ok bytes) → Says line (Ok (Decides bytes))
  decides_nothing : (refusal : Refusal) → Behind (codes "install ") AreHex line (Err refusal) → Says line (Err refusal)
  asks : (step : Step) → IsOther line → SaysStep line (Ok step) → Says line (Ok (Asks step))
  asks_nothing : (refusal : Refusal) → IsOther line → SaysStep line (Err refusal) → Says line (Err refusal)
