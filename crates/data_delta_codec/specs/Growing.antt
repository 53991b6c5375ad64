-- Deltas of flags and registers as bytes. A delta of a set that only grows is a set, and is spelled as one.
use Rattle.std.specs.Prelude.{ℕ, ◌≤◌, List, [], ◌++◌, None, Result, Ok}
use Rattle.model_meanings.specs.Refusal.{greatest_share}
use Rattle.base_bytes.specs.declared.fault.Fault.{Fault}
use Rattle.base_bytes.specs.Fields.{◌>>=◌, text_in}
use Rattle.base_bytes.specs.Spelling.{IsText, number_spelled, text_spelled}
use Rattle.base_vectors.specs.Fields.{positive_in}
use Rattle.data_growing.specs.declared.flag.SwitchedOn.{SwitchedOn}
use Rattle.data_growing.specs.declared.register.Written.{Written}

-- what switches a flag on has no fields
abbrev pub nothing_spelled : SwitchedOn → List ℕ
nothing_spelled x = []

abbrev pub switched_in : List ℕ → Result (SwitchedOn × List ℕ) Fault
switched_in bytes = Ok (record {}, bytes)

-- a write without its writer, who is the origin
abbrev pub stamp_and_text : Written → List ℕ
stamp_and_text x = number_spelled x.timestamp ++ text_spelled x.text

unfoldable pub write_in : ℕ → List ℕ → Result (Written × List ℕ) Fault
write_in writer bytes = do
  timestamp ← positive_in greatest_share bytes
  text ← text_in None timestamp.1
  Ok (record { text = text.0; timestamp = timestamp.0; writer = writer }, text.1)

pub record IsSoundStamp (x : Written) : Type 0 where
  pub above : 1 ≤ x.timestamp
  pub within : x.timestamp ≤ greatest_share
  pub text_is : IsText x.text
