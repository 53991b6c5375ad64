-- Sets, flags and registers at the front of bytes, read from left to right, with the first fault that is met.
use Rattle.std.specs.Prelude.{ℕ, zero, suc, List, [], ◌∷◌, length, nat_le, nat_lt, ◌==◌, if◌then◌else◌, Option, None, Some, Result, Ok}
use Rattle.model_history.specs.Table.{identity_limit}
use Rattle.model_history.specs.Texts.{Text}
use Rattle.model_meanings.specs.Refusal.{greatest_share}
use Rattle.base_bytes.specs.declared.fault.Fault.{Fault}
use Rattle.base_bytes.specs.Fields.{◌>>=◌, kept, byte_in, number_in, text_in}
use Rattle.data_growing.specs.declared.flag.Flag.{Flag}
use Rattle.data_growing.specs.declared.register.Written.{Written}

-- so many texts, each after the one before it
unfoldable pub texts_in : ℕ → Option Text → List ℕ → Result (List Text × List ℕ) Fault
texts_in zero before bytes = Ok ([], bytes)
texts_in (suc n) before bytes = do
  first ← text_in before bytes
  others ← texts_in n (Some first.0) first.1
  Ok (first.0 ∷ others.0, others.1)

unfoldable pub set_in : List ℕ → Result (List Text × List ℕ) Fault
set_in bytes = do
  n ← number_in bytes
  texts_in n.0 None n.1

unfoldable pub flag_in : List ℕ → Result (Flag × List ℕ) Fault
flag_in bytes = do
  switch ← byte_in bytes
  _ ← kept (nat_le switch.0 1) (length bytes)
  Ok (record { on = switch.0 == 1 }, switch.1)

-- the writer and the text of a write with a timestamp
unfoldable pub written_in : ℕ → List ℕ → Result (Written × List ℕ) Fault
written_in timestamp bytes = do
  writer ← byte_in bytes
  _ ← kept (nat_lt writer.0 identity_limit) (length bytes)
  text ← text_in None writer.1
  Ok (record { text = text.0; timestamp = timestamp; writer = writer.0 }, text.1)

unfoldable pub register_in : List ℕ → Result (Option Written × List ℕ) Fault
register_in bytes = do
  timestamp ← number_in bytes
  _ ← kept (nat_le timestamp.0 greatest_share) (length bytes)
  if timestamp.0 == 0 then Ok (None, timestamp.1) else (do
    write ← written_in timestamp.0 timestamp.1
    Ok (Some write.0, write.1))
