-- What reading answers.
use Rattle.std.specs.Prelude.{◌≡◌, ℕ, ◌-◌, List, length, Result, Ok, Err}
use Rattle.base_bytes.specs.declared.fault.Fault.{Fault}
use Rattle.base_bytes.specs.declared.fault.FieldError.{FieldError}
use Rattle.base_bytes.specs.declared.fault.ReadError.{ReadError}
use Rattle.base_bytes.specs.declared.fault.ReadError.TheVariants as placed_error
use Rattle.base_bytes.specs.Fields.{Fails}
use Rattle.base_bytes.specs.Spelling.{placed}
use Rattle.data_envelope.specs.declared.envelope.Envelope.{Envelope}
use Rattle.data_envelope.specs.Images.{Parts}
use Rattle.data_envelope.specs.Words.{parts_of}
use Rattle.data_codec.specs.declared.reading.Head.{Head}
use Rattle.data_codec.specs.declared.error.CodecError.{CodecError}
use Rattle.data_codec.specs.declared.error.CodecError.TheVariants.{NotAnEnvelope, Memory}

-- a fault of either sort, by its place
abbrev pub refusal : ReadError → CodecError
refusal (placed_error.Short place) = NotAnEnvelope place
refusal (placed_error.BadByte place) = NotAnEnvelope place
refusal placed_error.Memory = Memory

-- the fault of the field that is cut short, breaks its rule or is left over, among so many bytes, unless memory ran out
abbrev pub Refuses : {Y : Type 0} → ℕ → CodecError → Result Y Fault → Type 0
Refuses total e read = (fault : FieldError) × Fails fault read × (e ≡ refusal (placed total fault))

-- the head and the data of the parts that were read, or else why not
abbrev pub IsWhole : {T : Type 0} → ℕ → Result (Head × T) CodecError → Result (Parts T) Fault → Type 0
IsWhole total (Ok found) read = read ≡ Ok (record { value = found.1; versions = found.0.versions; marks = found.0.marks })
IsWhole total (Err e) read = Refuses total e read

-- the same where bytes may follow, and the place of these
abbrev pub IsFront : {T : Type 0} → ℕ → Result ((Head × T) × ℕ) CodecError → Result (Parts T × List ℕ) Fault → Type 0
IsFront total (Ok found) read = (rest : List ℕ) × (read ≡ Ok (record { value = found.0.1; versions = found.0.0.versions; marks = found.0.0.marks }, rest)) × (found.1 ≡ total - length rest)
IsFront total (Err e) read = Refuses total e read

-- an envelope of the parts that were read, or else why not
abbrev pub IsRead : {T Kind Op Delta : Type 0} → ℕ → Result (Envelope T Kind Op Delta) CodecError → Result (Parts T) Fault → Type 0
IsRead total (Ok envelope) read = read ≡ Ok (parts_of envelope)
IsRead total (Err e) read = Refuses total e read
