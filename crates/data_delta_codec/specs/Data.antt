-- Deltas of a key's data as bytes: those of its value; and that the key was deleted, which is a byte alone.
use Rattle.std.specs.Prelude.{ℕ, List, [], Bool, ◌||◌, ◌==◌, if◌then◌else◌, Result, Ok}
use Rattle.base_bytes.specs.declared.fault.Fault.{Fault}
use Rattle.data_value.specs.Spelled.{is_known, told_as}
use Rattle.data_value.specs.declared.data.Delta.{Delta}
use Rattle.data_value.specs.declared.data.Delta.TheVariants.{Open, Delete}
use Rattle.data_delta_codec.specs.Values as values

-- a delete is of every kind, and so its byte is that of none
abbrev pub delete_byte : ℕ
delete_byte = 128

abbrev pub delta_byte : Delta → ℕ
delta_byte (Open change) = values.delta_byte change
delta_byte Delete = delete_byte

abbrev pub is_delta_byte : ℕ → Bool
is_delta_byte byte = (byte == delete_byte) || is_known byte

abbrev pub IsSoundDelta : Delta → Type 0
IsSoundDelta (Open change) = values.IsSoundDelta change
IsSoundDelta Delete = Unit {0}

abbrev pub delta_spelled : Delta → List ℕ
delta_spelled (Open change) = values.delta_spelled change
delta_spelled Delete = []

-- nothing is read of a delete
abbrev pub delta_in : ℕ → ℕ → List ℕ → Result (Delta × List ℕ) Fault
delta_in byte origin bytes = if byte == delete_byte then Ok (Delete, bytes) else told_as Open (values.delta_in byte origin bytes)
