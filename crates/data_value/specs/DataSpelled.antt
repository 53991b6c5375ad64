-- A key's data as bytes: those of its value; and where the key was deleted none, but another byte of the kind.
use Rattle.std.specs.Prelude.{ℕ, ◌+◌, ◌-◌, List, [], Bool, nat_lt, if◌then◌else◌, Result, Ok}
use Rattle.model_history.specs.Vector.{IdentitySet}
use Rattle.model_history.specs.History.{History}
use Rattle.base_bytes.specs.declared.fault.Fault.{Fault}
use Rattle.model_kinds.specs.SixKinds.{six_kinds}
use Rattle.model_kinds.specs.declared.kind.Kind.{Kind}
use Rattle.model_kinds.specs.declared.operation.Op.{Op}
use Rattle.data_value.specs.Values as values
use Rattle.data_value.specs.Spelled as of_value
use Rattle.data_value.specs.Spelled.{told_as, kind_at}
use Rattle.data_value.specs.declared.data.Data.{Data}
use Rattle.data_value.specs.declared.data.Data.TheVariants.{Open, Deleted}

-- the bytes of deleted keys of the kinds are 129 to 134
abbrev pub deleted_byte : Kind → ℕ
deleted_byte kind = of_value.byte_of kind + 128

abbrev pub byte_of : Data → ℕ
byte_of (Open value) = of_value.byte_of (values.kind_of value)
byte_of (Deleted kind) = deleted_byte kind

abbrev pub is_known : ℕ → Bool
is_known byte = if nat_lt 128 byte then of_value.is_known (byte - 128) else of_value.is_known byte

abbrev pub IsSound : Data → Type 0
IsSound (Open value) = of_value.IsSound value
IsSound (Deleted kind) = Unit {0}

abbrev pub spelled : Data → List ℕ
spelled (Open value) = of_value.spelled value
spelled (Deleted kind) = []

-- nothing is read of a deleted key
abbrev pub read_in : ℕ → IdentitySet → List ℕ → Result (Data × List ℕ) Fault
read_in byte barred bytes = if nat_lt 128 byte then Ok (Deleted (kind_at (byte - 128)), bytes) else told_as Open (of_value.read_in byte barred bytes)

abbrev pub history_byte : Kind → History Op → ℕ
history_byte kind H = if six_kinds.deleted H then deleted_byte kind else of_value.byte_of kind

abbrev pub history_spelled : Kind → History Op → List ℕ
history_spelled kind H = if six_kinds.deleted H then [] else of_value.history_spelled kind H
