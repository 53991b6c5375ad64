-- Rows of the table of entries.
use Rattle.std.specs.Prelude.{◌≡◌, ℕ, ◌<◌, List, [], ◌∷◌, length, slice_index_or}
use Rattle.sqlite_value.specs.declared.value.Value.{Value}
use Rattle.sqlite_value.specs.declared.value.Value.TheVariants.{Text, Blob}
use Rattle.sqlite_value.specs.Order.{Row, column}
use Rattle.member_keeper.specs.declared.stored.Stored.{Stored}

-- what is given to a statement of an entry: its key as text, its bytes as a blob
abbrev pub values_of : Stored → Row
values_of entry = Text entry.key ∷ Blob entry.bytes ∷ []

-- the row has the key as text and the bytes as a blob
pub record IsRowOf (entry : Stored) (row : List Value) : Type 0 where
  pub key : column row 0 ≡ Text entry.key
  pub bytes : column row 1 ≡ Blob entry.bytes

-- the rows are the entries, in their order
pub record AreRows (entries : List Stored) (rows : List (List Value)) : Type 0 where
  pub count : length rows ≡ length entries
  pub each : (i : ℕ) (entry : Stored) (row : List Value) → i < length entries → IsRowOf (slice_index_or entries i entry) (slice_index_or rows i row)
