-- What a vector has to count so that what it counts is closed under past; and the least rule that is broken.
use Rattle.std.specs.Prelude.{◌≡◌, ℕ, ◌-◌, List, Bool, not, if◌then◌else◌, Option, None, Some, slice_get}
use Rattle.model_history.specs.Vector.{Covers}
use Rattle.base_vectors.specs.Vectors.{Numbers, number_at}
use Rattle.data_meaning.specs.declared.record.Record.{Record}
use Rattle.trace_values.specs.Rows.{row_of}

-- the last record that is counted of an identity is there, and its past is counted too
abbrev pub HoldsLast : List (List Record) → Numbers → ℕ → Type 0
HoldsLast rows known j = (r : Record) × (slice_get (row_of rows j) (number_at known j - 1) ≡ Some r) × Covers (number_at known) (number_at r.past)

-- the least rule whose test fails
abbrev pub first_broken : Bool → Bool → Bool → Bool → Option ℕ
first_broken recorded held exact shown = if not recorded then Some 1 else (if not held then Some 2 else (if not exact then Some 3 else (if not shown then Some 4 else None)))
