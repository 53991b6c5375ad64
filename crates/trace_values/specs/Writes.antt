-- The last write of each identity's first records, and the greatest timestamp.
use Rattle.std.specs.Prelude.{ℕ, ◌-◌, ◌==◌, ◌&&◌, not, List, [], map, find, Bool, if◌then◌else◌, Option, None, Some, slice_get}
use Rattle.model_history.specs.Table.{identities}
use Rattle.model_history.specs.Texts.{Text}
use Rattle.model_history.specs.Vector.{VersionVector}
use Rattle.model_history.specs.History.{Action, History}
use Rattle.model_meanings.specs.Growing.{greatest, timestamp, timestamp_after, found}
use Rattle.model_kinds.specs.SixKinds.{assigned}
use Rattle.model_kinds.specs.declared.operation.Op.{Op}
use Rattle.theorem_latest.specs.Writes.{record_of, last_write}
use Rattle.data_meaning.specs.declared.record.Record.{Record}
use Rattle.data_meaning.specs.Records.{action_of}
use Rattle.data_meaning.specs.Stamping.{text_in}
use Rattle.trace_values.specs.declared.writes.LastWrite.{LastWrite}
use Rattle.trace_values.specs.Rows.{row_of, last_of, AreFirst}

abbrev pub no_write : LastWrite
no_write = record { number = 0; timestamp = 0 }

-- the last write of the first so many records of an identity
abbrev pub write_meant : History Op → ℕ → ℕ → LastWrite
write_meant H i n = record {
  number = last_write assigned H i n;
  timestamp = if last_write assigned H i n == 0 then 0 else timestamp assigned H (record_of assigned H i (last_write assigned H i n - 1));
}

-- the last write with one record more, which has this number, where the past has this greatest timestamp
abbrev pub write_after : LastWrite → ℕ → ℕ → Action Op → LastWrite
write_after last newest number action = elim (found assigned action) [
  | None ↦ last
  | Some write ↦ record { number = number; timestamp = timestamp_after newest (Some write) }
]

-- the timestamp of the last write of an identity's first so many records
abbrev pub timestamp_at : List (List LastWrite) → VersionVector → ℕ → ℕ
timestamp_at writes known i = (last_of no_write writes i (known i)).timestamp

-- the greatest of identities
unfoldable pub newest_of : List (List LastWrite) → VersionVector → List ℕ → ℕ
newest_of writes known ids = greatest (map (timestamp_at writes known) ids)

-- an identity's last write has this timestamp, which is not 0
abbrev pub has_newest : List (List LastWrite) → VersionVector → ℕ → ℕ → Bool
has_newest writes known newest i = not (newest == 0) && (timestamp_at writes known i == newest)

-- what a record of an identity writes
abbrev pub text_at : List (List Record) → ℕ → ℕ → Text
text_at rows i number = elim (slice_get (row_of rows i) (number - 1)) [ None ↦ [] | Some r ↦ text_in (found assigned (action_of r.action)) ]

abbrev pub text_of : List (List Record) → List (List LastWrite) → VersionVector → Option ℕ → Text
text_of rows writes known None = []
text_of rows writes known (Some i) = text_at rows i (last_of no_write writes i (known i)).number

-- the first identity whose last write has this timestamp
unfoldable pub first_newest : List (List LastWrite) → VersionVector → ℕ → Option ℕ
first_newest writes known newest = find (has_newest writes known newest) identities

-- what the first identity whose last write has the greatest timestamp writes
abbrev pub winning_text : List (List Record) → List (List LastWrite) → VersionVector → Text
winning_text rows writes known = text_of rows writes known (first_newest writes known (newest_of writes known identities))

-- of each identity the last write of its first so many records
abbrev pub AreWrites : List (List LastWrite) → History Op → Type 0
AreWrites writes made = AreFirst no_write (write_meant made) writes made
