-- What a database that was opened has for a keeper, over any store of the database.
--     IsFirstVersion        the tables are those of this version
--     IsAdopted        the keeper's table is what the database's rows say, or the database was new and got its tables
--     IsUnadopted        why there is no table
use Rattle.std.specs.Prelude.{◌≡◌, ◌≢◌, ◌⊎◌, ℕ, pos, List, [], ◌∷◌, codes, Ok, Err}
use Rattle.sqlite_value.specs.declared.value.Value.{Value}
use Rattle.sqlite_value.specs.declared.value.Value.TheVariants.{Int}
use Rattle.sqlite_value.specs.Order.{Row, column}
use Rattle.sqlite_trees.specs.declared.store.Store.{Ghosts}
use Rattle.sqlite.specs.declared.error.Error.{Error}
use Rattle.sqlite.specs.Held.{Held, state}
use Rattle.sqlite.specs.State.{Shown, FailsToQuery}
use Rattle.member_keeper.specs.Tables.{Table}
use Rattle.member_sqlite.specs.declared.told.OpenError.{OpenError}
use Rattle.member_sqlite.specs.declared.told.OpenError.TheVariants as why
use Rattle.member_sqlite.specs.Told.{told}
use Rattle.member_sqlite.specs.Rows.{AreRows}
use Rattle.member_sqlite.specs.Statements.{all_text}
use Rattle.member_sqlite.specs.Layout.{LaysOut}

-- the names of all tables and the like
abbrev pub listed_text : List ℕ
listed_text = codes "SELECT name FROM sqlite_schema"

-- the version that the tables have
abbrev pub version_text : List ℕ
version_text = codes "SELECT version FROM format"

abbrev pub one : Value
one = Int (pos 1)

-- there is one row, which says 1
abbrev pub IsFirstVersion : List Row → Type 0
IsFirstVersion [] = ⊥
IsFirstVersion (row ∷ []) = column row 0 ≡ one
IsFirstVersion (row ∷ rows) = ⊥

-- some row is no entry, or the rows are none of a table; or there was no memory for it
abbrev pub IsNoTable : OpenError → Type 0
IsNoTable e = (e ≡ why.Damaged) ⊎ (e ≡ why.Memory)

module _ {S : Type 0} (g : Ghosts S) (old new : Held S) where
  -- the query for these rows was answered
  abbrev pub Asked : List ℕ → List Row → Type 0
  Asked sql rows = Shown sql [] (state g old) (state g new) rows

  -- or refused, which is told
  abbrev pub IsRefusedAs : List ℕ → OpenError → Type 0
  IsRefusedAs sql e = (error : Error) × (e ≡ told error) × FailsToQuery sql [] (state g old) (state g new) error

  -- THE VERSION

  abbrev pub IsChecked : Type 0
  IsChecked = (rows : List Row) × Asked version_text rows × IsFirstVersion rows

  abbrev pub IsUnchecked : OpenError → Type 0
  IsUnchecked e = IsRefusedAs version_text e ⊎ ((e ≡ why.OtherVersion) × (rows : List Row) × Asked version_text rows × (¬ IsFirstVersion rows))

  -- THE ROWS

  abbrev pub IsRead : Table → Type 0
  IsRead table = (rows : List Row) × Asked all_text rows × AreRows table rows

  abbrev pub IsUnread : OpenError → Type 0
  IsUnread e = IsRefusedAs all_text e ⊎ (IsNoTable e × (rows : List Row) × Asked all_text rows)

  -- A NEW DATABASE

  abbrev pub IsFilled : Table → Type 0
  IsFilled table = (table ≡ []) × LaysOut g old new (Ok tt)

  abbrev pub IsUnfilled : OpenError → Type 0
  IsUnfilled e = (error : Error) × (e ≡ told error) × LaysOut g old new (Err error)

module _ {S : Type 0} (g : Ghosts S) (old new : Held S) where
  abbrev pub IsFound : Table → Type 0
  IsFound table = (mid : Held S) × IsChecked g old mid × IsRead g mid new table

  abbrev pub IsUnfound : OpenError → Type 0
  IsUnfound e = IsUnchecked g old new e ⊎ ((mid : Held S) × IsChecked g old mid × IsUnread g mid new e)

-- The database lists nothing and got its tables, or it lists some and is of this version, and the table is what its rows say.
abbrev pub IsAdopted : {S : Type 0} → Ghosts S → Held S → Held S → Table → Type 0
IsAdopted {S} g old new table =
    ((mid : Held S) × Asked g old mid listed_text [] × IsFilled g mid new table)
    ⊎ ((mid : Held S) × (listed : List Row) × (listed ≢ []) × Asked g old mid listed_text listed × IsFound g mid new table)

-- one of the queries was refused or answered otherwise, or the tables were not made
abbrev pub IsUnadopted : {S : Type 0} → Ghosts S → Held S → Held S → OpenError → Type 0
IsUnadopted {S} g old new e =
    IsRefusedAs g old new listed_text e
    ⊎ (((mid : Held S) × Asked g old mid listed_text [] × IsUnfilled g mid new e)
    ⊎ ((mid : Held S) × (listed : List Row) × (listed ≢ []) × Asked g old mid listed_text listed × IsUnfound g mid new e))
