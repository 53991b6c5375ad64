-- A database in memory that was opened for a keeper.
use Rattle.std.specs.Prelude.{◌⊎◌, ℕ, List, [], codes, Ok, Err}
use Rattle.sqlite_trees.specs.declared.store.Store.{Ghosts}
use Rattle.sqlite.specs.State.{IsUnchanged, Executes}
use Rattle.sqlite.specs.Held.{Held, state}
use Rattle.member_sqlite.specs.declared.causes.Refusal.{Refusal}
use Rattle.member_sqlite.specs.Statements.{change_text, add_text, Ran, IsUnprepared}

abbrev pub table_text : List ℕ
table_text = codes "CREATE TABLE entries (key TEXT PRIMARY KEY, bytes BLOB NOT NULL)"

module _ {S : Type 0} (g : Ghosts S) where
  -- the table was made, and two statements were prepared, which changed nothing
  pub record IsMade (first conn : Held S) : Type 0 where
    pub table : Held S
    pub count : ℕ
    pub made : Ran g Executes table_text [] first table (Ok count)
    pub mid : Held S
    pub change : IsUnchanged (state g table) (state g mid)
    pub add : IsUnchanged (state g mid) (state g conn)

  -- the table was refused, or one of the two statements
  abbrev pub IsUnmade : Held S → Held S → Refusal → Type 0
  IsUnmade first new why =
      Ran g Executes table_text [] first new (Err why) ⊎ ((table : Held S) × (count : ℕ) × Ran g Executes table_text [] first table (Ok count)
      × (IsUnprepared g change_text table new why ⊎ ((mid : Held S) × IsUnchanged (state g table) (state g mid) × IsUnprepared g add_text mid new why)))
