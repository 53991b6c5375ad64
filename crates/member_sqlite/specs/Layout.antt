-- The tables of a keeper's database, over any store of the database.
use Rattle.std.specs.Prelude.{◌≡◌, ◌⊎◌, ℕ, List, codes, Result, Ok, Err, IsTrue}
use Rattle.sqlite_trees.specs.declared.store.Store.{Ghosts}
use Rattle.sqlite.specs.declared.error.Error.{Error}
use Rattle.sqlite.specs.declared.error.Error.TheVariants.{SqliteFailure}
use Rattle.sqlite.specs.declared.error.ErrorCode.TheVariants.{TransactionState}
use Rattle.sqlite.specs.State.{Commits}
use Rattle.sqlite.specs.Steps.{FailsToCommit}
use Rattle.sqlite.specs.Batch.{ExecutesAllInside}
use Rattle.sqlite.specs.Held.{Held, state}
use Rattle.member_sqlite.specs.Statements.{Keeps, begun}

-- the version of the tables, and the table of entries
abbrev pub layout_text : List ℕ
layout_text = codes "CREATE TABLE format (version INTEGER NOT NULL); INSERT INTO format (version) VALUES (1); CREATE TABLE entries (key TEXT PRIMARY KEY, bytes BLOB NOT NULL)"

module _ {S : Type 0} (g : Ghosts S) where
  -- The statements were run in one transaction, which was committed. Or one of them was refused, or the commit, or a transaction
  -- was under way; then what the database shows and what it has committed are what they were.
  abbrev pub LaysOut : Held S → Held S → Result (Unit {0}) Error → Type 0
  LaysOut old new (Ok done) = (last : Held S) × ExecutesAllInside g 0 layout_text (begun g old) last (Ok tt) × Commits (state g last) (state g new)
  LaysOut old new (Err e) =
      Keeps g old new × (((last : Held S) × ExecutesAllInside g 0 layout_text (begun g old) last (Err e))
      ⊎ (((last : Held S) × ExecutesAllInside g 0 layout_text (begun g old) last (Ok tt) × FailsToCommit (state g last) (state g new) e)
      ⊎ (IsTrue old.in_transaction × (e ≡ SqliteFailure TransactionState))))
