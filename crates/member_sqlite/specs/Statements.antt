-- The statements that a keeper has its database run, over any store of the database.
use Rattle.std.specs.Prelude.{◌≡◌, ◌⊎◌, ℕ, ◌<◌, true, List, [], ◌∷◌, ◌++◌, codes, Result, Ok, Err, IsTrue}
use Rattle.sqlite_value.specs.Order.{Row}
use Rattle.sqlite_trees.specs.declared.store.Store.{Ghosts}
use Rattle.sqlite.specs.declared.error.Error.{Error}
use Rattle.sqlite.specs.State.{State, IsNotRun, ExecutesInside, Commits}
use Rattle.sqlite.specs.Steps.{FailsToCommit}
use Rattle.sqlite.specs.Held.{Held, state}
use Rattle.member_keeper.specs.declared.stored.Stored.{Stored}
use Rattle.member_sqlite.specs.declared.causes.Refusal.{Refusal}
use Rattle.member_sqlite.specs.declared.causes.Refusal.TheVariants as refusal
use Rattle.member_sqlite.specs.Causes.{IsToldAs}
use Rattle.member_sqlite.specs.Rows.{values_of}

abbrev pub change_text : List ℕ
change_text = codes "UPDATE entries SET bytes = ?2 WHERE key = ?1"

abbrev pub add_text : List ℕ
add_text = codes "INSERT INTO entries (key, bytes) VALUES (?1, ?2)"

abbrev pub all_text : List ℕ
all_text = codes "SELECT key, bytes FROM entries ORDER BY key"

abbrev pub clear_text : List ℕ
clear_text = codes "DELETE FROM entries"

-- what a statement inside a transaction does, which only the transaction's own calls end
abbrev pub ExecutesWithin : List ℕ → Row → State → State → Result ℕ Error → Type 0
ExecutesWithin = ExecutesInside 0

module _ {S : Type 0} (g : Ghosts S) where
  module _ (Runs : List ℕ → Row → State → State → Result ℕ Error → Type 0) where
    -- the statement was run, and changed so many rows; or it was refused, and why is told
    abbrev pub Ran : List ℕ → Row → Held S → Held S → Result ℕ Refusal → Type 0
    Ran sql values old new (Ok count) = Runs sql values (state g old) (state g new) (Ok count)
    Ran sql values old new (Err why) = (error : Error) × IsToldAs error why × Runs sql values (state g old) (state g new) (Err error)

    -- the same, whatever the count is
    abbrev pub RanTo : List ℕ → Row → Held S → Held S → Result (Unit {0}) Refusal → Type 0
    RanTo sql values old new (Ok done) = (count : ℕ) × Ran sql values old new (Ok count)
    RanTo sql values old new (Err why) = Ran sql values old new (Err why)

    -- the row of the entry's key was changed
    abbrev pub ChangesRow : Stored → Held S → Held S → Result (Unit {0}) Refusal → Type 0
    ChangesRow entry old new (Ok done) = (count : ℕ) × (0 < count) × Ran change_text (values_of entry) old new (Ok count)
    ChangesRow entry old new (Err why) = Ran change_text (values_of entry) old new (Err why)

    -- The row of the entry's key was changed. Where there is none, a row was added.
    abbrev pub PutsOne : Stored → Held S → Held S → Result (Unit {0}) Refusal → Type 0
    PutsOne entry old new outcome =
        ChangesRow entry old new outcome
        ⊎ ((mid : Held S) × Ran change_text (values_of entry) old mid (Ok 0) × RanTo add_text (values_of entry) mid new outcome)

    -- the entries were put one after the other
    abbrev pub PutsEach : List Stored → Held S → Held S → Type 0
    PutsEach [] old new = new ≡ old
    PutsEach (entry ∷ rest) old new = (mid : Held S) × PutsOne entry old mid (Ok tt) × PutsEach rest mid new

  -- a transaction was begun
  abbrev pub begun : Held S → Held S
  begun conn = record conn { in_transaction = true }

  -- what the database shows and what it has committed are what they were, while it is open
  pub record Keeps (old new : Held S) : Type 0 where
    pub now : IsTrue (state g new).is_open → (state g new).now ≡ (state g old).now
    pub committed : IsTrue (state g new).is_open → (state g new).committed ≡ (state g old).committed

  -- of the entries, those before one were put, and that one was refused
  pub record StopsAt (entries : List Stored) (old last : Held S) (why : Refusal) : Type 0 where
    pub before : List Stored
    pub entry : Stored
    pub after : List Stored
    pub are : entries ≡ before ++ entry ∷ after
    pub mid : Held S
    pub put : PutsEach ExecutesWithin before old mid
    pub refused : PutsOne ExecutesWithin entry mid last (Err why)

  -- all entries were put, or those before one that was refused
  abbrev pub PutsUpTo : List Stored → Held S → Held S → Result (Unit {0}) Refusal → Type 0
  PutsUpTo entries old new (Ok done) = PutsEach ExecutesWithin entries old new
  PutsUpTo entries old new (Err why) = StopsAt entries old new why

  -- all entries were put, and the commit was refused
  pub record IsUncommitted (entries : List Stored) (old new : Held S) (why : Refusal) : Type 0 where
    pub last : Held S
    pub put : PutsEach ExecutesWithin entries old last
    pub error : Error
    pub told : IsToldAs error why
    pub refused : FailsToCommit (state g last) (state g new) error

  -- a transaction was under way, so none was begun
  abbrev pub IsLate : Held S → Refusal → Type 0
  IsLate old why = IsTrue old.in_transaction × (why ≡ refusal.Other)

  abbrev pub PutsTogether : List Stored → Held S → Held S → Result (Unit {0}) Refusal → Type 0
  PutsTogether entries old new (Ok done) = (last : Held S) × PutsEach ExecutesWithin entries (begun old) last × Commits (state g last) (state g new)
  PutsTogether entries old new (Err why) =
      Keeps old new × (((last : Held S) × StopsAt entries (begun old) last why) ⊎ (IsUncommitted entries (begun old) new why ⊎ IsLate old why))

  -- a statement was not prepared
  abbrev pub IsUnprepared : List ℕ → Held S → Held S → Refusal → Type 0
  IsUnprepared sql old new why = (error : Error) × IsToldAs error why × IsNotRun (state g old) (state g new) sql [] error
