-- What the calls of a keeper ask of its database, over any store of the database.
use Rattle.std.specs.Prelude.{◌≡◌, ◌⊎◌, List, [], ◌∷◌, Result, Ok, Err}
use Rattle.sqlite_value.specs.Order.{Row}
use Rattle.sqlite_trees.specs.declared.store.Store.{Ghosts}
use Rattle.sqlite.specs.declared.error.Error.{Error}
use Rattle.sqlite.specs.Held.{Held, state}
use Rattle.sqlite.specs.State.{Executes, Shown, FailsToQuery}
use Rattle.member_keeper.specs.declared.stored.Stored.{Stored}
use Rattle.member_keeper.specs.declared.keeper.KeeperError.{KeeperError}
use Rattle.member_keeper.specs.declared.keeper.KeeperError.TheVariants.{Failed, Memory}
use Rattle.member_sqlite.specs.declared.causes.Refusal.{Refusal}
use Rattle.member_sqlite.specs.declared.causes.Refusal.TheVariants as refusal
use Rattle.member_sqlite.specs.Causes.{IsToldAs}
use Rattle.member_sqlite.specs.Rows.{AreRows}
use Rattle.member_sqlite.specs.Statements.{all_text, clear_text, RanTo, PutsOne, PutsTogether}

module _ {S : Type 0} (g : Ghosts S) where
  -- An entry alone was put by a statement that is a transaction by itself, and any others in one transaction.
  abbrev pub PutsAllIn : List Stored → Held S → Held S → Result (Unit {0}) Refusal → Type 0
  PutsAllIn (entry ∷ []) old new outcome = PutsOne g Executes entry old new outcome
  PutsAllIn entries old new outcome = PutsTogether g entries old new outcome

  -- all rows were deleted
  abbrev pub DeletesAllIn : Held S → Held S → Result (Unit {0}) Refusal → Type 0
  DeletesAllIn old new outcome = RanTo g Executes clear_text [] old new outcome

  -- these were all rows
  abbrev pub ShowsAllIn : Held S → Held S → List Row → Type 0
  ShowsAllIn old new rows = Shown all_text [] (state g old) (state g new) rows

  -- the query for all rows was refused
  abbrev pub IsRefusedIn : Held S → Held S → Refusal → Type 0
  IsRefusedIn old new why = (error : Error) × IsToldAs error why × FailsToQuery all_text [] (state g old) (state g new) error

  -- The database was asked for all rows, and they are the entries. Where it answers others, that is a failure.
  abbrev pub FindsAllIn : List Stored → Held S → Held S → Result (Unit {0}) Refusal → Type 0
  FindsAllIn entries old new (Ok done) = (rows : List Row) × ShowsAllIn old new rows × AreRows entries rows
  FindsAllIn entries old new (Err why) = IsRefusedIn old new why ⊎ ((why ≡ refusal.Other) × (rows : List Row) × ShowsAllIn old new rows × (¬ AreRows entries rows))

-- The keeper's answer is that of its database, but that it may want memory before it asks.
abbrev pub AnswersIn : {S T : Type 0} → (Held S → Held S → Result (Unit {0}) Refusal → Type 0) → Held S → Held S → Result T KeeperError → Type 0
AnswersIn Does old new (Ok value) = Does old new (Ok tt)
AnswersIn Does old new (Err Failed) = Does old new (Err refusal.Other)
AnswersIn Does old new (Err Memory) = Does old new (Err refusal.Memory) ⊎ (new ≡ old)
