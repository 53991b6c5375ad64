-- What the calls of a keeper ask of its database in memory.
use Rattle.std.specs.Prelude.{◌≡◌, ◌⊎◌, List, Option, None, Some, Result, Ok, Err, IsErrAnd}
use Rattle.sqlite_trees.specs.declared.memory.MemStore.{MemStore}
use Rattle.sqlite.specs.Held.{Held, state}
use Rattle.sqlite.specs.Steps.{over_memory, IsEmpty}
use Rattle.member_keeper.specs.declared.stored.Stored.{Stored}
use Rattle.member_keeper.specs.declared.keeper.KeeperError.{KeeperError}
use Rattle.member_keeper.specs.declared.keeper.KeeperError.TheVariants.{Failed, Memory}
use Rattle.member_sqlite.specs.declared.causes.Refusal.{Refusal}
use Rattle.member_sqlite.specs.declared.causes.Refusal.TheVariants as refusal
use Rattle.member_sqlite.specs.InStore.{PutsAllIn, FindsAllIn, DeletesAllIn}
use Rattle.member_sqlite.specs.Made.{IsMade, IsUnmade}

abbrev pub PutsAll : List Stored → Held MemStore → Held MemStore → Result (Unit {0}) Refusal → Type 0
PutsAll = PutsAllIn over_memory

abbrev pub DeletesAll : Held MemStore → Held MemStore → Result (Unit {0}) Refusal → Type 0
DeletesAll = DeletesAllIn over_memory

abbrev pub FindsAll : List Stored → Held MemStore → Held MemStore → Result (Unit {0}) Refusal → Type 0
FindsAll = FindsAllIn over_memory

-- an empty database in memory got its table
abbrev pub IsOpened : Held MemStore → Type 0
IsOpened conn = (first : Held MemStore) × IsEmpty (state over_memory first) × IsMade over_memory first conn

-- there was no memory for a database, or it refused its table or a statement
abbrev pub IsUnopened : Refusal → Type 0
IsUnopened why = (why ≡ refusal.Memory) ⊎ ((first last : Held MemStore) × IsEmpty (state over_memory first) × IsUnmade over_memory first last why)

-- the database that is open, or else one that was opened
abbrev pub IsReady : Option (Held MemStore) → Option (Held MemStore) → Type 0
IsReady (Some conn) new = new ≡ Some conn
IsReady None (Some conn) = IsOpened conn
IsReady None None = ⊥

-- What was asked of the open database, or of one that was opened for it. Where none could be opened, there is none.
abbrev pub Asks : (Held MemStore → Held MemStore → Result (Unit {0}) Refusal → Type 0) → Option (Held MemStore) → Option (Held MemStore) → Result (Unit {0}) Refusal → Type 0
Asks Does (Some conn) (Some new) outcome = Does conn new outcome
Asks Does (Some conn) None outcome = ⊥
Asks Does None (Some new) outcome = (conn : Held MemStore) × IsOpened conn × Does conn new outcome
Asks Does None None outcome = IsErrAnd outcome IsUnopened

-- The keeper's answer is that of its database, but that it may want memory before it asks.
abbrev pub Answers : {T : Type 0} → (Held MemStore → Held MemStore → Result (Unit {0}) Refusal → Type 0) → Option (Held MemStore) → Option (Held MemStore) → Result T KeeperError → Type 0
Answers Does old new (Ok value) = Asks Does old new (Ok tt)
Answers Does old new (Err Failed) = Asks Does old new (Err refusal.Other)
Answers Does old new (Err Memory) = Asks Does old new (Err refusal.Memory) ⊎ (new ≡ old)
