-- What calls of a keeper that writes behind leave at its inner keeper.
--     Calls        what one call does
--     Accepted, after_calls        what was accepted, since the last accepted clear
--     HoldsFirst        which part of it the inner keeper holds
--     RunsTo, RunsInPart        calls in their order, with their answers
use Rattle.std.specs.Prelude.{◌≡◌, ℕ, ◌+◌, ◌<◌, ◌≤◌, List, [], ◌∷◌, ◌++◌, length, take, fold, count_by, Bool, true, false, Option, Some, Result, Ok, Err}
use Rattle.thread_machine.specs.Faults.{RoseBy}
use Rattle.member_keeper.specs.declared.stored.Stored.{Stored}
use Rattle.member_keeper.specs.declared.keeper.Keeper.{Ghosts as Keeping}
use Rattle.member_keeper.specs.declared.keeper.KeeperError.{KeeperError}
use Rattle.member_keeper.specs.declared.keeper.KeeperError.TheVariants as error
use Rattle.member_keeper.specs.Tables.{Table, put_all}
use Rattle.member_write_behind.specs.declared.calls.StoreCall.{StoreCall}
use Rattle.member_write_behind.specs.declared.calls.StoreCall.TheVariants.{Store, Flush, Clear}
use Rattle.member_write_behind.specs.declared.calls.Answered.{Answered}
use Rattle.member_write_behind.specs.declared.calls.Answered.TheVariants as answer
use Rattle.member_write_behind.specs.Gathering.{Gathered, StoresBehind, Flushes, ClearsBehind}

abbrev pub outcome_of : Answered → Result (Unit {0}) KeeperError
outcome_of answer.Ok = Ok tt
outcome_of answer.Failed = Err error.Failed

abbrev pub is_failed : Answered → Bool
is_failed answer.Ok = false
is_failed answer.Failed = true

-- WHAT WAS ACCEPTED

-- the table at the start, or the empty one after the last accepted clear; the stores accepted since; how many of these stood before the last accepted flush
pub record Accepted : Type 0 where
  pub base : Table
  pub stores : List (List Stored)
  pub flushed : ℕ

abbrev pub nothing_since : Table → Accepted
nothing_since base = record { base = base; stores = []; flushed = 0 }

abbrev pub after_accepted : Accepted → StoreCall → Accepted
after_accepted a (Store entries) = record a { stores = a.stores ++ entries ∷ [] }
after_accepted a Flush = record a { flushed = length a.stores }
after_accepted a Clear = nothing_since []

abbrev pub after_call : Accepted → StoreCall → Answered → Accepted
after_call a call answer.Ok = after_accepted a call
after_call a call answer.Failed = a

abbrev pub after_calls : Accepted → List StoreCall → List Answered → Accepted
after_calls a (call ∷ calls) (given ∷ answers) = after_calls (after_call a call given) calls answers
after_calls a _ _ = a

-- the stores put over a table, one after the other
abbrev pub stored : Table → List (List Stored) → Table
stored table stores = fold put_all table stores

-- The table is that after the first of the accepted stores: each that stood before the last accepted flush, and all but fewer than N
pub record HoldsFirst (period : ℕ) (a : Accepted) (table : Table) : Type 0 where
  pub first : ℕ
  pub within : first ≤ length a.stores
  pub flushed : a.flushed ≤ first
  pub few : length a.stores < first + period
  pub holds : table ≡ stored a.base (take first a.stores)

-- CALLS

module _ {D : Type 0} (keeping : Keeping D) where
  abbrev pub Calls : (old new : Gathered D) → StoreCall → Result (Unit {0}) KeeperError → Type 0
  Calls old new (Store entries) result = StoresBehind keeping old new entries result
  Calls old new Flush result = Flushes keeping old new result
  Calls old new Clear result = ClearsBehind keeping old new result

  -- a told inner table holds the first of what was accepted
  abbrev pub HoldsAccepted : (old new : Gathered D) → List StoreCall → List Answered → Type 0
  HoldsAccepted old new calls answers =
      (start : Table) → keeping.table old.inner ≡ Some start → (now : Table) × (keeping.table new.inner ≡ Some now) × HoldsFirst old.period (after_calls (nothing_since start) calls answers) now

  -- each call has its answer, no more of them failed than the count of the inner keeper rose by, and a told inner table holds the first of what was accepted
  pub record RunsTo (old new : Gathered D) (calls : List StoreCall) (answers : List Answered) : Type 0 where
    pub count : length answers ≡ length calls
    pub failed : RoseBy (count_by is_failed answers) (keeping.faults old.inner) (keeping.faults new.inner)
    pub holds : HoldsAccepted old new calls answers

  -- the first of the calls were made
  pub record RunsInPart (old new : Gathered D) (calls : List StoreCall) : Type 0 where
    pub made : ℕ
    pub answers : List Answered
    pub runs : RunsTo old new (take made calls) answers
