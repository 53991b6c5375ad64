-- What a keeper that writes behind is, and what its calls do.
--     Gathered, IsGathering        its inner keeper, and the stores that wait
--     table_of        its table: what is pending, put over the inner table
--     StoresBehind, Flushes, LoadsBehind, ClearsBehind        its calls
use Rattle.std.specs.Prelude.{◌≡◌, ℕ, ◌+◌, ◌<◌, ◌≤◌, List, [], nat_lt, nat_eq, Option, option_map, Result, Ok, Err, IfOk, OnOk, OnErr, MatchBool}
use Rattle.member_keeper.specs.declared.stored.Stored.{Stored}
use Rattle.member_keeper.specs.declared.keeper.Keeper.{Ghosts as Keeping}
use Rattle.member_keeper.specs.declared.keeper.KeeperError.{KeeperError}
use Rattle.member_keeper.specs.declared.keeper.KeeperError.TheVariants.{Memory}
use Rattle.member_keeper.specs.Tables.{Table, put_all, IsTable}
use Rattle.member_keeper.specs.Calls.{Changes, Becomes, IsCaused, Gives}

-- an inner keeper, how many stores are handed to it together, and those that wait: how many, and the last value of each key
pub record Gathered (D : Type 0) : Type 0 where
  pub inner : D
  pub period : ℕ
  pub waiting : ℕ
  pub pending : Table

-- fewer stores wait than are handed on together
pub record IsGathering (period waiting : ℕ) (pending : Table) : Type 0 where
  pub fewest : 1 ≤ period
  pub most : period ≤ 64
  pub waits : waiting < period
  pub none : waiting ≡ 0 → pending ≡ []
  pub table : IsTable pending

module _ {D : Type 0} (keeping : Keeping D) where
  -- the inner table with what is pending put over it
  abbrev pub table_of : Gathered D → Option Table
  table_of w = option_map (λ t. put_all t w.pending) (keeping.table w.inner)

  -- the store is one more that waits, or memory was refused. The inner keeper is not called
  pub record Waits (old new : Gathered D) (entries : List Stored) (result : Result (Unit {0}) KeeperError) : Type 0 where
    pub ok : OnOk result (new ≡ record old { waiting = old.waiting + 1; pending = put_all old.pending entries })
    pub err : OnErr result ((new ≡ old) × (result ≡ Err Memory))

  -- the inner keeper was to store what was pending and these entries. Nothing is pending then, or all is as it was
  pub record HandsOn (old new : Gathered D) (entries : List Stored) (result : Result (Unit {0}) KeeperError) : Type 0 where
    pub period : new.period ≡ old.period
    pub inner : Changes (keeping.table old.inner) (keeping.table new.inner) (λ t. put_all t (put_all old.pending entries)) result
    pub cause : IsCaused (keeping.faults old.inner) (keeping.faults new.inner) result
    pub ok : OnOk result ((new.waiting ≡ 0) × (new.pending ≡ []))
    pub err : OnErr result ((new.waiting ≡ old.waiting) × (new.pending ≡ old.pending))

  -- while it is one of the first N - 1 it waits, and else all are handed on
  abbrev pub StoresBehind : (old new : Gathered D) → List Stored → Result (Unit {0}) KeeperError → Type 0
  StoresBehind old new entries result = MatchBool (nat_lt (old.waiting + 1) old.period) (Waits old new entries result) (HandsOn old new entries result)

  -- what is pending is handed on, if anything is
  abbrev pub Flushes : (old new : Gathered D) → Result (Unit {0}) KeeperError → Type 0
  Flushes old new result = MatchBool (nat_eq old.waiting 0) ((new ≡ old) × (result ≡ Ok tt)) (HandsOn old new [] result)

  -- what the inner keeper gave, with what is pending put over it
  pub record LoadsBehind {T : Type 0} (old new : Gathered D) (items : T → List Stored) (result : Result T KeeperError) : Type 0 where
    pub same : (new.period ≡ old.period) × (new.waiting ≡ old.waiting) × (new.pending ≡ old.pending)
    pub loaded : IfOk result (λ loaded. Gives (table_of old) (items loaded))
    pub table : Becomes (keeping.table old.inner) (keeping.table new.inner) (λ t. t)
    pub cause : IsCaused (keeping.faults old.inner) (keeping.faults new.inner) result

  -- the inner keeper was to forget all. Nothing is pending then, or all is as it was
  pub record ClearsBehind (old new : Gathered D) (result : Result (Unit {0}) KeeperError) : Type 0 where
    pub period : new.period ≡ old.period
    pub inner : Changes (keeping.table old.inner) (keeping.table new.inner) (λ _. []) result
    pub cause : IsCaused (keeping.faults old.inner) (keeping.faults new.inner) result
    pub ok : OnOk result ((new.waiting ≡ 0) × (new.pending ≡ []))
    pub err : OnErr result ((new.waiting ≡ old.waiting) × (new.pending ≡ old.pending))
