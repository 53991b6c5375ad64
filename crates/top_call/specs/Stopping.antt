-- The keepers inside those that write behind: how they are put there, and how they are taken out.
--     gathering        a keeper inside one that has gathered nothing
--     AreHandedOn        what is pending was handed on to each
--     IsTakenOut        how a run ended over those that write behind, and how it is told
use Rattle.std.specs.Prelude.{◌≡◌, ℕ, ◌≤◌, List, [], map, Bool, false, IsSome, if◌then◌else◌}
use Rattle.std.specs.List.{AllZip}
use Rattle.base_outside.specs.Causes.{Rose}
use Rattle.member_keeper.specs.declared.keeper.Keeper.{Ghosts as Keeping}
use Rattle.member_write_behind.specs.Gathering.{Gathered, table_of}
use Rattle.report_lines.specs.declared.playing.Ending.{Ending}
use Rattle.report_lines.specs.declared.playing.Ending.TheVariants.{Told, NotCleared, Memory}

-- a keeper inside one that hands it so many stores together, where none is pending
abbrev pub gathering : {K : Type 0} → ℕ → K → Gathered K
gathering period keeper = record { inner = keeper; period = period; waiting = 0; pending = [] }

module _ {K : Type 0} (keeping : Keeping K) where
  -- The keeper inside was handed what was pending, or memory was refused. Its table is then the one that was told, unless its count rose
  pub record IsHandedOn (refused : Bool) (behind : Gathered K) (inner : K) : Type 0 where
    pub later : keeping.faults behind.inner ≤ keeping.faults inner
    pub tells : IsSome (keeping.table behind.inner) → IsSome (keeping.table inner)
    pub table : refused ≡ false → (Rose (keeping.faults behind.inner) (keeping.faults inner) → ⊥) → keeping.table inner ≡ table_of keeping behind

  abbrev pub AreHandedOn : Bool → List (Gathered K) → List K → Type 0
  AreHandedOn refused behind inner = AllZip (IsHandedOn refused) behind inner

  -- A run that is told ends with what is pending handed on, or for want of memory. Any other end stays, with what is pending lost
  abbrev pub IsTakenOut : Ending → List (Gathered K) → Ending → List K → Type 0
  IsTakenOut (Told text) behind end inner = (refused : Bool) × AreHandedOn refused behind inner × (end ≡ (if refused then Memory else Told text))
  IsTakenOut (NotCleared place) behind end inner = (end ≡ NotCleared place) × (inner ≡ map (λ keeper. keeper.inner) behind)
  IsTakenOut Memory behind end inner = (end ≡ Memory) × (inner ≡ map (λ keeper. keeper.inner) behind)
