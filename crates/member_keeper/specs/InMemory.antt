-- Tables and keepers in memory.
use Rattle.std.specs.Prelude.{◌≡◌, ℕ, zero, suc, ◌+◌, List, [], ◌∷◌, ◌++◌, Bool, true, false, not, nat_eq, Result, MatchResult}
use Rattle.std.specs.List.{list_any}
use Rattle.base_outside.specs.Causes.{raised}
use Rattle.member_keeper.specs.declared.keeper.KeeperError.{KeeperError}
use Rattle.member_keeper.specs.declared.keeper.KeeperError.TheVariants.{Failed, Memory}
use Rattle.member_keeper.specs.Tables.{Table}

-- The entries of a table, and how many more it takes without taking memory.
pub record RoomyTable : Type 0 where
  pub entries : Table
  pub room : ℕ

-- The numbers of the calls that fail, how many calls were answered Ok or Failed, and how many Failed.
pub record Counted : Type 0 where
  pub failing : List ℕ
  pub calls : ℕ
  pub faults : ℕ

-- A keeper in memory: its table, and its calls so far.
pub record Kept : Type 0 where
  pub table : Table
  pub calls : Counted

abbrev pub is_named : List ℕ → ℕ → Bool
is_named failing n = list_any (λ m. nat_eq m n) failing

-- what the first n calls were answered: false exactly where the call's number is named
abbrev pub first_answers : List ℕ → ℕ → List Bool
first_answers failing zero = []
first_answers failing (suc n) = first_answers failing n ++ not (is_named failing n) ∷ []

abbrev pub answers_of : Counted → List Bool
answers_of counted = first_answers counted.failing counted.calls

abbrev pub with_call : Counted → Counted
with_call counted = record counted { calls = counted.calls + 1 }

abbrev pub with_fault : Counted → Counted
with_fault counted = record counted { calls = counted.calls + 1; faults = raised counted.faults }

abbrev pub CountsError : Counted → Counted → KeeperError → Type 0
CountsError old new Failed = (new ≡ with_fault old) × (is_named old.failing old.calls ≡ true)
CountsError old new Memory = new ≡ old

-- Ok and Failed are counted, and the call is Failed exactly where its number is named. Want of memory counts nothing.
abbrev pub Counts : {T : Type 0} → Counted → Counted → Result T KeeperError → Type 0
Counts old new result = MatchResult result (λ _. (new ≡ with_call old) × (is_named old.failing old.calls ≡ false)) (CountsError old new)
