-- What a call of a keeper does to the table and to the answers, where they are told, and to the count of faults.
use Rattle.std.specs.Prelude.{◌≡◌, ℕ, ◌≤◌, Bool, true, false, List, [], ◌∷◌, ◌++◌, Option, None, Some, Result, MatchResult, IfErr}
use Rattle.base_outside.specs.Causes.{Rose, raised}
use Rattle.member_keeper.specs.declared.stored.Stored.{Stored}
use Rattle.member_keeper.specs.declared.keeper.KeeperError.{KeeperError}
use Rattle.member_keeper.specs.declared.keeper.KeeperError.TheVariants.{Failed, Memory}
use Rattle.member_keeper.specs.Tables.{Table, IsTable}

-- What was told is told, changed so. Of what was not told nothing is said.
abbrev pub Becomes : {X : Type 0} → Option X → Option X → (X → X) → Type 0
Becomes None new change = Unit {0}
Becomes (Some x) new change = new ≡ Some (change x)

-- Ok changes the table so, and each refusal leaves it.
abbrev pub Changes : {T : Type 0} → Option Table → Option Table → (Table → Table) → Result T KeeperError → Type 0
Changes old new change result = MatchResult result (λ _. Becomes old new change) (λ _. Becomes old new (λ table. table))

abbrev pub JoinsRefusal : Option (List Bool) → Option (List Bool) → KeeperError → Type 0
JoinsRefusal old new Failed = Becomes old new (λ answers. answers ++ false ∷ [])
JoinsRefusal old new Memory = Becomes old new (λ answers. answers)

-- The answer joins those before it: true for Ok, false for Failed, and nothing for want of memory.
abbrev pub Joins : {T : Type 0} → Option (List Bool) → Option (List Bool) → Result T KeeperError → Type 0
Joins old new result = MatchResult result (λ _. Becomes old new (λ answers. answers ++ true ∷ [])) (JoinsRefusal old new)

-- The count did not fall, and the call failed only where it rose.
pub record IsCaused {T : Type 0} (before now : ℕ) (result : Result T KeeperError) : Type 0 where
  pub later : before ≤ now
  pub failed : IfErr result (λ error. error ≡ Failed → Rose before now)

abbrev pub CountsRefusal : ℕ → ℕ → KeeperError → Type 0
CountsRefusal before now Failed = now ≡ raised before
CountsRefusal before now Memory = now ≡ before

-- The count rises by one where the call failed, and at nothing else.
abbrev pub CountsFailures : {T : Type 0} → ℕ → ℕ → Result T KeeperError → Type 0
CountsFailures before now result = MatchResult result (λ _. now ≡ before) (CountsRefusal before now)

-- what was loaded is the table that was told, in the order of its keys
abbrev pub Gives : Option Table → List Stored → Type 0
Gives None loaded = Unit {0}
Gives (Some table) loaded = (loaded ≡ table) × IsTable loaded
