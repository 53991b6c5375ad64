-- Lists by identity, which end where nothing more is kept.
use Rattle.std.specs.Prelude.{◌≡◌, ℕ, ◌-◌, ◌≤◌, ◌==◌, List, [], ◌∷◌, ◌++◌, length, map, if◌then◌else◌, unwrap_or, slice_get}
use Rattle.model_history.specs.History.{History, at, stamped_from}
use Rattle.model_kinds.specs.declared.operation.Op.{Op}
use Rattle.data_meaning.specs.declared.record.Record.{Record}
use Rattle.data_meaning.specs.Records.{stamped}

-- what is kept of the records of an identity
abbrev pub row_of : {X : Type 0} → List (List X) → ℕ → List X
row_of rows i = unwrap_or (slice_get rows i) []

-- one more at an identity, and nothing else
abbrev pub IsPushed : {X : Type 0} → List (List X) → List (List X) → ℕ → X → Type 0
IsPushed old new id one = (i : ℕ) → row_of new i ≡ (if i == id then row_of old i ++ one ∷ [] else row_of old i)

-- the records of each identity are those of the history, with their numbers
abbrev pub AreRows : List (List Record) → History Op → Type 0
AreRows rows made = (i : ℕ) → map stamped (row_of rows i) ≡ stamped_from i 1 (made i)

-- what is kept of the last of the first so many records
abbrev pub last_in : {X : Type 0} → X → List X → ℕ → X
last_in none row n = if n == 0 then none else unwrap_or (slice_get row (n - 1)) none

abbrev pub last_of : {X : Type 0} → X → List (List X) → ℕ → ℕ → X
last_of none rows i n = last_in none (row_of rows i) n

-- of each identity what its first so many records come to
pub record AreFirst {X : Type 0} (none : X) (meant : ℕ → ℕ → X) (rows : List (List X)) (made : History Op) : Type 0 where
  pub count : (i : ℕ) → length (row_of rows i) ≡ at made i
  pub each : (i n : ℕ) → n ≤ at made i → last_of none rows i n ≡ meant i n
