-- Pairs and lists of parts as bytes: their one spelling, and how they are read.
use Rattle.std.specs.Prelude.{ℕ, zero, suc, ◌<◌, ◌^◌, List, [], ◌∷◌, ◌++◌, length, Result, Ok}
use Rattle.std.specs.List.{flat_map, AllByRecursion}
use Rattle.base_bytes.specs.declared.fault.Fault.{Fault}
use Rattle.base_bytes.specs.Fields.{◌>>=◌, number_in}
use Rattle.base_bytes.specs.Spelling.{number_spelled}

module _ {A B : Type 0} where
  -- one behind the other
  abbrev pub pair_spelled : (A → List ℕ) → (B → List ℕ) → A × B → List ℕ
  pair_spelled one two x = one x.0 ++ two x.1

  abbrev pub IsSoundPair : (A → Type 0) → (B → Type 0) → A × B → Type 0
  IsSoundPair One Two x = One x.0 × Two x.1

  unfoldable pub pair_in : (List ℕ → Result (A × List ℕ) Fault) → (List ℕ → Result (B × List ℕ) Fault) → List ℕ → Result ((A × B) × List ℕ) Fault
  pair_in one two bytes = do
    a ← one bytes
    b ← two a.1
    Ok ((a.0, b.0), b.1)

module _ {X : Type 0} where
  -- how many there are, and each of them
  abbrev pub list_spelled : (X → List ℕ) → List X → List ℕ
  list_spelled one xs = number_spelled (length xs) ++ flat_map one xs

  pub record AreSound (One : X → Type 0) (xs : List X) : Type 0 where
    pub each : AllByRecursion One xs
    pub counted : length xs < 2 ^ 64

  -- so many, one behind the other
  unfoldable pub items_in : (List ℕ → Result (X × List ℕ) Fault) → ℕ → List ℕ → Result (List X × List ℕ) Fault
  items_in one zero bytes = Ok ([], bytes)
  items_in one (suc n) bytes = do
    first ← one bytes
    others ← items_in one n first.1
    Ok (first.0 ∷ others.0, others.1)

  unfoldable pub list_in : (List ℕ → Result (X × List ℕ) Fault) → List ℕ → Result (List X × List ℕ) Fault
  list_in one bytes = do
    n ← number_in bytes
    items_in one n.0 n.1

-- what was read, made into something else
abbrev pub made_in : {X Y : Type 0} → (X → Y) → (List ℕ → Result (X × List ℕ) Fault) → List ℕ → Result (Y × List ℕ) Fault
made_in make read_in bytes = read_in bytes >>= λ x. Ok (make x.0, x.1)
