-- Records and histories.
use Rattle.std.specs.Prelude.{◌≡◌, ℕ, zero, suc, ◌<◌, ◌≤◌, List, [], ◌∷◌, ◌++◌, length, take, drop, Bool, false, nat_le, ◌==◌, sum_by, Option, Some, slice_get, is_some, find, flat_map}
use Rattle.model_history.specs.Table.{identity_limit, identities, with_at}
use Rattle.model_history.specs.Vector.{VersionVector, Covers}

-- what a record does
pub data Action (Op : Type 0) : Type 0 where
  Operation : Op → Action Op
  Prune : (removed : ℕ) → Action Op

-- an action, and its past: how many records of each identity its origin had taken before
pub record Record (Op : Type 0) : Type 0 where
  pub action : Action Op
  pub past : VersionVector

-- for each identity its records, in the order of their numbers. The first has number 1
abbrev pub History : Type 0 → Type 0
History Op = ℕ → List (Record Op)

module _ {Op : Type 0} where
  abbrev pub no_records : History Op
  no_records i = []

  -- how many they are
  abbrev pub at : History Op → ℕ → ℕ
  at H i = length (H i)

  -- how many there are of each identity
  abbrev pub versions : History Op → VersionVector
  versions H = at H

  -- how many there are at all
  abbrev pub size : History Op → ℕ
  size H = sum_by (at H) identities

  abbrev pub continued : List (Record Op) → List (Record Op) → List (Record Op)
  continued xs ys = xs ++ drop (length xs) ys

  abbrev pub union : History Op → History Op → History Op
  union H J i = continued (H i) (J i)

  abbrev pub cut : History Op → VersionVector → History Op
  cut H past i = take (past i) (H i)

  abbrev pub with_records : History Op → ℕ → List (Record Op) → History Op
  with_records = with_at

  abbrev pub with_record : History Op → ℕ → Record Op → History Op
  with_record H i r = with_records H i (H i ++ r ∷ [])

  -- each record of one that the other numbers too is the same there
  abbrev pub Agree : History Op → History Op → Type 0
  Agree H J = (i : ℕ) → take (at J i) (H i) ≡ take (at H i) (J i)

  -- all records of H stand in J
  abbrev pub IsPartOf : History Op → History Op → Type 0
  IsPartOf H J = (i : ℕ) → H i ≡ take (at H i) (J i)

  -- A definition by recursion on pasts: `step` says what holds of a history, given what holds of the pasts of its records. A chain of pasts is shorter than the history
  abbrev pub by_past_within : {X A : Type 0} → A → ((History Op → X → A) → History Op → X → A) → ℕ → History Op → X → A
  by_past_within otherwise step zero H x = otherwise
  by_past_within otherwise step (suc depth) H x = step (by_past_within otherwise step depth) H x

  abbrev pub by_past : {X A : Type 0} → A → ((History Op → X → A) → History Op → X → A) → History Op → X → A
  by_past otherwise step H x = by_past_within otherwise step (suc (size H)) H x

  -- H has this record of an origin, with so many before it. Its number is one more
  abbrev pub HasRecord : History Op → ℕ → ℕ → Record Op → Type 0
  HasRecord H origin before r = slice_get (H origin) before ≡ Some r

-- a record with its origin and number
pub record Stamped (Op : Type 0) : Type 0 where
  pub origin : ℕ
  pub number : ℕ
  pub action : Action Op
  pub past : VersionVector

module _ {Op : Type 0} where
  abbrev pub stamped_from : ℕ → ℕ → List (Record Op) → List (Stamped Op)
  stamped_from i n [] = []
  stamped_from i n (r ∷ rs) = record { origin = i; number = n; action = r.action; past = r.past } ∷ stamped_from i (suc n) rs

  -- every record of a history, with its origin and number
  abbrev pub all_records : History Op → List (Stamped Op)
  all_records H = flat_map (λ i. stamped_from i 1 (H i)) identities

  -- x stands in the past of y
  abbrev pub precedes : Stamped Op → Stamped Op → Bool
  precedes x y = nat_le x.number (y.past x.origin)

  abbrev pub is_prune_of : ℕ → Action Op → Bool
  is_prune_of r (Operation op) = false
  is_prune_of r (Prune removed) = removed == r

  -- the prune of an identity, if the history has one
  abbrev pub prune_of : History Op → ℕ → Option (Stamped Op)
  prune_of H r = find (λ x. is_prune_of r x.action) (all_records H)

  abbrev pub is_pruned : History Op → ℕ → Bool
  is_pruned H r = is_some (prune_of H r)

-- what holds of every history of a run: pasts lie inside it, numbers are in order, and a past holds the pasts of its records
pub record IsHistory {Op : Type 0} (H : History Op) : Type 0 where
  pub within : (i : ℕ) → identity_limit ≤ i → H i ≡ []
  pub closed : (i k : ℕ) (r : Record Op) → HasRecord H i k r → Covers (versions H) r.past
  pub numbered : (i k : ℕ) (r : Record Op) → HasRecord H i k r → r.past i ≡ k
  pub transitive : (i k j m : ℕ) (r s : Record Op) → HasRecord H i k r → HasRecord H j m s → m < r.past j → Covers r.past s.past

-- a pruned identity has one prune, and no record beside those in its past
pub record IsExactlyPruned {Op : Type 0} (H : History Op) : Type 0 where
  pub once : (i k j m : ℕ) (x y : Record Op) (r : ℕ) → HasRecord H i k x → HasRecord H j m y → x.action ≡ Prune r → y.action ≡ Prune r → (i ≡ j) × (k ≡ m)
  pub nothing_more : (i k : ℕ) (x : Record Op) (r : ℕ) → HasRecord H i k x → x.action ≡ Prune r → at H r ≡ x.past r
