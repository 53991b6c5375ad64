-- Messages on their way between members, for entries of any kind that have a member and a stamp, post messages and take some.
use Rattle.std.specs.Prelude.{◌≡◌, ◌≢◌, ℕ, ◌<◌, ◌≤◌, List, [], ◌∷◌, ◌++◌, map, filter, flat_map, ◌==◌, ⊤}
use Rattle.std.specs.List.{AllByRecursion}
use Rattle.model_history.specs.Table.{with_at}

-- messages with the stamp of their entry
abbrev pub stamped : {X : Type 0} → ℕ → List X → List (X × ℕ)
stamped stamp xs = map (λ x. (x, stamp)) xs

-- each take is of the next post, which has a lower stamp
abbrev pub AreHeard : {X : Type 0} → List (X × ℕ) → List (X × ℕ) → Type 0
AreHeard posts [] = ⊤
AreHeard [] (take ∷ takes) = ⊥
AreHeard (post ∷ posts) (take ∷ takes) = (take.0 ≡ post.0) × (post.1 < take.1) × AreHeard posts takes

module _ {E X : Type 0} (at stamp : E → ℕ) where
  -- what the entries of i post to j
  abbrev pub sent : (posts : E → ℕ → List X) (i j : ℕ) → List E → List (X × ℕ)
  sent posts i j entries = flat_map (λ e. stamped (stamp e) (posts e j)) (filter (λ e. at e == i) entries)

  -- what the entries of j take from i
  abbrev pub taken : (takes : E → ℕ → List X) (i j : ℕ) → List E → List (X × ℕ)
  taken takes i j entries = flat_map (λ e. stamped (stamp e) (takes e i)) (filter (λ e. at e == j) entries)

  -- these messages are on their way before the entries
  abbrev pub Waits : (posts takes : E → ℕ → List X) → (ℕ → ℕ → List (X × ℕ)) → List E → Type 0
  Waits posts takes queue entries = (i j : ℕ) → AreHeard (queue i j ++ sent posts i j entries) (taken takes i j entries)

-- the message that an entry takes is the first on its way, and was posted by an entry of a lower stamp; and what is on its way after the entry
pub record IsDue {E X : Type 0} (at stamp : E → ℕ) (posts takes : E → ℕ → List X) (queue : ℕ → ℕ → List (X × ℕ)) (x : E) (rest : List E) (from : ℕ) (m : X) : Type 0 where
  pub posted : ℕ
  pub others : List (X × ℕ)
  pub first : queue from (at x) ≡ (m, posted) ∷ others
  pub earlier : posted < stamp x
  pub waits : Waits at stamp posts takes (λ i j. with_at queue from (with_at (queue from) (at x) others) i j ++ sent at stamp posts i j (x ∷ [])) rest

-- of entries and messages of these types: an entry that takes a message, where no later one has a lower stamp, takes the first on its way
abbrev pub TakenAreDue : (E X : Type 0) → Type 0
TakenAreDue E X =
    (at stamp : E → ℕ) (posts takes : E → ℕ → List X) (queue : ℕ → ℕ → List (X × ℕ)) (x : E) (rest : List E) (from : ℕ) (m : X)
    → takes x from ≡ m ∷ [] → ((i : ℕ) → i ≢ from → takes x i ≡ []) → AllByRecursion (λ y. stamp x ≤ stamp y) rest
    → Waits at stamp posts takes queue (x ∷ rest) → IsDue at stamp posts takes queue x rest from m

-- after one that takes none, what it posted is on its way behind what was
abbrev pub OthersWait : (E X : Type 0) → Type 0
OthersWait E X =
    (at stamp : E → ℕ) (posts takes : E → ℕ → List X) (queue : ℕ → ℕ → List (X × ℕ)) (x : E) (rest : List E)
    → ((i : ℕ) → takes x i ≡ []) → Waits at stamp posts takes queue (x ∷ rest)
    → Waits at stamp posts takes (λ i j. queue i j ++ sent at stamp posts i j (x ∷ [])) rest
