-- Entries of all places in one list.
--     AtPlace        an entry at the place of its member
--     IsRunOrder        all entries of the histories of all places, by stamp, then place
--     HaveRunOrder        histories whose stamps rise have one
use Rattle.std.specs.Prelude.{◌≡◌, ◌⊎◌, ℕ, ◌<◌, ◌≤◌, List, [], ◌∷◌, ◌==◌, if◌then◌else◌, ⊤}
use Rattle.std.specs.List.{AllByRecursion}
use Rattle.thread_machine.specs.declared.entry.Entry.{Entry}
use Rattle.thread_cell.specs.Stamps.{Rises}

pub record AtPlace (E : Type 0) : Type 0 where
  pub place : ℕ
  pub entry : E

-- the entries of one place in a list
abbrev pub entries_of : {E : Type 0} → ℕ → List (AtPlace E) → List E
entries_of p [] = []
entries_of p (x ∷ xs) = if x.place == p then x.entry ∷ entries_of p xs else entries_of p xs

module _ {M I F O R : Type 0} where
  abbrev pub ComesBefore : AtPlace (Entry M I F O R) → AtPlace (Entry M I F O R) → Type 0
  ComesBefore a b = (a.entry.stamp < b.entry.stamp) ⊎ ((a.entry.stamp ≡ b.entry.stamp) × (a.place < b.place))

  abbrev pub AreSorted : List (AtPlace (Entry M I F O R)) → Type 0
  AreSorted [] = ⊤
  AreSorted (x ∷ xs) = AllByRecursion (ComesBefore x) xs × AreSorted xs

  pub record IsRunOrder (histories : ℕ → List (Entry M I F O R)) (xs : List (AtPlace (Entry M I F O R))) : Type 0 where
    pub sorted : AreSorted xs
    pub whole : (p : ℕ) → entries_of p xs ≡ histories p

-- histories whose stamps rise, at so many places, have a run order
abbrev pub HaveRunOrder : {M I F O R : Type 0} → (ℕ → List (Entry M I F O R)) → ℕ → Type 0
HaveRunOrder {M} {I} {F} {O} {R} histories n =
    ((p : ℕ) → Rises (histories p)) → ((p : ℕ) → n ≤ p → histories p ≡ []) → (xs : List (AtPlace (Entry M I F O R))) × IsRunOrder histories xs
