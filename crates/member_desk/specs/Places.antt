-- What is found and changed at a place of a list in order. An order tells of an item whether it comes before what is looked for, is it, or comes after it.
--     sought        the item, if it is there
--     edited        the list with other items in its place, or with some put where it would be
--     IsPlace        what a search answers
--     IsRising        each key comes before those after it
use Rattle.std.specs.Prelude.{◌≡◌, ℕ, ◌+◌, ◌<◌, ◌≤◌, List, [], ◌∷◌, ◌++◌, Bool, true, Option, Some, None, length, take, drop, slice_get}
use Rattle.std.specs.declared.cmp.Ordering.{Ordering}
use Rattle.std.specs.declared.cmp.Ordering.TheVariants.{Equal}
use Rattle.std.specs.Ordering.{match_ordering}
use Rattle.member_desk.specs.declared.place.Place.{Place}
use Rattle.member_desk.specs.declared.place.Place.TheVariants.{At, Before}

module _ {X : Type 0} (order : X → Ordering) where
  abbrev pub sought : List X → Option X
  sought [] = None
  sought (x ∷ xs) = match_ordering (order x) (sought xs) (Some x) None

  abbrev pub edited : (instead : X → List X) (absent : List X) → List X → List X
  edited instead absent [] = absent
  edited instead absent (x ∷ xs) = match_ordering (order x) (x ∷ edited instead absent xs) (instead x ++ xs) (absent ++ x ∷ xs)

  -- the item stands at an index
  pub record IsAt (xs : List X) (index : ℕ) : Type 0 where
    pub within : index < length xs
    pub item : X
    pub here : slice_get xs index ≡ Some item
    pub equal : order item ≡ Equal
    pub found : sought xs ≡ Some item
    pub edit : (instead : X → List X) (absent : List X) → edited instead absent xs ≡ take index xs ++ (instead item ++ drop (index + 1) xs)

  -- the item is not there, and would stand before the one at an index
  pub record IsBefore (xs : List X) (index : ℕ) : Type 0 where
    pub within : index ≤ length xs
    pub absent : sought xs ≡ None
    pub edit : (instead : X → List X) (absent : List X) → edited instead absent xs ≡ take index xs ++ (absent ++ drop index xs)

  abbrev pub IsPlace : List X → Place → Type 0
  IsPlace xs (At index) = IsAt xs index
  IsPlace xs (Before index) = IsBefore xs index

-- by a test of which key comes before which
module _ {K : Type 0} (lt : K → K → Bool) where
  abbrev pub IsBelowAll : K → List K → Type 0
  IsBelowAll x [] = Unit {0}
  IsBelowAll x (y ∷ ys) = (lt x y ≡ true) × IsBelowAll x ys

  abbrev pub IsRising : List K → Type 0
  IsRising [] = Unit {0}
  IsRising (x ∷ xs) = IsBelowAll x xs × IsRising xs
