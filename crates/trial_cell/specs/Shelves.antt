-- Shelves, and what they tell.
use Rattle.std.specs.Prelude.{◌≡◌, ℕ, Bool, true, false, IsTrue}
use Rattle.trial_cell.specs.declared.shelf.Fate.{Fate}
use Rattle.trial_cell.specs.declared.shelf.Fate.TheVariants.{Kept, Lost}
use Rattle.trial_cell.specs.declared.shelf.Shelf.{Shelf}

-- it tells its number, and holds this one
abbrev pub Tells : Shelf → ℕ → Type 0
Tells shelf held = IsTrue shelf.tells × (shelf.number ≡ held)

abbrev pub is_lost : Fate → Bool
is_lost Kept = false
is_lost Lost = true

-- what is held after a call with a number
abbrev pub held_after : Fate → ℕ → ℕ → ℕ
held_after Kept number held = number
held_after Lost number held = held
