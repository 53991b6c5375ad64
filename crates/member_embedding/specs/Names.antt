-- Keys of which no two have one name, as far as they were looked at.
use Rattle.std.specs.Prelude.{◌≡◌, ℕ, ◌<◌, List, slice_get, Some}
use Rattle.model_history.specs.Texts.{Text}

-- among the first so many no two have one name
abbrev pub AreDistinctBelow : {X : Type 0} → (X → Text) → ℕ → List X → Type 0
AreDistinctBelow {X} name end xs = (i j : ℕ) (x y : X) → i < end → j < end → slice_get xs i ≡ Some x → slice_get xs j ≡ Some y → name x ≡ name y → i ≡ j
