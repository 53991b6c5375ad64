-- Where a text belongs in a sorted list of texts.
use Rattle.std.specs.Prelude.{◌≡◌, ℕ, ◌<◌, ◌≤◌, List, [], ◌∷◌, ◌++◌, length, get_or, false, Result, Ok, Err}
use Rattle.std.specs.List.{insert}
use Rattle.model_history.specs.Texts.{Text, text_set, contains_text}

-- a text that isn't in the list, and the index at which it belongs
pub record IsPlace (texts : List Text) (text : Text) (index : ℕ) : Type 0 where
  pub within : index ≤ length texts
  pub absent : contains_text texts text ≡ false
  pub sorted : insert texts index text ≡ text_set (texts ++ text ∷ [])

-- where a text stands in a list, or belongs
abbrev pub IsFound : List Text → Text → Result ℕ ℕ → Type 0
IsFound texts text (Ok place) = (place < length texts) × (get_or texts place [] ≡ text)
IsFound texts text (Err place) = IsPlace texts text place
