-- The order of texts by their bytes, and lists of texts that rise.
use Rattle.std.specs.Prelude.{◌≡◌, List, [], ◌∷◌, true}
use Rattle.std.specs.declared.cmp.Ordering.{Ordering}
use Rattle.std.specs.Ordering.{nat_cmp}
use Rattle.std.specs.Cmp.Lexicographic.{slice_cmp}
use Rattle.model_history.specs.Texts.{Text, text_lt}

-- the order of bytes, of which `text_lt` is the test
abbrev pub text_order : Text → Text → Ordering
text_order = slice_cmp nat_cmp

-- the text comes before each of the list
abbrev pub IsBelowAll : Text → List Text → Type 0
IsBelowAll x [] = Unit {0}
IsBelowAll x (y ∷ ys) = (text_lt x y ≡ true) × IsBelowAll x ys

-- each text comes before those after it
abbrev pub IsRising : List Text → Type 0
IsRising [] = Unit {0}
IsRising (x ∷ xs) = IsBelowAll x xs × IsRising xs
