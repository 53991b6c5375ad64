-- The dots of a list, element by element.
use Rattle.std.specs.Prelude.{ℕ, suc, List, [], ◌∷◌, if◌then◌else◌}
use Rattle.std.specs.Str.{bytes_eq}
use Rattle.model_history.specs.Texts.{Text}
use Rattle.data_orset.specs.Elements.{Element}
use Rattle.data_orset.specs.Placing.{Placed, dot_at}

-- one more dot in front
abbrev pub with_dot : Placed → List Element → List Element
with_dot p [] = record { text = p.element; dots = dot_at p ∷ [] } ∷ []
with_dot p (x ∷ xs) = if bytes_eq p.element x.text then record { text = p.element; dots = dot_at p ∷ x.dots } ∷ xs else record { text = p.element; dots = dot_at p ∷ [] } ∷ x ∷ xs

abbrev pub grouped : List Placed → List Element
grouped [] = []
grouped (p ∷ ps) = with_dot p (grouped ps)

-- how many dots at the front are of the element
abbrev pub run : Text → List Placed → ℕ
run e [] = 0
run e (p ∷ ps) = if bytes_eq e p.element then suc (run e ps) else 0

-- how many dots at the front are of the first one's element
abbrev pub first_run : List Placed → ℕ
first_run [] = 0
first_run (p ∷ ps) = suc (run p.element ps)
