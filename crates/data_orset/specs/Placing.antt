-- An element at a dot, as a key of a finite set, and the order in which a set keeps its dots.
use Rattle.std.specs.Prelude.{◌≡◌, ℕ, ◌≤◌, ◌^◌, List, [], ◌∷◌, get_or}
use Rattle.std.specs.Ordering.{nat_cmp, ordering_then}
use Rattle.std.specs.Cmp.Lexicographic.{slice_cmp}
use Rattle.std.specs.declared.cmp.Ordering.{Ordering}
use Rattle.std.specs.declared.cmp.Ordering.TheVariants.{Less}
use Rattle.model_history.specs.Texts.{Text}
use Rattle.base_vectors.specs.declared.id.Dot.{Dot}

-- an element at a dot: the record of the origin with the number, from 1 on, added it or took it over
pub record Placed : Type 0 where
  pub element : Text
  pub origin : ℕ
  pub seq : ℕ

-- the dot, without its element
abbrev pub dot_at : Placed → Dot
dot_at p = record { origin = p.origin; seq = p.seq }

-- an element at a dot
abbrev pub at_dot : Dot → Text → Placed
at_dot dot element = record { element = element; origin = dot.origin; seq = dot.seq }

-- the dot at an index of a list
abbrev pub nth : List Placed → ℕ → Placed
nth ps index = get_or ps index (record { element = []; origin = 0; seq = 0 })

-- the origin, the number, and the element's bytes
abbrev pub key : Text → ℕ → ℕ → List ℕ
key element origin seq = origin ∷ seq ∷ element

abbrev pub key_of : Placed → List ℕ
key_of p = key p.element p.origin p.seq

-- by the elements' bytes, then by origin, then by number
abbrev pub placed_order : Placed → Placed → Ordering
placed_order p q = ordering_then (slice_cmp nat_cmp p.element q.element) (ordering_then (nat_cmp p.origin q.origin) (nat_cmp p.seq q.seq))

-- the one comes before each of the list
abbrev pub IsBeforeAll : Placed → List Placed → Type 0
IsBeforeAll p [] = Unit {0}
IsBeforeAll p (q ∷ qs) = (placed_order p q ≡ Less) × IsBeforeAll p qs

-- a record's number
abbrev pub IsNumbered : Placed → Type 0
IsNumbered p = (1 ≤ p.seq) × (p.seq ≤ 2 ^ 62)

-- numbered, and each before those after it
abbrev pub AreDots : List Placed → Type 0
AreDots [] = Unit {0}
AreDots (p ∷ ps) = IsNumbered p × IsBeforeAll p ps × AreDots ps
