-- A set as its elements in byte order, each with its dots; and the one spelling of these as bytes.
use Rattle.std.specs.Prelude.{◌≡◌, ℕ, ◌≤◌, ◌<◌, ◌^◌, List, [], ◌∷◌, ◌++◌, length, map, true, false, ◌||◌, nat_lt}
use Rattle.std.specs.List.{filter, flat_map, AllByRecursion}
use Rattle.std.specs.Ordering.{nat_cmp}
use Rattle.std.specs.Cmp.Lexicographic.{slice_cmp}
use Rattle.std.specs.FinMap as finite
use Rattle.std.specs.FinSet as set
use Rattle.model_history.specs.Table.{identity_limit}
use Rattle.model_history.specs.Texts.{Text}
use Rattle.model_history.specs.Vector.{IdentitySet}
use Rattle.model_history.specs.History.{History, Stamped}
use Rattle.model_meanings.specs.ObservedRemove.{live_records, live_elements}
use Rattle.base_bytes.specs.TextOrder.{IsRising}
use Rattle.base_bytes.specs.Spelling.{IsText, text_spelled, number_spelled}
use Rattle.model_kinds.specs.SixKinds.{set_operations}
use Rattle.model_kinds.specs.declared.operation.Op.{Op}
use Rattle.base_vectors.specs.declared.id.Dot.{Dot}
use Rattle.data_orset.specs.Placing.{Placed, at_dot}
use Rattle.data_orset.specs.Dots.{Dots, is_element, shown_elements}
use Rattle.data_orset.specs.Keeping.{set_of}

-- THE ELEMENTS OF A SET

-- an element with its dots, which rise by origin, then by number
pub record Element : Type 0 where
  pub text : Text
  pub dots : List Dot

abbrev pub dot_of : List ℕ → Dot
dot_of (origin ∷ seq ∷ element) = record { origin = origin; seq = seq }
dot_of _ = record { origin = 0; seq = 0 }

-- keys in their order, which is by origin and number where the element is one
abbrev pub in_order : List (List ℕ) → List (List ℕ)
in_order ks = finite.keys (finite.from_entries {R = slice_cmp nat_cmp} (map (λ k. (k, tt {0})) ks))

-- a text with the set's dots of it
abbrev pub element_at : Dots → Text → Element
element_at state e = record { text = e; dots = map dot_of (in_order (filter (is_element e) (set.items state))) }

abbrev pub elements_of : Dots → List Element
elements_of state = map (element_at state) (shown_elements state)

-- THE SET OF ELEMENTS

abbrev pub placed_of : Element → List Placed
placed_of x = map (λ d. at_dot d x.text) x.dots

abbrev pub set_of_elements : List Element → Dots
set_of_elements xs = set_of (flat_map placed_of xs)

-- the dots rise, by origin, then by number, from a dot on that isn't among them
abbrev pub AreRising : ℕ → ℕ → List Dot → Type 0
AreRising origin seq [] = Unit {0}
AreRising origin seq (d ∷ ds) = (origin ≤ d.origin) × ((nat_lt origin d.origin || nat_lt seq d.seq) ≡ true) × AreRising d.origin d.seq ds

-- a dot of an identity, with a record's number
pub record IsDot (d : Dot) : Type 0 where
  pub origin : d.origin < identity_limit
  pub some : 1 ≤ d.seq
  pub small : d.seq ≤ 2 ^ 62

pub record IsElement (x : Element) : Type 0 where
  pub text : IsText x.text
  pub some : 1 ≤ length x.dots
  pub few : length x.dots < 2 ^ 64
  pub rising : AreRising 0 0 x.dots
  pub dots : AllByRecursion IsDot x.dots

abbrev pub texts_in : List Element → List Text
texts_in xs = map (λ x. x.text) xs

pub record AreElements (xs : List Element) : Type 0 where
  pub few : length xs < 2 ^ 64
  pub rising : IsRising (texts_in xs)
  pub each : AllByRecursion IsElement xs

-- a dot of a text and of an identity
abbrev pub IsPlaced : Placed → Type 0
IsPlaced p = IsText p.element × (p.origin < identity_limit)

-- a set of elements
pub record IsSoundSet (state : Dots) : Type 0 where
  pub elements : List Element
  pub sound : AreElements elements
  pub same : state ≡ set_of_elements elements

-- no dot is of a barred identity
abbrev pub AreFree : IdentitySet → List Element → Type 0
AreFree barred xs = AllByRecursion (λ x. AllByRecursion (λ (d : Dot). barred d.origin ≡ false) x.dots) xs

-- THE SPELLING

abbrev pub dot_spelled : Dot → List ℕ
dot_spelled d = d.origin ∷ number_spelled d.seq

abbrev pub element_spelled : Element → List ℕ
element_spelled x = text_spelled x.text ++ (number_spelled (length x.dots) ++ flat_map dot_spelled x.dots)

abbrev pub elements_spelled : List Element → List ℕ
elements_spelled xs = number_spelled (length xs) ++ flat_map element_spelled xs

abbrev pub set_spelled : Dots → List ℕ
set_spelled state = elements_spelled (elements_of state)

-- OF A HISTORY

abbrev pub dot_named : Stamped Op → Dot
dot_named x = record { origin = x.origin; seq = x.number }

-- an element with its live adding records
abbrev pub history_element : History Op → Text → Element
history_element H e = record { text = e; dots = map dot_named (live_records set_operations e H) }

abbrev pub history_elements : History Op → List Element
history_elements H = map (history_element H) (live_elements set_operations H)
