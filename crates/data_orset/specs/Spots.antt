-- Dots that name elements by their places in a table of texts.
use Rattle.std.specs.Prelude.{◌≡◌, ℕ, Bool, true, false, ◌<◌, ◌≤◌, ◌+◌, ◌-◌, List, [], ◌∷◌, length, map, get_or, nat_le, nat_lt, if◌then◌else◌, Result, Ok, Err, Vec, vec_len, vec_capacity}
use Rattle.std.specs.List.{AllByRecursion}
use Rattle.std.specs.Ordering.{nat_cmp, ordering_then}
use Rattle.std.specs.declared.cmp.Ordering.{Ordering}
use Rattle.std.specs.declared.cmp.Ordering.TheVariants.{Less}
use Rattle.model_history.specs.Texts.{Text}
use Rattle.base_bytes.specs.TextOrder.{IsRising}
use Rattle.data_orset.specs.declared.dot_list.Spot.{Spot}
use Rattle.data_orset.specs.Placing.{Placed}

-- the element at a place of the table, at a dot
abbrev pub placed_in : List Text → Spot → Placed
placed_in texts s = record { element = get_or texts s.place []; origin = s.dot.origin; seq = s.dot.seq }

-- what spots of a table stand for
abbrev pub dots_in : List Text → List Spot → List Placed
dots_in texts spots = map (placed_in texts) spots

abbrev pub ArePlacesBelow : ℕ → List Spot → Type 0
ArePlacesBelow n spots = AllByRecursion (λ s. s.place < n) spots

-- the texts rise, and each dot has one
pub record AreSpots (texts : List Text) (spots : List Spot) : Type 0 where
  pub rising : IsRising texts
  pub within : ArePlacesBelow (length texts) spots

-- a dot's name after one more text stands at the place
abbrev pub shifted : ℕ → Spot → Spot
shifted from s = record { place = if nat_le from s.place then s.place + 1 else s.place; dot = s.dot }

-- a dot's name after the text at a place went, which isn't its own
abbrev pub lowered : ℕ → Spot → Spot
lowered gap s = record { place = if nat_lt gap s.place then s.place - 1 else s.place; dot = s.dot }

-- THE ORDER OF SPOTS

-- by place, then by origin, then by number
abbrev pub spot_order : Spot → Spot → Ordering
spot_order s t = ordering_then (nat_cmp s.place t.place) (ordering_then (nat_cmp s.dot.origin t.dot.origin) (nat_cmp s.dot.seq t.dot.seq))

-- each comes before those after it
abbrev pub AreInOrder : List Spot → Type 0
AreInOrder [] = Unit {0}
AreInOrder (s ∷ spots) = AllByRecursion (λ t. spot_order s t ≡ Less) spots × AreInOrder spots

-- the spots before an index come before the spot, and those from it on after it
pub record IsGap (spots : List Spot) (s : Spot) (index : ℕ) : Type 0 where
  pub within : index ≤ length spots
  pub before : (i : ℕ) → i < index → spot_order (get_or spots i s) s ≡ Less
  pub after : (i : ℕ) → index ≤ i → i < length spots → spot_order s (get_or spots i s) ≡ Less

-- where a spot stands, or belongs
abbrev pub IsSpotFound : List Spot → Spot → Result ℕ ℕ → Type 0
IsSpotFound spots s (Ok index) = (index < length spots) × (s ≡ get_or spots index s)
IsSpotFound spots s (Err index) = IsGap spots s index

-- the spots before an index pass the test, and those from it on don't
pub record IsBound (test : Spot → Bool) (spots : List Spot) (index : ℕ) : Type 0 where
  pub within : index ≤ length spots
  pub before : (i : ℕ) (d : Spot) → i < index → test (get_or spots i d) ≡ true
  pub after : (i : ℕ) (d : Spot) → index ≤ i → i < length spots → test (get_or spots i d) ≡ false

-- neither the spot before the one at an index nor the one after it names its place
pub record IsAlone (spots : List Spot) (index : ℕ) : Type 0 where
  pub before : (i : ℕ) (d : Spot) → i + 1 ≡ index → (get_or spots i d).place ≡ (get_or spots index d).place → ⊥
  pub after : (d : Spot) → index + 1 < length spots → (get_or spots (index + 1) d).place ≡ (get_or spots index d).place → ⊥

-- ROOM

-- so many more texts and spots find room
abbrev pub HasRoom : {X Y Z : Type 0} → ℕ → Vec X Z → Vec Y Z → Type 0
HasRoom n texts spots = (vec_len texts + n ≤ vec_capacity texts) × (vec_len spots + n ≤ vec_capacity spots)
