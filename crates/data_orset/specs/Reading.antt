-- A set at the front of bytes, field by field.
use Rattle.std.specs.Prelude.{◌≡◌, ℕ, zero, suc, ◌-◌, ◌^◌, ◌||◌, List, [], ◌∷◌, ◌++◌, length, map, nat_lt, Option, None, Some, Result, Ok, Err}
use Rattle.std.specs.List.{flat_map}
use Rattle.model_history.specs.Texts.{Text}
use Rattle.model_history.specs.Vector.{IdentitySet}
use Rattle.base_bytes.specs.declared.fault.Fault.{Fault}
use Rattle.base_bytes.specs.declared.fault.FieldError.{FieldError}
use Rattle.base_bytes.specs.Fields.{◌>>=◌, Fails, kept, number_in, text_in}
use Rattle.base_vectors.specs.declared.id.Dot.{Dot}
use Rattle.base_vectors.specs.Fields.{identity_in, positive_in}
use Rattle.data_orset.specs.Dots.{Dots}
use Rattle.data_orset.specs.Placing.{Placed, at_dot}
use Rattle.data_orset.specs.Elements.{Element, placed_of, set_of_elements}

-- a dot that comes after another
unfoldable pub dot_in : IdentitySet → ℕ → ℕ → List ℕ → Result (Dot × List ℕ) Fault
dot_in barred origin seq bytes = do
  i ← identity_in origin barred bytes
  n ← positive_in (2 ^ 62) i.1
  _ ← kept (nat_lt origin i.0 || nat_lt seq n.0) (length i.1)
  Ok (record { origin = i.0; seq = n.0 }, n.1)

-- so many dots, each after the one before it
unfoldable pub dots_in : IdentitySet → ℕ → ℕ → ℕ → List ℕ → Result (List Dot × List ℕ) Fault
dots_in barred zero origin seq bytes = Ok ([], bytes)
dots_in barred (suc n) origin seq bytes = do
  first ← dot_in barred origin seq bytes
  others ← dots_in barred n first.0.origin first.0.seq first.1
  Ok (first.0 ∷ others.0, others.1)

-- a text that comes after the one before it, how many dots it has, and these
unfoldable pub element_in : IdentitySet → Option Text → List ℕ → Result (Element × List ℕ) Fault
element_in barred before bytes = do
  text ← text_in before bytes
  count ← positive_in (2 ^ 64 - 1) text.1
  dots ← dots_in barred count.0 0 0 count.1
  Ok (record { text = text.0; dots = dots.0 }, dots.1)

-- so many elements, each after the one before it
unfoldable pub elements_in : IdentitySet → ℕ → Option Text → List ℕ → Result (List Element × List ℕ) Fault
elements_in barred zero before bytes = Ok ([], bytes)
elements_in barred (suc n) before bytes = do
  first ← element_in barred before bytes
  others ← elements_in barred n (Some first.0.text) first.1
  Ok (first.0 ∷ others.0, others.1)

-- how many elements, and these
unfoldable pub listed_in : IdentitySet → List ℕ → Result (List Element × List ℕ) Fault
listed_in barred bytes = do
  count ← number_in bytes
  elements_in barred count.0 None count.1

unfoldable pub set_in : IdentitySet → List ℕ → Result (Dots × List ℕ) Fault
set_in barred bytes = do
  listed ← listed_in barred bytes
  Ok (set_of_elements listed.0, listed.1)

-- WHAT READING LEAVES IN A LIST OF PLACED ELEMENTS

-- what a function returned, as it is viewed, stands for what is read, unless memory ran out
abbrev pub GivesSome : {X Y Z : Type 0} → (Y → Z) → (X → Z → Type 0) → Result Y FieldError → Result X Fault → Type 0
GivesSome {X} view Is (Ok y) read = (x : X) × (read ≡ Ok x) × Is x (view y)
GivesSome view Is (Err e) read = Fails e read

-- dots of an element, which are added at the end
abbrev pub ReadsDots : {Y : Type 0} → (Y → List ℕ) → IdentitySet → ℕ → Text → List ℕ → (old new : List Placed) → Result Y FieldError → Type 0
ReadsDots view barred count text bytes old new result = GivesSome view (λ x rest. (x.1 ≡ rest) × (new ≡ old ++ map (λ d. at_dot d text) x.0)) result (dots_in barred count 0 0 bytes)

-- an element, which is added at its dots at the end
abbrev pub ReadsElement : {Y : Type 0} → (Y → Text × List ℕ) → IdentitySet → Option Text → List ℕ → (old new : List Placed) → Result Y FieldError → Type 0
ReadsElement view barred before bytes old new result = GivesSome view (λ x y. (y ≡ (x.0.text, x.1)) × (new ≡ old ++ placed_of x.0)) result (element_in barred before bytes)

-- elements, each at its dots
abbrev pub ReadsPlaced : {Y : Type 0} → (Y → List Placed × List ℕ) → Result (List Element × List ℕ) Fault → Result Y FieldError → Type 0
ReadsPlaced view read result = GivesSome view (λ x y. y ≡ (flat_map placed_of x.0, x.1)) result read
