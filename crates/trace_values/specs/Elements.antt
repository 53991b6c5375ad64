-- What is kept of the elements that records name, and what it stands for.
use Rattle.std.specs.Prelude.{◌≡◌, ℕ, ◌<◌, ◌≤◌, ◌&&◌, ◌||◌, List, [], length, map, Bool, true, false, Some, slice_get, get_or}
use Rattle.std.specs.Str.{bytes_eq}
use Rattle.model_history.specs.Texts.{Text, contains_text}
use Rattle.model_history.specs.Vector.{VersionVector}
use Rattle.model_history.specs.Cuts.{record_at}
use Rattle.model_history.specs.History.{Record as Meant, History, at, HasRecord}
use Rattle.model_meanings.specs.Growing.{is_operation}
use Rattle.model_kinds.specs.SixKinds.{adds, removes}
use Rattle.model_kinds.specs.declared.operation.Op.{Op}
use Rattle.model_kinds.specs.declared.operation.Op.TheVariants.{Add, Remove}
use Rattle.base_bytes.specs.TextOrder.{IsRising}
use Rattle.data_meaning.specs.declared.record.Record.{Record}
use Rattle.trace_values.specs.declared.sets.Element.{Element}
use Rattle.trace_values.specs.Rows.{row_of}
use Rattle.trace_values.specs.Touches.{IsPushedIf, passing, is_last_live, is_live, is_added, AreTouches}

abbrev pub names : List Element → List Text
names elements = map (λ (x : Element). x.name) elements

-- WHAT IT STANDS FOR

abbrev pub adds_at : Text → History Op → ℕ → ℕ → Bool
adds_at e made i k = is_operation (λ op. adds op e) (record_at made i k).action

-- of each identity the numbers of the records that add the element
abbrev pub AreAdds : Text → List (List ℕ) → History Op → Type 0
AreAdds e adding made = (i : ℕ) → row_of adding i ≡ passing (adds_at e made i) (at made i)

abbrev pub names_it : Text → Op → Bool
names_it e op = adds op e || removes op e

-- no record of the history names the element
abbrev pub NoneNames : Text → History Op → Type 0
NoneNames e made = (i k : ℕ) (r : Meant Op) → HasRecord made i k r → is_operation (names_it e) r.action ≡ false

pub record IsElement (made : History Op) (x : Element) : Type 0 where
  pub touches : AreTouches x.name x.touches.items made
  pub adds : AreAdds x.name x.adds.items made

-- the elements that records name, each once, in byte order
pub record StandForElements (elements : List Element) (made : History Op) : Type 0 where
  pub rising : IsRising (names elements)
  pub each : (k : ℕ) (x : Element) → slice_get elements k ≡ Some x → IsElement made x
  pub named : (e : Text) → contains_text (names elements) e ≡ false → NoneNames e made

-- ONE RECORD MORE

-- a record was kept with an element, if it touches it, and if it adds it
pub record IsMarked (touching adding : Bool) (id number : ℕ) (old new : Element) : Type 0 where
  pub name : new.name ≡ old.name
  pub touches : IsPushedIf touching old.touches.items new.touches.items id number
  pub adds : IsPushedIf adding old.adds.items new.adds.items id number

-- so with each of the first so many elements, and nothing else
pub record AreMarked (n : ℕ) (touching adding : Element → Bool) (id number : ℕ) (old new : List Element) : Type 0 where
  pub count : length new ≡ length old
  pub first : (k : ℕ) (x : Element) → k < n → slice_get old k ≡ Some x → (y : Element) × (slice_get new k ≡ Some y) × IsMarked (touching x) (adding x) id number x y
  pub rest : (k : ℕ) → n ≤ k → slice_get new k ≡ slice_get old k

-- an element stands at a place; it may have been put there
pub record IsPlaced (old new : List Element) (name : Text) (place : ℕ) : Type 0 where
  pub within : place < length new
  pub here : IsRising (names old) → get_or (names new) place [] ≡ name
  pub stands : (made : History Op) → StandForElements old made → StandForElements new made

-- a record that names an element was kept with it, and with no other
abbrev pub IsNamed : Text → Bool → ℕ → ℕ → List Element → List Element → Type 0
IsNamed name adding id number old new = (made : History Op) → StandForElements old made
    → (placed : List Element) × StandForElements placed made × (contains_text (names placed) name ≡ true)
    × AreMarked (length placed) (λ x. bytes_eq name x.name) (λ x. adding && bytes_eq name x.name) id number placed new

-- so of an operation, if it names an element
abbrev pub IsKept : Op → ℕ → ℕ → List Element → List Element → Type 0
IsKept (Add name) id number old new = IsNamed name true id number old new
IsKept (Remove name) id number old new = IsNamed name false id number old new
IsKept _ id number old new = new ≡ old

-- WHAT IS SHOWN

-- the last touch of an identity is live
abbrev pub is_pruned : List (List Record) → VersionVector → ℕ → Element → Bool
is_pruned rows known i x = is_last_live rows x.touches.items x.name known i

abbrev pub counts_add : VersionVector → Element → Bool
counts_add known x = is_added x.adds.items known

abbrev pub counts_live : List (List Record) → VersionVector → Element → Bool
counts_live rows known x = is_live rows x.touches.items x.name known
