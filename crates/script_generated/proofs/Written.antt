-- Values whose text is read back.
use Rattle.std.proofs.Common.{◌≡◌, ℕ, suc, ◌<◌, ◌≤◌, ◌^◌, Bool, true, false, ◌&&◌, List, [], ◌∷◌, Some, option_map, option_and_then, refl, ap, ◌∙◌, arith}
use Rattle.std.specs.Str.{IsUtf8}
use Rattle.std.proofs.lemmas.Bool.{and_parts}
use Rattle.std.proofs.lemmas.Fmt.{IsAscii-decimal}
use Rattle.std.proofs.lemmas.Str.{IsUtf8-append, IsUtf8-nil, IsUtf8-from_ascii}
use Rattle.json.specs.Print.{quoted}
use Rattle.json.specs.Tree as tree
use Rattle.json.proofs.Printed.Decimals.{IsNumber-decimal}
use Rattle.json.proofs.Printed.Utf8.{are_ascii, IsUtf8-are_ascii, IsUtf8-quoted, IsUtf8-boolean}
use Rattle.serde_json.specs.Data.{Data, number, boolean, string, array, object, item, Members, no_members, put}
use Rattle.serde_json.specs.Read.{of_json, of_items, of_members}
use Rattle.serde_json.specs.View.{items_of}
use Rattle.serde_json.specs.Written.{outline, items_outline, members_outline, compact_text, items_text, members_text, comma_if}
use Rattle.serde_json.proofs.Numbers.{number_of-decimal}
use Rattle.script_generated.specs.Texts.{members_data, fields, whole}

-- each item of the list has the property
abbrev pub Each : {X : Type 0} → (X → Type 0) → List X → Type 0
Each P [] = Unit {0}
Each P (x ∷ xs) = P x × Each P xs

-- it nests no deeper than k
pub record IsWritten (k : ℕ) (d : Data) : Type 0 where
  pub reads : of_json (outline d) ≡ Some d
  pub numbers : tree.HasNumbers (outline d)
  pub flat : tree.depth (outline d) ≤ k
  pub text : IsUtf8 (compact_text d)

pub whole_written : (k n : ℕ) → n < 2 ^ 64 → IsWritten k (whole n)
whole_written k n small = record {
  reads = ap (option_map number) (number_of-decimal n small);
  numbers = IsNumber-decimal n small;
  flat = omega arith;
  text = IsUtf8-from_ascii _ (IsAscii-decimal n small);
}

pub text_written : (k : ℕ) (text : List ℕ) → IsUtf8 text → IsWritten k (string text)
text_written k text utf8 = record { reads = refl; numbers = tt; flat = omega arith; text = IsUtf8-quoted text utf8 }

pub ascii_written : (k : ℕ) (text : List ℕ) → are_ascii text ≡ true → IsWritten k (string text)
ascii_written k text ascii = text_written k text (IsUtf8-are_ascii text ascii)

pub switch_written : (k : ℕ) (b : Bool) → IsWritten k (boolean b)
switch_written k b = record { reads = refl; numbers = tt; flat = omega arith; text = IsUtf8-boolean b }

comma_utf8 : (later : Bool) → IsUtf8 (comma_if later)
comma_utf8 true = IsUtf8-are_ascii _ refl
comma_utf8 false = IsUtf8-nil

-- ---- lists

module _ (k : ℕ) where
  items_read : (ds : List Data) → Each (IsWritten k) ds → of_items (items_outline (items_of ds)) ≡ Some (items_of ds)
  items_read [] h = refl
  items_read (d ∷ ds) h =
      ap (option_and_then (λ e. option_map (item e) (of_items (items_outline (items_of ds))))) h.0.reads ∙ ap (option_map (item d)) (items_read ds h.1)

  items_numbers : (ds : List Data) → Each (IsWritten k) ds → tree.ItemsHaveNumbers (items_outline (items_of ds))
  items_numbers [] h = tt
  items_numbers (d ∷ ds) h = (h.0.numbers, items_numbers ds h.1)

  items_flat : (ds : List Data) → Each (IsWritten k) ds → tree.items_depth (items_outline (items_of ds)) ≤ k
  items_flat [] h = omega arith
  items_flat (d ∷ ds) h = omega (arith, h.0.flat, items_flat ds h.1)

  items_utf8 : (later : Bool) (ds : List Data) → Each (IsWritten k) ds → IsUtf8 (items_text later (items_of ds))
  items_utf8 later [] h = IsUtf8-are_ascii _ refl
  items_utf8 later (d ∷ ds) h = IsUtf8-append (comma_if later) _ (comma_utf8 later) (IsUtf8-append (compact_text d) _ h.0.text (items_utf8 true ds h.1))

  pub list_written : (ds : List Data) → Each (IsWritten k) ds → IsWritten (suc k) (array (items_of ds))
  list_written ds h = record {
    reads = ap (option_map array) (items_read ds h);
    numbers = items_numbers ds h;
    flat = omega (arith, items_flat ds h);
    text = IsUtf8-append (91 ∷ []) _ (IsUtf8-are_ascii _ refl) (items_utf8 false ds h);
  }

-- ---- objects

-- the members, put in one after another
abbrev put_all : List (List ℕ × Data) → Members → Members
put_all [] found = found
put_all (m ∷ ms) found = put_all ms (put m.0 m.1 found)

abbrev names_are_ascii : List (List ℕ × Data) → Bool
names_are_ascii [] = true
names_are_ascii (m ∷ ms) = are_ascii m.0 && names_are_ascii ms

module _ (k : ℕ) where
  abbrev AreWritten : List (List ℕ × Data) → Type 0
  AreWritten = Each (λ m. IsWritten k m.1)

  members_read : (ms : List (List ℕ × Data)) (found : Members) → AreWritten ms → of_members (members_outline (members_data ms)) found ≡ Some (put_all ms found)
  members_read [] found h = refl
  members_read (m ∷ ms) found h =
      ap (option_and_then (λ d. of_members (members_outline (members_data ms)) (put m.0 d found))) h.0.reads ∙ members_read ms (put m.0 m.1 found) h.1

  members_numbers : (ms : List (List ℕ × Data)) → AreWritten ms → tree.MembersHaveNumbers (members_outline (members_data ms))
  members_numbers [] h = tt
  members_numbers (m ∷ ms) h = (h.0.numbers, members_numbers ms h.1)

  members_flat : (ms : List (List ℕ × Data)) → AreWritten ms → tree.members_depth (members_outline (members_data ms)) ≤ k
  members_flat [] h = omega arith
  members_flat (m ∷ ms) h = omega (arith, h.0.flat, members_flat ms h.1)

  members_utf8 : (later : Bool) (ms : List (List ℕ × Data)) → AreWritten ms → names_are_ascii ms ≡ true → IsUtf8 (members_text later (members_data ms))
  members_utf8 later [] h ascii = IsUtf8-are_ascii _ refl
  members_utf8 later (m ∷ ms) h ascii =
      let names = and_parts (are_ascii m.0) (names_are_ascii ms) ascii in
      IsUtf8-append (comma_if later) _ (comma_utf8 later)
      (IsUtf8-append (quoted m.0) _ (IsUtf8-quoted m.0 (IsUtf8-are_ascii m.0 names.0))
      (IsUtf8-append (58 ∷ []) _ (IsUtf8-are_ascii _ refl) (IsUtf8-append (compact_text m.1) _ h.0.text (members_utf8 true ms h.1 names.1))))

  -- the names have to stand in byte order
  pub fields_written : (ms : List (List ℕ × Data)) → AreWritten ms → put_all ms no_members ≡ members_data ms → names_are_ascii ms ≡ true → IsWritten (suc k) (fields ms)
  fields_written ms h rising ascii = record {
    reads = ap (option_map object) (members_read ms no_members h ∙ ap Some rising);
    numbers = members_numbers ms h;
    flat = omega (arith, members_flat ms h);
    text = IsUtf8-append (123 ∷ []) _ (IsUtf8-are_ascii _ refl) (members_utf8 false ms h ascii);
  }
