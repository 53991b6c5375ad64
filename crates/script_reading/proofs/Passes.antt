-- One pass over the members of an object finds what stands under each name.
use Rattle.std.proofs.Common.{◌≡◌, ℕ, List, [], ◌∷◌, Bool, true, false, if◌then◌else◌, Option, Some, None, is_some, string_bytes, string_cmp, nat_cmp, Less, Equal, Bor, true≢false, codes, refl, ap, sym, subst, ◌∙◌}
use Rattle.std.proofs.lemmas.Cmp.{nat_list_cmp_total, tied_itself}
use Rattle.std.proofs.lemmas.Slice.Eq.{bytes_eq-Decides}
use Rattle.std.specs.Cmp.Lexicographic.{slice_cmp}
use Rattle.std.specs.List.{AllByRecursion}
use Rattle.std.specs.List.Sorted.{IsStrictlySortedBy}
use Rattle.std.specs.Map.{keys_of}
use Rattle.std.specs.Str.{bytes_eq}
use Rattle.serde_json.specs.Data.{Data, null, boolean, number, string, array, object, Members}
use Rattle.serde_json.specs.Find.{get, get_member, as_object}
use Rattle.serde_json.specs.View.{view, members_view}
use Rattle.serde_json.specs.declared.value.Value.{Value}
use Rattle.serde_json.proofs.Views.{Entry, member_here, member_later}
use Rattle.script_reading.specs.declared.named.Named.{Named}
use Rattle.script_reading.specs.Found.{stands, passed, IsFound, AreFoundIn, AreFound, ArePassed}

-- what stands under a name when all these members were passed
abbrev pub ends : List ℕ → List Entry → Option Data → Option Data
ends name [] field = field
ends name (e ∷ es) field = ends name es (passed name (string_bytes e.0) (view e.1) field)

differ : (xs ys : List ℕ) (b : Bool) → bytes_eq xs ys ≡ b → (xs ≡ ys → ⊥) → b ≡ false
differ xs ys true e other = absurd (other ((bytes_eq-Decides xs ys).0 e))
differ xs ys false e other = refl

-- a key above that of this name is another name
above : (name : List ℕ) (e x : Entry) → string_bytes e.0 ≡ name → string_cmp e.0 x.0 ≡ Less → bytes_eq (string_bytes x.0) name ≡ false
above name e x is less =
    differ (string_bytes x.0) name _ refl (λ same.
    let tied : slice_cmp nat_cmp (string_bytes e.0) (string_bytes e.0) ≡ Equal = tied_itself nat_list_cmp_total (string_bytes e.0) in
    let both : slice_cmp nat_cmp (string_bytes e.0) (string_bytes x.0) ≡ Equal = ap (λ xs. slice_cmp nat_cmp (string_bytes e.0) xs) (same ∙ sym is) ∙ tied in
    absurd (cc (sym less ∙ both)))

-- after the member of this name there is no other
stays : (name : List ℕ) (e : Entry) (es : List Entry) (field : Option Data) → string_bytes e.0 ≡ name → AllByRecursion (λ y. string_cmp e.0 y ≡ Less) (keys_of es) → ends name es field ≡ field
stays name e [] field is h = refl
stays name e (x ∷ es) field is h =
    ap (λ b. ends name es (if b then Some (view x.1) else field)) (above name e x is h.0) ∙ stays name e es field is h.1

one_more : (name : List ℕ) (e : Entry) (es : List Entry) (b : Bool) → bytes_eq (string_bytes e.0) name ≡ b → AllByRecursion (λ y. string_cmp e.0 y ≡ Less) (keys_of es)
    → ends name es None ≡ get_member name (members_view es)
    → ends name es (if b then Some (view e.1) else None) ≡ get_member name (members_view (e ∷ es))
one_more name e es true is h rest =
    let same : string_bytes e.0 ≡ name = (bytes_eq-Decides (string_bytes e.0) name).0 is in
    stays name e es (Some (view e.1)) same h ∙ sym (member_here name e es (sym same))
one_more name e es false is h rest =
    rest ∙ sym (member_later name e es (λ same. true≢false (sym ((bytes_eq-Decides (string_bytes e.0) name).1 (sym same)) ∙ is)))

-- a pass over all members ends with what stands under the name
pub one_pass : (name : List ℕ) (es : List Entry) → IsStrictlySortedBy string_cmp (keys_of es) → ends name es None ≡ get_member name (members_view es)
unfolding IsStrictlySortedBy
one_pass name [] h = refl
one_pass name (e ∷ es) h = one_more name e es (bytes_eq (string_bytes e.0) name) refl h.0 (one_pass name es h.1)

get_in : (name : List ℕ) (ms : Members) (d : Data) → Some ms ≡ as_object d → get_member name ms ≡ get name d
get_in name ms null h = absurd (cc h)
get_in name ms (boolean b) h = absurd (cc h)
get_in name ms (number n) h = absurd (cc h)
get_in name ms (string s) h = absurd (cc h)
get_in name ms (array ds) h = absurd (cc h)
get_in name ms (object ns) h = let same : ms ≡ ns = cc h in ap (get_member name) same

-- ---- all of the names

-- the value is the one, and what will stand under each name when the rest of the members is passed is what the object has there
abbrev pub AreLeft : List Entry → Value → Named → Type 0
AreLeft es value named =
    let d = view value in
    (named.value.now ≡ value)
    × (ends (codes "do") es (stands named.form) ≡ get (codes "do") d)
    × (ends (codes "at") es (stands named.at) ≡ get (codes "at") d)
    × (ends (codes "key") es (stands named.key) ≡ get (codes "key") d)
    × (ends (codes "op") es (stands named.op) ≡ get (codes "op") d)
    × (ends (codes "level") es (stands named.level) ≡ get (codes "level") d)
    × (ends (codes "by") es (stands named.by) ≡ get (codes "by") d)
    × (ends (codes "element") es (stands named.element) ≡ get (codes "element") d)
    × (ends (codes "now") es (stands named.now) ≡ get (codes "now") d)
    × (ends (codes "text") es (stands named.text) ≡ get (codes "text") d)

abbrev pub none : Bor Value → Named
none value = record { value = value; form = None; at = None; key = None; op = None; level = None; by = None; element = None; now = None; text = None }

pub all_left : (es : List Entry) (value : Bor Value) → IsStrictlySortedBy string_cmp (keys_of es) → Some (members_view es) ≡ as_object (view value.now) → AreLeft es value.now (none value)
all_left es value sorted is =
    let d = view value.now in
    let name : (name : List ℕ) → ends name es None ≡ get name d = λ name. one_pass name es sorted ∙ get_in name (members_view es) d is in (
      refl,
      name (codes "do"),
      name (codes "at"),
      name (codes "key"),
      name (codes "op"),
      name (codes "level"),
      name (codes "by"),
      name (codes "element"),
      name (codes "now"),
      name (codes "text"),
    )

module _ (e : Entry) (es left : List Entry) (key : List ℕ) (next : es ≡ e ∷ left) (is : key ≡ string_bytes e.0) where
  one_passed : (name : List ℕ) (before after want : Option Data) → after ≡ passed name key (view e.1) before → ends name es before ≡ want → ends name left after ≡ want
  one_passed name before after want pass h =
      ap (ends name left) (pass ∙ ap (λ k. passed name k (view e.1) before) is) ∙ sym (ap (λ l. ends name l before) next) ∙ h

  pub passes : (value : Value) (before after : Named) → ArePassed key (view e.1) before after → AreLeft es value before → AreLeft left value after
  passes value before after pass h = (
    ap (λ v. v.now) pass.0 ∙ h.0,
    one_passed (codes "do") _ _ _ pass.1 h.1,
    one_passed (codes "at") _ _ _ pass.2 h.2,
    one_passed (codes "key") _ _ _ pass.3 h.3,
    one_passed (codes "op") _ _ _ pass.4 h.4,
    one_passed (codes "level") _ _ _ pass.5 h.5,
    one_passed (codes "by") _ _ _ pass.6 h.6,
    one_passed (codes "element") _ _ _ pass.7 h.7,
    one_passed (codes "now") _ _ _ pass.8 h.8,
    one_passed (codes "text") _ _ _ pass.9 h.9,
  )

given : (field : Option (Bor Value)) → is_some field ≡ is_some (stands field)
given None = refl
given (Some v) = refl

pub found : (field : Option (Bor Value)) (name : List ℕ) (d : Data) → stands field ≡ get name d → IsFound field name d
found field name d h = (h, given field ∙ ap is_some h)

pub all_found : (es : List Entry) (value : Value) (named : Named) → es ≡ [] → AreLeft es value named → (named.value.now ≡ value) × AreFound named
all_found es value named end h =
    let d = view value in
    let last : (name : List ℕ) (field want : Option Data) → ends name es field ≡ want → field ≡ want = λ name field want is. sym (ap (λ l. ends name l field) end) ∙ is in
    let all : AreFoundIn d named = (
      found named.form (codes "do") d (last (codes "do") _ _ h.1),
      found named.at (codes "at") d (last (codes "at") _ _ h.2),
      found named.key (codes "key") d (last (codes "key") _ _ h.3),
      found named.op (codes "op") d (last (codes "op") _ _ h.4),
      found named.level (codes "level") d (last (codes "level") _ _ h.5),
      found named.by (codes "by") d (last (codes "by") _ _ h.6),
      found named.element (codes "element") d (last (codes "element") _ _ h.7),
      found named.now (codes "now") d (last (codes "now") _ _ h.8),
      found named.text (codes "text") d (last (codes "text") _ _ h.9),
    ) in (h.0, subst (λ v. AreFoundIn (view v) named) (sym h.0) all)
