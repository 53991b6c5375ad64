-- The set of elements has these elements, and what is read of it and spelled.
use Rattle.std.proofs.Common.{◌≡◌, ℕ, ◌<◌, ◌≤◌, Bool, true, false, cond, ◌&&◌, ◌||◌, T, nat_eq, nat_lt, List, [], ◌∷◌, ◌++◌, length, Option, None, Some, Result, Ok, refl, ap, sym, ◌∙◌, subst, ⊎_elim, inl, inr, ◌⊎◌, arith}
use Rattle.std.proofs.lemmas.Bool.{cases_Bool, cases_lt, lt-ltb, ltb-true, or_cases, or_left, or_right, or_parts, false_from_ne_true, and_right, and_from, eqb-true, eq-eqb}
use Rattle.std.proofs.lemmas.List.{map-append}
use Rattle.std.specs.Prelude.{map}
use Rattle.std.specs.List.{filter, flat_map, list_any, AllByRecursion}
use Rattle.std.specs.Ordering.{nat_cmp, ordering_then, eq_by_cmp, is_lt}
use Rattle.std.specs.declared.cmp.Ordering.{Ordering}
use Rattle.std.specs.declared.cmp.Ordering.TheVariants.{Less, Equal, Greater}
use Rattle.std.specs.Cmp.{nat_cmp_total, tied_itself}
use Rattle.std.specs.Cmp.Lexicographic.{slice_cmp, nat_list_cmp_total}
use Rattle.std.specs.Str.{bytes_eq}
use Rattle.std.specs.FinMap as finite
use Rattle.std.specs.FinMap.{is_sorted}
use Rattle.std.specs.FinMap.Entries.{below_all, find}
use Rattle.std.specs.FinSet as set
use Rattle.std.specs.FinSet.{contains-from_list, contains-items}
use Rattle.std.proofs.lemmas.List.Folds.{list_any-append}
use Rattle.model_history.proofs.CutLaws.{both_ways}
use mathlib.Core.Bool.{or-false, or_self}
use Rattle.model_history.specs.Table.{identity_limit}
use Rattle.model_history.specs.Texts.{Text, contains_text}
use Rattle.model_history.specs.Vector.{IdentitySet}
use Rattle.data_growing.specs.Bits.{same_bits}
use Rattle.data_growing.specs.TextSetLaws.{same_texts, contains_set, rising_set, absent_below}
use Rattle.base_bytes.specs.TextOrder.{IsRising}
use Rattle.base_bytes.proofs.TextLaws.{eq_texts, texts_eq}
use Rattle.base_bytes.specs.declared.fault.Fault.{Fault}
use Rattle.base_bytes.specs.Fields.{◌>>=◌}
use Rattle.base_bytes.specs.Spelling.{AreBytes, Takes}
use Rattle.base_bytes.specs.FieldLaws.{bind_ok, ok_is}
use Rattle.base_vectors.specs.declared.id.Dot.{Dot}
use Rattle.data_orset.specs.Placing.{key, key_of, at_dot}
use Rattle.data_orset.specs.Dots.{Dots, element_of, is_element, is_of, shown_elements, set_mentioned}
use Rattle.data_orset.specs.DotLaws.{same_item, has_any, any_has}
use Rattle.data_orset.specs.ShownLaws.{any_map}
use Rattle.data_orset.specs.Elements.{Element, dot_of, in_order, element_at, elements_of, placed_of, set_of_elements, AreRising, IsDot, IsElement, AreElements, AreFree, IsSoundSet, texts_in, elements_spelled, set_spelled}
use Rattle.data_orset.specs.Reading.{listed_in, set_in}
use Rattle.data_orset.specs.ReadingLaws.{listed_takes, listed_again}

-- TESTS

and_true : (a b : Bool) → b ≡ true → (a && b) ≡ a
and_true true b e = e
and_true false b e = refl

or_false : (a b : Bool) → b ≡ false → (a || b) ≡ a
or_false true b e = refl
or_false false b e = e

is_true : (b : Bool) → b ≡ true → T b
is_true b e = subst T (sym e) tt

-- THE ITEMS OF A SET, IN ORDER

abbrev Key : Type 0
Key = List ℕ

abbrev same_key : Key → Key → Bool
same_key = eq_by_cmp (slice_cmp nat_cmp)

abbrev marked : List Key → List (Key × Unit {0})
marked ks = map (λ k. (k, tt)) ks

keys_marked : (ks : List Key) → map (λ (e : Key × Unit {0}). e.0) (marked ks) ≡ ks
keys_marked [] = refl
keys_marked (k ∷ ks) = ap (λ (xs : List Key). k ∷ xs) (keys_marked ks)

mark : Bool → Option (Unit {0})
mark b = cond b (Some tt) None

find_marked : (k : Key) (ks : List Key) → find (slice_cmp nat_cmp) k (marked ks) ≡ mark (list_any (same_key k) ks)
unfolding mark
find_marked k [] = refl
find_marked k (q ∷ ks) = go (same_key k q) (find_marked k ks)
  where
    go : (b : Bool) → find (slice_cmp nat_cmp) k (marked ks) ≡ mark (list_any (same_key k) ks) → cond b (Some tt) (find (slice_cmp nat_cmp) k (marked ks)) ≡ mark (b || list_any (same_key k) ks)
    go true later = refl
    go false later = later

-- a list in order is its keys in order, however they stand in another
in_order_is : (found ks : List Key) → T (is_sorted (slice_cmp nat_cmp) (marked ks)) → ((k : Key) → list_any (same_key k) found ≡ list_any (same_key k) ks) → in_order found ≡ ks
in_order_is found ks sorted has =
    let same : finite.from_entries {R = slice_cmp nat_cmp} (marked found) ≡ finite.from_sorted (marked ks) =
    finite.same_map nat_list_cmp_total (finite.slice_cmp-IsAntisymmetric finite.nat_cmp-IsAntisymmetric) _ _ (λ k.
    finite.get-from_entries nat_list_cmp_total (marked found) k ∙ find_marked k found ∙ ap mark (has k) ∙ sym (finite.get-from_sorted (slice_cmp nat_cmp) (marked ks) k sorted ∙ find_marked k ks)) in
    ap finite.keys same ∙ ap (λ (es : List (Key × Unit {0})). map (λ (e : Key × Unit {0}). e.0) es) (finite.entries-from_sorted (slice_cmp nat_cmp) (marked ks) sorted) ∙ keys_marked ks

-- which of a list's keys pass a test
any_passing : (p : Key → Bool) (k : Key) (ks : List Key) → list_any (same_key k) (filter p ks) ≡ (list_any (same_key k) ks && p k)
any_passing p k [] = refl
any_passing p k (q ∷ ks) = go (same_key k q) refl (p q) refl (any_passing p k ks)
  where
    go : (a : Bool) → same_key k q ≡ a → (b : Bool) → p q ≡ b → list_any (same_key k) (filter p ks) ≡ (list_any (same_key k) ks && p k)
        → list_any (same_key k) (cond b (q ∷ filter p ks) (filter p ks)) ≡ ((a || list_any (same_key k) ks) && p k)
    go true is true passes later = ap (λ c. c || list_any (same_key k) (filter p ks)) is ∙ sym (ap p (same_item k q is) ∙ passes)
    go true is false fails later = let none : p k ≡ false = ap p (same_item k q is) ∙ fails in later ∙ and_right (list_any (same_key k) ks) (p k) none ∙ sym none
    go false is true passes later = ap (λ c. c || list_any (same_key k) (filter p ks)) is ∙ later
    go false is false fails later = later

-- a test of the items of a list's set
pub any_items : (t : Key → Bool) (ks : List Key) → list_any t (set.items (set.from_list {R = slice_cmp nat_cmp} ks)) ≡ list_any t ks
any_items t ks =
    let state : Dots = set.from_list ks in
    let has : (k : Key) → list_any (same_key k) (set.items state) ≡ list_any (same_key k) ks = λ k. sym (contains-items state k) ∙ contains-from_list nat_list_cmp_total ks k in
    same_bits _ _
    (λ e. let f = any_has t (set.items state) e in has_any t f.0 ks (sym (has f.0) ∙ f.1) f.2)
    (λ e. let f = any_has t ks e in has_any t f.0 (set.items state) (has f.0 ∙ f.1) f.2)

-- DOTS OF ONE ELEMENT

abbrev pub key_at : Text → Dot → Key
key_at e d = key e d.origin d.seq

abbrev comes_after : ℕ → ℕ → Dot → Type 0
comes_after origin seq d = (origin ≤ d.origin) × ((nat_lt origin d.origin || nat_lt seq d.seq) ≡ true)

-- the origin is greater, or the same with a greater number
pub by_parts : (origin seq : ℕ) (d : Dot) → comes_after origin seq d → (origin < d.origin) ⊎ ((origin ≡ d.origin) × (seq < d.seq))
by_parts origin seq d h = ⊎_elim
    (λ (less : origin < d.origin). inl less)
    (λ (le : d.origin ≤ origin). ⊎_elim
    (λ (t : nat_lt origin d.origin ≡ true). inl (ltb-true origin d.origin t))
    (λ (t : nat_lt seq d.seq ≡ true). inr ((let from = h.0 in omega arith), ltb-true seq d.seq t))
    (or_cases _ _ h.1)) (cases_lt origin d.origin)

pub of_parts : (origin seq : ℕ) (d : Dot) → (origin < d.origin) ⊎ ((origin ≡ d.origin) × (seq < d.seq)) → comes_after origin seq d
of_parts origin seq d (inl less) = (omega arith, or_left _ _ (lt-ltb origin d.origin less))
of_parts origin seq d (inr both) = ((let same = both.0 in omega arith), or_right _ _ (lt-ltb seq d.seq both.1))

nat_less : (m n : ℕ) → m < n → nat_cmp m n ≡ Less
nat_less m n less = ap (λ (b : Bool). cond b Less (cond (nat_eq m n) Equal Greater)) (lt-ltb m n less)

key_less : (e : Text) (origin seq : ℕ) (d : Dot) → comes_after origin seq d → slice_cmp nat_cmp (key e origin seq) (key_at e d) ≡ Less
key_less e origin seq d h = ⊎_elim
    (λ (less : origin < d.origin). ap (λ (r : Ordering). ordering_then r (slice_cmp nat_cmp (seq ∷ e) (d.seq ∷ e))) (nat_less origin d.origin less))
    (λ (both : (origin ≡ d.origin) × (seq < d.seq)).
    ap (λ (r : Ordering). ordering_then r (slice_cmp nat_cmp (seq ∷ e) (d.seq ∷ e))) (ap (nat_cmp origin) (sym both.0) ∙ tied_itself nat_cmp_total origin)
    ∙ ap (λ (r : Ordering). ordering_then r (slice_cmp nat_cmp e e)) (nat_less seq d.seq both.1)) (by_parts origin seq d h)

after_both : (origin seq : ℕ) (d c : Dot) → comes_after origin seq d → comes_after d.origin d.seq c → comes_after origin seq c
after_both origin seq d c g h = of_parts origin seq c (go (by_parts origin seq d g) (by_parts d.origin d.seq c h))
  where
    go : (origin < d.origin) ⊎ ((origin ≡ d.origin) × (seq < d.seq)) → (d.origin < c.origin) ⊎ ((d.origin ≡ c.origin) × (d.seq < c.seq)) → (origin < c.origin) ⊎ ((origin ≡ c.origin) × (seq < c.seq))
    go (inl a) (inl b) = inl (omega arith)
    go (inl a) (inr b) = inl (let same = b.0 in omega arith)
    go (inr a) (inl b) = inl (let same = a.0 in omega arith)
    go (inr a) (inr b) = inr (a.0 ∙ b.0, (let less = a.1 in let more = b.1 in omega arith))

-- what rises from a dot on rises from one before it
pub rising_from : (origin seq : ℕ) (d : Dot) (ds : List Dot) → comes_after origin seq d → AreRising d.origin d.seq ds → AreRising origin seq ds
rising_from origin seq d [] after h = tt
rising_from origin seq d (c ∷ ds) after h = let next = after_both origin seq d c after (h.0, h.1) in (next.0, next.1, h.2)

below_keys : (e : Text) (origin seq : ℕ) (ds : List Dot) → AreRising origin seq ds → below_all (slice_cmp nat_cmp) (key e origin seq) (marked (map (key_at e) ds)) ≡ true
below_keys e origin seq [] h = refl
below_keys e origin seq (d ∷ ds) h = and_from _ _ (ap is_lt (key_less e origin seq d (h.0, h.1))) (below_keys e origin seq ds (rising_from origin seq d ds (h.0, h.1) h.2))

sorted_keys : (e : Text) (origin seq : ℕ) (ds : List Dot) → AreRising origin seq ds → is_sorted (slice_cmp nat_cmp) (marked (map (key_at e) ds)) ≡ true
sorted_keys e origin seq [] h = refl
sorted_keys e origin seq (d ∷ ds) h = and_from _ _ (below_keys e d.origin d.seq ds h.2) (sorted_keys e d.origin d.seq ds h.2)

dots_back : (e : Text) (ds : List Dot) → map dot_of (map (key_at e) ds) ≡ ds
dots_back e [] = refl
dots_back e (d ∷ ds) = ap (λ (xs : List Dot). d ∷ xs) (dots_back e ds)

-- rising dots that are the set's of an element are its dots
pub element_is : (state : Dots) (e : Text) (ds : List Dot) → AreRising 0 0 ds → ((k : Key) → (set.contains state k && is_element e k) ≡ list_any (same_key k) (map (key_at e) ds)) → element_at state e ≡ record { text = e; dots = ds }
element_is state e ds rising has =
    let keys : in_order (filter (is_element e) (set.items state)) ≡ map (key_at e) ds =
    in_order_is (filter (is_element e) (set.items state)) (map (key_at e) ds) (is_true _ (sorted_keys e 0 0 ds rising))
    (λ k. any_passing (is_element e) k (set.items state) ∙ ap (λ b. b && is_element e k) (sym (contains-items state k)) ∙ has k) in
    λ i. record { text = e; dots = (ap (map dot_of) keys ∙ dots_back e ds) i }

-- THE KEYS OF ELEMENTS

abbrev keys_of : Element → List Key
keys_of x = map (key_at x.text) x.dots

abbrev all_keys : List Element → List Key
all_keys xs = flat_map keys_of xs

placed_keys : (e : Text) (ds : List Dot) → map key_of (map (λ d. at_dot d e) ds) ≡ map (key_at e) ds
placed_keys e [] = refl
placed_keys e (d ∷ ds) = ap (λ (ks : List Key). key_at e d ∷ ks) (placed_keys e ds)

all_placed : (xs : List Element) → map key_of (flat_map placed_of xs) ≡ all_keys xs
all_placed [] = refl
all_placed (x ∷ xs) = map-append key_of (placed_of x) (flat_map placed_of xs) ∙ ap (λ (ks : List Key). ks ++ map key_of (flat_map placed_of xs)) (placed_keys x.text x.dots) ∙ ap (λ (ks : List Key). keys_of x ++ ks) (all_placed xs)

set_is : (xs : List Element) → set_of_elements xs ≡ set.from_list (all_keys xs)
set_is xs = ap (λ (ks : List Key). set.from_list {R = slice_cmp nat_cmp} ks) (all_placed xs)

-- a test of the items of elements' set
any_in : (t : Key → Bool) (xs : List Element) → list_any t (set.items (set_of_elements xs)) ≡ list_any t (all_keys xs)
any_in t xs = ap (λ (s : Dots). list_any t (set.items s)) (set_is xs) ∙ any_items t (all_keys xs)

pub element_named : (e : Text) (k : Key) → is_element e k ≡ true → e ≡ element_of k
element_named e [] h = absurd (cc h)
element_named e (o ∷ []) h = absurd (cc h)
element_named e (o ∷ s ∷ element) h = eq_texts e element h

in_keys : (e : Text) (k : Key) (ds : List Dot) → list_any (same_key k) (map (key_at e) ds) ≡ true → is_element e k ≡ true
in_keys e k [] h = absurd (cc h)
in_keys e k (d ∷ ds) h = ⊎_elim
    (λ (a : same_key k (key_at e d) ≡ true). ap (is_element e) (same_item k (key_at e d) a) ∙ texts_eq e)
    (λ (b : list_any (same_key k) (map (key_at e) ds) ≡ true). in_keys e k ds b) (or_cases _ _ h)

-- a key of one element is none of another's
not_in_keys : (e : Text) (k : Key) (x : Element) → is_element e k ≡ true → bytes_eq e x.text ≡ false → list_any (same_key k) (keys_of x) ≡ false
not_in_keys e k x is differs = false_from_ne_true _ (λ h.
    let same : e ≡ x.text = element_named e k is ∙ sym (element_named x.text k (in_keys x.text k x.dots h)) in
    both_ways _ (ap (λ (z : Text). bytes_eq e z) (sym same) ∙ texts_eq e) differs)

not_in_others : (e : Text) (k : Key) (xs : List Element) → is_element e k ≡ true → contains_text (texts_in xs) e ≡ false → list_any (same_key k) (all_keys xs) ≡ false
not_in_others e k [] is absent = refl
not_in_others e k (x ∷ xs) is absent =
    let parts = or_parts _ _ absent in
    list_any-append (same_key k) (keys_of x) (all_keys xs) ∙ ap (λ b. b || list_any (same_key k) (all_keys xs)) (not_in_keys e k x is parts.0) ∙ not_in_others e k xs is parts.1

-- THE ELEMENTS OF THE SET OF ELEMENTS

again : (state : Dots) (xs : List Element) → IsRising (texts_in xs) → AllByRecursion IsElement xs
    → ((e : Text) (k : Key) → contains_text (texts_in xs) e ≡ true → is_element e k ≡ true → set.contains state k ≡ list_any (same_key k) (all_keys xs)) → map (element_at state) (texts_in xs) ≡ xs
again state [] rising each has = refl
again state (x ∷ xs) rising each has =
    let absent : contains_text (texts_in xs) x.text ≡ false = absent_below x.text (texts_in xs) rising.0 in
    let own : (k : Key) → (set.contains state k && is_element x.text k) ≡ list_any (same_key k) (keys_of x) = λ k. ⊎_elim
    (λ (is : is_element x.text k ≡ true).
    and_true (set.contains state k) _ is ∙ has x.text k (or_left _ _ (texts_eq x.text)) is ∙ list_any-append (same_key k) (keys_of x) (all_keys xs)
    ∙ or_false (list_any (same_key k) (keys_of x)) _ (not_in_others x.text k xs is absent))
    (λ (isnt : is_element x.text k ≡ false).
    and_right (set.contains state k) _ isnt ∙ sym (false_from_ne_true _ (λ h. both_ways _ (in_keys x.text k x.dots h) isnt))) (cases_Bool (is_element x.text k)) in
    let others : (e : Text) (k : Key) → contains_text (texts_in xs) e ≡ true → is_element e k ≡ true → set.contains state k ≡ list_any (same_key k) (all_keys xs) = λ e k there is.
    let differs : bytes_eq e x.text ≡ false = false_from_ne_true _ (λ same. both_ways _ (ap (contains_text (texts_in xs)) (sym (eq_texts e x.text same)) ∙ there) absent) in
    has e k (or_right _ _ there) is ∙ list_any-append (same_key k) (keys_of x) (all_keys xs) ∙ ap (λ b. b || list_any (same_key k) (all_keys xs)) (not_in_keys e k x is differs) in
    ap (λ (y : Element). y ∷ map (element_at state) (texts_in xs)) (element_is state x.text x.dots each.0.rising own)
    ∙ ap (λ (ys : List Element). x ∷ ys) (again state xs rising.1 each.1 others)

-- a test of keys by their element
any_of_one : (e text : Text) (ds : List Dot) → 1 ≤ length ds → list_any (λ k. bytes_eq e (element_of k)) (map (key_at text) ds) ≡ bytes_eq e text
any_of_one e text [] some = absurd (omega arith)
any_of_one e text (d ∷ []) some = or-false (bytes_eq e text)
any_of_one e text (d ∷ c ∷ ds) some = ap (λ b. bytes_eq e text || b) (any_of_one e text (c ∷ ds) (omega arith)) ∙ or_self (bytes_eq e text)

any_texts : (e : Text) (xs : List Element) → AllByRecursion IsElement xs → list_any (λ k. bytes_eq e (element_of k)) (all_keys xs) ≡ contains_text (texts_in xs) e
any_texts e [] each = refl
any_texts e (x ∷ xs) each =
    list_any-append (λ k. bytes_eq e (element_of k)) (keys_of x) (all_keys xs)
    ∙ ap (λ b. b || list_any (λ k. bytes_eq e (element_of k)) (all_keys xs)) (any_of_one e x.text x.dots each.0.some)
    ∙ ap (λ b. bytes_eq e x.text || b) (any_texts e xs each.1)

shown_are : (xs : List Element) → AreElements xs → shown_elements (set_of_elements xs) ≡ texts_in xs
shown_are xs is =
    let state : Dots = set_of_elements xs in
    same_texts (shown_elements state) (texts_in xs) (rising_set (map element_of (set.items state))) is.rising
    (λ e. contains_set (map element_of (set.items state)) e ∙ any_map element_of e (set.items state) ∙ any_in (λ k. bytes_eq e (element_of k)) xs ∙ any_texts e xs is.each)

pub elements_back : (xs : List Element) → AreElements xs → elements_of (set_of_elements xs) ≡ xs
elements_back xs is =
    let state : Dots = set_of_elements xs in
    ap (map (element_at state)) (shown_are xs is)
    ∙ again state xs is.rising is.each (λ e k there named. ap (λ (s : Dots). set.contains s k) (set_is xs) ∙ contains-from_list nat_list_cmp_total (all_keys xs) k)

-- WHOM A SET MENTIONS

free_dots : (barred : IdentitySet) (i : ℕ) (e : Text) (ds : List Dot) → barred i ≡ true → AllByRecursion (λ (d : Dot). barred d.origin ≡ false) ds → list_any (is_of i) (map (key_at e) ds) ≡ false
free_dots barred i e [] b free = refl
free_dots barred i e (d ∷ ds) b free =
    ap (λ c. c || list_any (is_of i) (map (key_at e) ds)) (false_from_ne_true (nat_eq d.origin i) (λ same. both_ways _ (ap barred (eqb-true d.origin i same) ∙ b) free.0))
    ∙ free_dots barred i e ds b free.1

free_unmentioned : (barred : IdentitySet) (i : ℕ) (xs : List Element) → barred i ≡ true → AreFree barred xs → list_any (is_of i) (all_keys xs) ≡ false
free_unmentioned barred i [] b free = refl
free_unmentioned barred i (x ∷ xs) b free =
    list_any-append (is_of i) (keys_of x) (all_keys xs) ∙ ap (λ c. c || list_any (is_of i) (all_keys xs)) (free_dots barred i x.text x.dots b free.0) ∙ free_unmentioned barred i xs b free.1

dots_free : (barred : IdentitySet) (e : Text) (ds : List Dot) → ((i : ℕ) → barred i ≡ true → list_any (is_of i) (map (key_at e) ds) ≡ false) → AllByRecursion (λ (d : Dot). barred d.origin ≡ false) ds
dots_free barred e [] h = tt
dots_free barred e (d ∷ ds) h =
    (false_from_ne_true (barred d.origin) (λ b. both_ways _ (eq-eqb d.origin d.origin refl) (or_parts _ _ (h d.origin b)).0), dots_free barred e ds (λ i b. (or_parts _ _ (h i b)).1))

unmentioned_free : (barred : IdentitySet) (xs : List Element) → ((i : ℕ) → barred i ≡ true → list_any (is_of i) (all_keys xs) ≡ false) → AreFree barred xs
unmentioned_free barred [] h = tt
unmentioned_free barred (x ∷ xs) h =
    let parts : (i : ℕ) → barred i ≡ true → (list_any (is_of i) (keys_of x) ≡ false) × (list_any (is_of i) (all_keys xs) ≡ false) = λ i b. or_parts _ _ (sym (list_any-append (is_of i) (keys_of x) (all_keys xs)) ∙ h i b) in
    (dots_free barred x.text x.dots (λ i b. (parts i b).0), unmentioned_free barred xs (λ i b. (parts i b).1))

others_free : (id : ℕ) (ds : List Dot) → AllByRecursion IsDot ds → identity_limit ≤ id → AllByRecursion (λ (d : Dot). nat_eq d.origin id ≡ false) ds
others_free id [] are many = tt
others_free id (d ∷ ds) are many = (false_from_ne_true (nat_eq d.origin id) (λ same. let e = eqb-true d.origin id same in let few = are.0.origin in omega arith), others_free id ds are.1 many)

all_free : (id : ℕ) (xs : List Element) → AllByRecursion IsElement xs → identity_limit ≤ id → AreFree (λ i. nat_eq i id) xs
all_free id [] are many = tt
all_free id (x ∷ xs) are many = (others_free id x.dots are.0.dots many, all_free id xs are.1 many)

-- dots are of identities alone
pub set_few : (x : Dots) (id : ℕ) → IsSoundSet x → identity_limit ≤ id → set_mentioned x id ≡ false
set_few x id is many =
    let xs : List Element = is.elements in
    ap (λ (s : Dots). set_mentioned s id) is.same ∙ any_in (is_of id) xs ∙ free_unmentioned (λ i. nat_eq i id) id xs (eq-eqb id id refl) (all_free id xs is.sound.each many)

-- READING AND SPELLING

pub set_takes : (kind : ℕ) (barred : IdentitySet) (bytes : List ℕ) (x : Dots) (rest : List ℕ) → nat_eq kind 4 ≡ true → AreBytes bytes → set_in barred bytes ≡ Ok (x, rest)
    → Takes bytes (set_spelled x) rest × IsSoundSet x × (4 ≡ kind) × ((i : ℕ) → barred i ≡ true → set_mentioned x i ≡ false)
unfolding set_in
set_takes kind barred bytes x rest known fits e =
    let a = bind_ok (listed_in barred bytes) (λ listed. Ok (set_of_elements listed.0, listed.1)) (x, rest) e in
    let listed : List Element × List ℕ = a.0 in
    let xs : List Element = listed.0 in
    let taken = listed_takes barred bytes xs listed.1 fits a.1 in
    let made : Dots × List ℕ = (set_of_elements xs, listed.1) in
    subst (λ (y : Dots × List ℕ). Takes bytes (set_spelled y.0) y.1 × IsSoundSet y.0 × (4 ≡ kind) × ((i : ℕ) → barred i ≡ true → set_mentioned y.0 i ≡ false)) (ok_is made (x, rest) a.2) (
      subst (λ (ys : List Element). Takes bytes (elements_spelled ys) listed.1) (sym (elements_back xs taken.1)) taken.0,
      record { elements = xs; sound = taken.1; same = refl },
      sym (eqb-true kind 4 known),
      λ i b. any_in (is_of i) xs ∙ free_unmentioned barred i xs b taken.2,
    )

pub set_again : (x : Dots) (barred : IdentitySet) (rest : List ℕ) → IsSoundSet x → ((i : ℕ) → barred i ≡ true → set_mentioned x i ≡ false) → set_in barred (set_spelled x ++ rest) ≡ Ok (x, rest)
unfolding set_in
set_again x barred rest is unmentioned =
    let xs : List Element = is.elements in
    let free = unmentioned_free barred xs (λ i b. sym (any_in (is_of i) xs) ∙ ap (λ (s : Dots). set_mentioned s i) (sym is.same) ∙ unmentioned i b) in
    let back : elements_of x ≡ xs = ap elements_of is.same ∙ elements_back xs is.sound in
    ap (λ (ys : List Element). set_in barred (elements_spelled ys ++ rest)) back
    ∙ ap (λ (r : Result (List Element × List ℕ) Fault). r >>= λ listed. Ok (set_of_elements listed.0, listed.1)) (listed_again barred xs rest is.sound free)
    ∙ ap (λ (s : Dots). Ok (s, rest)) (sym is.same)
