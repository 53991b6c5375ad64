-- What the passes over sorted lists leave is what the calls compute.
use Rattle.std.proofs.Common.{◌≡◌, ℕ, Bool, true, false, not, ◌&&◌, ◌||◌, nat_eq, List, [], ◌∷◌, map, refl, ap, sym, ◌∙◌, subst, ⊎_elim, if◌then◌else◌}
use Rattle.std.specs.List.{filter, list_any}
use Rattle.std.specs.Str.{bytes_eq}
use Rattle.std.specs.Ordering.{nat_cmp, eq_by_cmp}
use Rattle.std.specs.Cmp.Lexicographic.{slice_cmp, nat_list_cmp_total}
use Rattle.std.specs.FinSet as set
use Rattle.std.specs.FinSet.{contains-union, contains-retain, contains-empty, contains-from_list}
use Rattle.std.proofs.lemmas.Bool.{or_cases, or_left, or_right}
use mathlib.Core.Bool.{or-false}
use Rattle.model_history.specs.Texts.{Text, text_set, contains_text}
use Rattle.model_history.specs.Vector.{VersionVector}
use Rattle.base_vectors.specs.declared.id.Dot.{Dot}
use Rattle.model_kinds.specs.declared.operation.Op.TheVariants.{Remove}
use Rattle.data_growing.specs.Bits.{same_bits}
use Rattle.base_bytes.proofs.TextLaws.{eq_texts, texts_eq}
use Rattle.data_growing.specs.TextSetLaws.{same_texts, contains_set, rising_set}
use Rattle.data_orset.specs.Placing.{Placed, key, key_of, at_dot}
use Rattle.data_orset.specs.Dots.{Dots, contained, element_of, is_element, is_of, is_dot_of, has_dot_of, is_touched, moved, set_joined, set_applied, set_delta_of, set_pruned, set_mentioned, shown_elements}
use Rattle.data_orset.specs.DotLaws.{alike, same_dots, same_item, itself, some_dot, dot_of_any, contains-joined, contains-pruned}
use Rattle.data_orset.specs.PruneLaws.{moved_from, moved_to}
use Rattle.data_orset.specs.Keeping.{set_of, stays, set_merged, texts_of, is_other_key}

-- LISTS AND THEIR SETS

pub any_map : {X Y : Type 0} (test : Y → Bool) (f : X → Y) (xs : List X) → list_any test (map f xs) ≡ list_any (λ x. test (f x)) xs
any_map test f [] = refl
any_map test f (x ∷ xs) = ap (λ b. test (f x) || b) (any_map test f xs)

-- a test that one of a list's keys passes
keyed : (t : List ℕ → Bool) (ks : List (List ℕ)) (k : List ℕ) → list_any (eq_by_cmp (slice_cmp nat_cmp) k) ks ≡ true → t k ≡ true → list_any t ks ≡ true
keyed t (x ∷ ks) k c e = ⊎_elim
    (λ (here : eq_by_cmp (slice_cmp nat_cmp) k x ≡ true). or_left _ _ (ap t (sym (same_item k x here)) ∙ e))
    (λ (later : list_any (eq_by_cmp (slice_cmp nat_cmp) k) ks ≡ true). or_right _ _ (keyed t ks k later e)) (or_cases _ _ c)
keyed t [] k c e = absurd (cc c)

some_key : (t : List ℕ → Bool) (ks : List (List ℕ)) → list_any t ks ≡ true → (k : List ℕ) × (list_any (eq_by_cmp (slice_cmp nat_cmp) k) ks ≡ true) × (t k ≡ true)
some_key t [] c = absurd (cc c)
some_key t (x ∷ ks) c = ⊎_elim
    (λ (here : t x ≡ true). (x, or_left _ _ (itself x), here))
    (λ (later : list_any t ks ≡ true). let f = some_key t ks later in (f.0, or_right _ _ f.1, f.2)) (or_cases _ _ c)

-- a test of a set's items is the test of the list's dots
pub any_items : (t : List ℕ → Bool) (ps : List Placed) → list_any t (set.items (set_of ps)) ≡ list_any (λ p. t (key_of p)) ps
any_items t ps =
    same_bits (list_any t (set.items (set_of ps))) (list_any t (map key_of ps))
    (λ c. let f = dot_of_any (set_of ps) t c in keyed t (map key_of ps) f.0 (sym (contains-from_list nat_list_cmp_total (map key_of ps) f.0) ∙ f.1) f.2)
    (λ c. let f = some_key t (map key_of ps) c in some_dot (set_of ps) t f.0 (contains-from_list nat_list_cmp_total (map key_of ps) f.0 ∙ f.1) f.2)
    ∙ any_map t key_of ps

-- TWO SETS

some_stays : (both r s a b : Bool) → ((a || b) && stays both r s a b) ≡ stays both r s a b
some_stays both r s true true = refl
some_stays both r s true false = refl
some_stays both r s false true = refl
some_stays both r s false false = refl

pub contains-merged : (both : Bool) (r s : List ℕ → Bool) (a b : Dots) (k : List ℕ) → set.contains (set_merged both r s a b) k ≡ stays both (r k) (s k) (set.contains a k) (set.contains b k)
contains-merged both r s a b k =
    contains-retain (set.union a b) _ k (alike _ k) ∙ ap (λ x. x && stays both (r k) (s k) (set.contains a k) (set.contains b k)) (contains-union nat_list_cmp_total a b k)
    ∙ some_stays both (r k) (s k) (set.contains a k) (set.contains b k)

pub united_is : (a b : Dots) → set_merged true (λ _. true) (λ _. true) a b ≡ set.union a b
united_is a b = same_dots _ _ (λ k. contains-merged true (λ _. true) (λ _. true) a b k ∙ go (set.contains a k) (set.contains b k) ∙ sym (contains-union nat_list_cmp_total a b k))
  where
    go : (x y : Bool) → stays true true true x y ≡ (x || y)
    go true true = refl
    go true false = refl
    go false true = refl
    go false false = refl

pub joined_is : (a : Dots) (v : VersionVector) (b : Dots) (w : VersionVector) → set_merged true (λ k. not (contained w k)) (λ k. not (contained v k)) a b ≡ set_joined a v b w
joined_is a v b w = same_dots _ _ (λ k.
    contains-merged true (λ k. not (contained w k)) (λ k. not (contained v k)) a b k ∙ go (set.contains a k) (set.contains b k) (contained w k) (contained v k) ∙ sym (contains-joined a v b w k))
  where
    go : (x y theirs mine : Bool) → stays true (not theirs) (not mine) x y ≡ ((x && y) || ((x && not theirs) || (y && not mine)))
    go true true theirs mine = refl
    go true false true mine = refl
    go true false false mine = refl
    go false true theirs mine = refl
    go false false theirs mine = refl

-- DELTAS

with_none : (a : Dots) → a ≡ set.union a set.empty
with_none a = same_dots _ _ (λ k. sym (contains-union nat_list_cmp_total a set.empty k ∙ ap (λ x. set.contains a k || x) (contains-empty (slice_cmp nat_cmp) k) ∙ or-false (set.contains a k)))

pub removed_is : (a : Dots) (e : Text) (dot : Dot) → set.retain a (λ k. not (is_element e k)) ≡ set_applied a (Remove e) dot
removed_is a e dot = with_none (set.retain a (λ k. not (is_element e k)))

pub seen_is : (a : Dots) (e : Text) (dot : Dot) → set.retain a (is_element e) ≡ (set_delta_of a (Remove e) dot).seen
seen_is a e dot = with_none (set.retain a (is_element e))

-- PRUNES

other_keys : (a : Dots) (removed : ℕ) (texts : List Text) → ((e : Text) → contains_text texts e ≡ has_dot_of a removed e) → (k : List ℕ) → is_other_key texts k ≡ not (is_touched a removed k)
other_keys a removed texts same [] = refl
other_keys a removed texts same (o ∷ []) = refl
other_keys a removed texts same (o ∷ s ∷ e) = ap not (same e)

-- whether the key is the text's at the new dot
abbrev is_new : Dot → List ℕ → Text → Bool
is_new dot k e = eq_by_cmp (slice_cmp nat_cmp) k (key e dot.origin dot.seq)

text_of_new : (dot : Dot) (k : List ℕ) (es : List Text) → list_any (is_new dot k) es ≡ true → (e : Text) × (contains_text es e ≡ true) × (k ≡ key e dot.origin dot.seq)
text_of_new dot k [] c = absurd (cc c)
text_of_new dot k (x ∷ es) c = ⊎_elim
    (λ (here : is_new dot k x ≡ true). (x, or_left _ _ (texts_eq x), same_item k (key x dot.origin dot.seq) here))
    (λ (later : list_any (is_new dot k) es ≡ true). let f = text_of_new dot k es later in (f.0, or_right _ _ f.1, f.2)) (or_cases _ _ c)

new_of_text : (dot : Dot) (k : List ℕ) (e : Text) (es : List Text) → contains_text es e ≡ true → k ≡ key e dot.origin dot.seq → list_any (is_new dot k) es ≡ true
new_of_text dot k e [] c same = absurd (cc c)
new_of_text dot k e (x ∷ es) c same = ⊎_elim
    (λ (here : bytes_eq e x ≡ true). or_left _ _ (subst (λ z. is_new dot k z ≡ true) (eq_texts e x here) (subst (λ z. eq_by_cmp (slice_cmp nat_cmp) k z ≡ true) same (itself k))))
    (λ (later : contains_text es e ≡ true). or_right _ _ (new_of_text dot k e es later same)) (or_cases _ _ c)

new_dots : (dot : Dot) (texts : List Text) (k : List ℕ) → set.contains (set_of (map (at_dot dot) texts)) k ≡ list_any (is_new dot k) texts
new_dots dot texts k =
    contains-from_list nat_list_cmp_total (map key_of (map (at_dot dot) texts)) k ∙ any_map (eq_by_cmp (slice_cmp nat_cmp) k) key_of (map (at_dot dot) texts)
    ∙ any_map (λ p. eq_by_cmp (slice_cmp nat_cmp) k (key_of p)) (at_dot dot) texts

-- the other elements' dots, and the elements of the removed identity at the new dot
pub pruned_is : (a : Dots) (removed : ℕ) (dot : Dot) (texts : List Text) → ((e : Text) → contains_text texts e ≡ has_dot_of a removed e)
    → set.union (set.retain a (is_other_key texts)) (set_of (map (at_dot dot) texts)) ≡ set_pruned a removed dot
pruned_is a removed dot texts same = same_dots _ _ (λ k.
    contains-union nat_list_cmp_total (set.retain a (is_other_key texts)) (set_of (map (at_dot dot) texts)) k
    ∙ ap (λ x. x || set.contains (set_of (map (at_dot dot) texts)) k) (contains-retain a (is_other_key texts) k (alike (is_other_key texts) k))
    ∙ ap (λ x. (set.contains a k && x) || set.contains (set_of (map (at_dot dot) texts)) k) (other_keys a removed texts same k)
    ∙ ap (λ x. (set.contains a k && not (is_touched a removed k)) || x) (moved_is k) ∙ sym (contains-pruned a removed dot k))
  where
    moved_is : (k : List ℕ) → set.contains (set_of (map (at_dot dot) texts)) k ≡ list_any (eq_by_cmp (slice_cmp nat_cmp) k) (moved removed dot (set.items a))
    moved_is k = new_dots dot texts k ∙ same_bits _ _
        (λ c.
        let f = text_of_new dot k texts c in
        subst (λ q. list_any (eq_by_cmp (slice_cmp nat_cmp) q) (moved removed dot (set.items a)) ≡ true) (sym f.2) (moved_to removed dot f.0 (set.items a) (sym (same f.0) ∙ f.1)))
        (λ c. let f = moved_from removed dot k (set.items a) c in new_of_text dot k f.0 texts (same f.0 ∙ f.2) f.1)

-- the elements of the removed identity's dots
pub removed_texts : (ps : List Placed) (removed : ℕ) (e : Text) → contains_text (text_set (texts_of (filter (λ p. nat_eq p.origin removed) ps))) e ≡ has_dot_of (set_of ps) removed e
removed_texts ps removed e =
    contains_set (texts_of (filter (λ p. nat_eq p.origin removed) ps)) e ∙ any_map (bytes_eq e) (λ (p : Placed). p.element) (filter (λ p. nat_eq p.origin removed) ps)
    ∙ any_filtered (λ p. nat_eq p.origin removed) (λ p. bytes_eq e p.element) ps ∙ sym (any_items (is_dot_of e removed) ps)
  where
    any_filtered : (t u : Placed → Bool) (qs : List Placed) → list_any u (filter t qs) ≡ list_any (λ p. t p && u p) qs
    any_filtered t u [] = refl
    any_filtered t u (q ∷ qs) = go (t q) (any_filtered t u qs)
      where
        go : (b : Bool) → list_any u (filter t qs) ≡ list_any (λ p. t p && u p) qs → list_any u (if b then q ∷ filter t qs else filter t qs) ≡ ((b && u q) || list_any (λ p. t p && u p) qs)
        go true later = ap (λ x. u q || x) later
        go false later = later

-- WHAT IS SHOWN AND MENTIONED

pub shown_is : (ps : List Placed) → text_set (texts_of ps) ≡ shown_elements (set_of ps)
shown_is ps = same_texts _ _ (rising_set (texts_of ps)) (rising_set (map element_of (set.items (set_of ps)))) (λ e.
    contains_set (texts_of ps) e ∙ any_map (bytes_eq e) (λ (p : Placed). p.element) ps ∙ sym (any_items (λ k. bytes_eq e (element_of k)) ps)
    ∙ sym (any_map (bytes_eq e) element_of (set.items (set_of ps))) ∙ sym (contains_set (map element_of (set.items (set_of ps))) e))

-- whether an element is among those shown
pub named_is : (ps : List Placed) (e : Text) → contains_text (shown_elements (set_of ps)) e ≡ list_any (λ p. bytes_eq e p.element) ps
named_is ps e = ap (λ xs. contains_text xs e) (sym (shown_is ps)) ∙ contains_set (texts_of ps) e ∙ any_map (bytes_eq e) (λ (p : Placed). p.element) ps

pub mentioned_is : (ps : List Placed) (id : ℕ) → set_mentioned (set_of ps) id ≡ list_any (λ p. nat_eq p.origin id) ps
mentioned_is ps id = any_items (is_of id) ps
