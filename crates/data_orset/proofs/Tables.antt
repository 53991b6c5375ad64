-- Rising tables of texts, and dots that name texts by their places there.
use Rattle.std.proofs.Common.{◌≡◌, ℕ, zero, suc, ◌+◌, ◌-◌, ◌<◌, ◌≤◌, List, [], ◌∷◌, ◌++◌, length, take, drop, get_or, map, Bool, true, false, cond, nat_eq, refl, ap, sym, ◌∙◌, subst, arith, ⊎_elim, nat_le, nat_lt, if◌then◌else◌, slice_set}
use Rattle.std.specs.List.{filter, list_any, insert}
use Rattle.std.specs.Str.{bytes_eq}
use Rattle.std.specs.declared.cmp.Ordering.{Ordering}
use Rattle.std.proofs.lemmas.List.{get_or_default, drop_all, take_all, append-nil, length-map}
use Rattle.std.proofs.lemmas.List.Edits.{length-insert, get_or-insert_below, get_or-insert_above}
use Rattle.std.proofs.lemmas.Bool.{or_parts}
use Rattle.std.proofs.lemmas.Bool.Decides.{nat_tests}
use Rattle.model_history.specs.Texts.{Text}
use Rattle.base_bytes.specs.TextOrder.{text_order, IsBelowAll, IsRising}
use Rattle.base_bytes.proofs.TextLaws.{lt_differ, lt_differ_too, texts_eq}
use Rattle.data_growing.specs.Texts.{IsPlace}
use Rattle.data_growing.proofs.Merging.{rising_of_set}
use Rattle.data_growing.proofs.Searching.{below_at, less_or_same}
use Rattle.data_orset.specs.declared.dot_list.Spot.{Spot}
use Rattle.data_orset.specs.Placing.{Placed, nth}
use Rattle.data_orset.specs.Spots.{placed_in, ArePlacesBelow, AreSpots, shifted, lowered}

-- THE ORDER OF A TABLE

alike : (p q : ℕ) → p ≡ q → nat_eq p q ≡ true
alike p q e = grind (arith, nat_tests)

differ : (p q : ℕ) → p < q → nat_eq p q ≡ false
differ p q l = grind (arith, nat_tests)

differ_too : (p q : ℕ) → q < p → nat_eq p q ≡ false
differ_too p q l = grind (arith, nat_tests)

next_alike : (p q : ℕ) → nat_eq (suc p) (suc q) ≡ nat_eq p q
next_alike p q = grind (arith, nat_tests)

-- places are alike where their texts are
pub same_place : (xs : List Text) (p q : ℕ) → IsRising xs → p < length xs → q < length xs → nat_eq p q ≡ bytes_eq (get_or xs p []) (get_or xs q [])
same_place [] p q h l m = absurd (omega arith)
same_place (x ∷ xs) zero zero h l m = alike 0 0 refl ∙ sym (texts_eq x)
same_place (x ∷ xs) zero (suc q) h l m = differ 0 (suc q) (omega arith) ∙ sym (lt_differ x (get_or xs q []) (below_at x xs q h.0 (omega arith)))
same_place (x ∷ xs) (suc p) zero h l m = differ_too (suc p) 0 (omega arith) ∙ sym (lt_differ_too x (get_or xs p []) (below_at x xs p h.0 (omega arith)))
same_place (x ∷ xs) (suc p) (suc q) h l m = next_alike p q ∙ same_place xs p q h.1 (omega arith) (omega arith)

-- ONE MORE TEXT

-- a place after one more text stands at another
abbrev pub after_one : ℕ → ℕ → ℕ
after_one from place = if nat_le from place then place + 1 else place

at_or_after : (from p : ℕ) → nat_le from p ≡ true → from ≤ p
at_or_after from p e = grind (arith, nat_tests)

before_one : (from p : ℕ) → nat_le from p ≡ false → p < from
before_one from p e = grind (arith, nat_tests)

get_after : (xs : List Text) (k : ℕ) (e : Text) (p : ℕ) → k ≤ length xs → p < length xs → get_or (insert xs k e) (after_one k p) [] ≡ get_or xs p []
get_after xs k e p le l = go (nat_le k p) refl
  where
    go : (b : Bool) → nat_le k p ≡ b → get_or (insert xs k e) (cond b (p + 1) p) [] ≡ get_or xs p []
    go true is = get_or-insert_above xs k e [] p (at_or_after k p is) le
    go false is = get_or-insert_below xs k e [] p (before_one k p is) le

after_below : (from p n : ℕ) → p < n → after_one from p < suc n
after_below from p n l = go (nat_le from p)
  where
    go : (b : Bool) → cond b (p + 1) p < suc n
    go true = omega arith
    go false = omega arith

places_after : (from n : ℕ) (spots : List Spot) → ArePlacesBelow n spots → ArePlacesBelow (suc n) (map (shifted from) spots)
places_after from n [] h = tt
places_after from n (s ∷ spots) h = (after_below from s.place n h.0, places_after from n spots h.1)

placed_after : (xs : List Text) (k : ℕ) (e : Text) (spots : List Spot) → k ≤ length xs → ArePlacesBelow (length xs) spots → map (placed_in (insert xs k e)) (map (shifted k) spots) ≡ map (placed_in xs) spots
placed_after xs k e [] le h = refl
placed_after xs k e (s ∷ spots) le h =
    let text = get_after xs k e s.place le h.0 in
    let later = placed_after xs k e spots le h.1 in
    λ i. record { element = text i; origin = s.dot.origin; seq = s.dot.seq } ∷ later i

-- what the dots name stays the same
pub spots_after : (xs : List Text) (k : ℕ) (e : Text) (spots : List Spot) → IsPlace xs e k → AreSpots xs spots → AreSpots (insert xs k e) (map (shifted k) spots)
spots_after xs k e spots place h = record {
  rising = rising_of_set (insert xs k e) (xs ++ e ∷ []) place.sorted;
  within = subst (λ n. ArePlacesBelow n (map (shifted k) spots)) (sym (length-insert xs k e place.within ∙ omega arith)) (places_after k (length xs) spots h.within);
}

pub same_after : (xs : List Text) (k : ℕ) (e : Text) (spots : List Spot) → IsPlace xs e k → AreSpots xs spots → map (placed_in (insert xs k e)) (map (shifted k) spots) ≡ map (placed_in xs) spots
same_after xs k e spots place h = placed_after xs k e spots place.within h.within

-- RENUMBERING

pub places_more : (m n : ℕ) (spots : List Spot) → m ≤ n → ArePlacesBelow m spots → ArePlacesBelow n spots
places_more m n [] le h = tt
places_more m n (s ∷ spots) le h = let l = h.0 in (omega arith, places_more m n spots le h.1)

never : (n from p : ℕ) → n ≤ from → p < n → nat_le from p ≡ false
never n from p le l = grind (arith, nat_tests)

-- places before the new one stay
pub shifted_none : (from n : ℕ) (spots : List Spot) → n ≤ from → ArePlacesBelow n spots → map (shifted from) spots ≡ spots
shifted_none from n [] le h = refl
shifted_none from n (s ∷ spots) le h =
    let place = ap (λ b. cond b (s.place + 1) s.place) (never n from s.place le h.0) in
    let later = shifted_none from n spots le h.1 in
    λ i. record { place = place i; dot = s.dot } ∷ later i

pub place_at : (n : ℕ) (spots : List Spot) (i : ℕ) (s : Spot) → ArePlacesBelow n spots → i < length spots → s ≡ get_or spots i s → s.place < n
place_at n [] i s h l at = absurd (omega arith)
place_at n (x ∷ spots) zero s h l at = subst (λ (y : Spot). y.place < n) (sym at) h.0
place_at n (x ∷ spots) (suc i) s h l at = place_at n spots i s h.1 (omega arith) at

-- a dot with another place
abbrev pub with_place : (ℕ → ℕ) → Spot → Spot
with_place f s = record { place = f s.place; dot = s.dot }

-- so many are renumbered
abbrev pub so_far : (ℕ → ℕ) → List Spot → ℕ → List Spot
so_far f spots i = map (with_place f) (take i spots) ++ drop i spots

pub so_far_at : (f : ℕ → ℕ) (spots : List Spot) (i : ℕ) (d : Spot) → get_or (so_far f spots i) i d ≡ get_or spots i d
so_far_at f [] zero d = refl
so_far_at f [] (suc i) d = refl
so_far_at f (x ∷ spots) zero d = refl
so_far_at f (x ∷ spots) (suc i) d = so_far_at f spots i d

pub so_far_next : (f : ℕ → ℕ) (spots : List Spot) (i : ℕ) (s : Spot) → i < length spots → s ≡ get_or spots i s → slice_set (so_far f spots i) i (with_place f s) ≡ so_far f spots (i + 1)
so_far_next f [] i s l at = absurd (omega arith)
so_far_next f (x ∷ spots) zero s l at = ap (λ (y : Spot). with_place f y ∷ spots) at
so_far_next f (x ∷ spots) (suc i) s l at =
    let next : suc (i + 1) ≡ suc i + 1 = omega arith in
    ap (λ (ys : List Spot). with_place f x ∷ ys) (so_far_next f spots i s (omega arith) at) ∙ ap (so_far f (x ∷ spots)) next

-- one more is renumbered
pub renumbered : (f : ℕ → ℕ) (old now : List Spot) (i : ℕ) (s : Spot) (place : ℕ) → now ≡ so_far f old i → i < length old → s ≡ get_or now i s → place ≡ f s.place
    → slice_set now i (record { place = place; dot = (get_or now i s).dot }) ≡ so_far f old (i + 1)
renumbered f old now i s place is l at e =
    let here : s ≡ get_or old i s = at ∙ ap (λ (xs : List Spot). get_or xs i s) is ∙ so_far_at f old i s in
    let new : record { place = place; dot = (get_or now i s).dot } ≡ with_place f s = λ j. record { place = e j; dot = (sym at j).dot } in
    ap (slice_set now i) new ∙ ap (λ (xs : List Spot). slice_set xs i (with_place f s)) is ∙ so_far_next f old i s l here

-- FEWER DOTS

pub places_filter : (n : ℕ) (test : Spot → Bool) (spots : List Spot) → ArePlacesBelow n spots → ArePlacesBelow n (filter test spots)
places_filter n test [] h = tt
places_filter n test (s ∷ spots) h = go (test s) (places_filter n test spots h.1)
  where
    go : (b : Bool) → ArePlacesBelow n (filter test spots) → ArePlacesBelow n (cond b (s ∷ filter test spots) (filter test spots))
    go true later = (h.0, later)
    go false later = later

pub placed_filter : (texts : List Text) (test : Placed → Bool) (spots : List Spot) → map (placed_in texts) (filter (λ s. test (placed_in texts s)) spots) ≡ filter test (map (placed_in texts) spots)
placed_filter texts test [] = refl
placed_filter texts test (s ∷ spots) = go (test (placed_in texts s)) (placed_filter texts test spots)
  where
    go : (b : Bool) → map (placed_in texts) (filter (λ s. test (placed_in texts s)) spots) ≡ filter test (map (placed_in texts) spots)
        → map (placed_in texts) (cond b (s ∷ filter (λ s. test (placed_in texts s)) spots) (filter (λ s. test (placed_in texts s)) spots))
        ≡ cond b (placed_in texts s ∷ filter test (map (placed_in texts) spots)) (filter test (map (placed_in texts) spots))
    go true later = ap (λ (ps : List Placed). placed_in texts s ∷ ps) later
    go false later = later

-- ONE DOT

pub nth_placed : (texts : List Text) (spots : List Spot) (i : ℕ) (s : Spot) → i < length spots → s ≡ get_or spots i s → nth (map (placed_in texts) spots) i ≡ placed_in texts s
nth_placed texts [] i s l at = absurd (omega arith)
nth_placed texts (x ∷ spots) zero s l at = ap (placed_in texts) (sym at)
nth_placed texts (x ∷ spots) (suc i) s l at = nth_placed texts spots i s (omega arith) at

-- one more dot at the end
pub places_push : (n : ℕ) (spots : List Spot) (s : Spot) → ArePlacesBelow n spots → s.place < n → ArePlacesBelow n (spots ++ s ∷ [])
places_push n [] s h l = (l, tt)
places_push n (x ∷ spots) s h l = (h.0, places_push n spots s h.1 l)

pub nth_in : (texts : List Text) (spots : List Spot) (ps : List Placed) (i : ℕ) (s : Spot) → map (placed_in texts) spots ≡ ps → i < length ps → s ≡ get_or spots i s → nth ps i ≡ placed_in texts s
nth_in texts spots ps i s view l at =
    let long = length-map spots (placed_in texts) in
    let same = ap length view in
    ap (λ (qs : List Placed). nth qs i) (sym view) ∙ nth_placed texts spots i s (omega arith) at

pub place_in : (texts : List Text) (spots : List Spot) (ps : List Placed) (i : ℕ) (s : Spot) → map (placed_in texts) spots ≡ ps → AreSpots texts spots → i < length ps → s ≡ get_or spots i s → s.place < length texts
place_in texts spots ps i s view h l at =
    let long = length-map spots (placed_in texts) in
    let same = ap length view in
    place_at (length texts) spots i s h.within (omega arith) at

-- two dots of a list are of one element where they name one place
pub same_element : (texts : List Text) (spots : List Spot) (ps : List Placed) (i j : ℕ) (s t : Spot) → map (placed_in texts) spots ≡ ps → AreSpots texts spots → i < length ps → j < length ps
    → s ≡ get_or spots i s → t ≡ get_or spots j t → nat_eq s.place t.place ≡ bytes_eq (nth ps i).element (nth ps j).element
same_element texts spots ps i j s t view h l m at other_at =
    same_place texts s.place t.place h.rising (place_in texts spots ps i s view h l at) (place_in texts spots ps j t view h m other_at)
    ∙ ap (λ (p : Placed). bytes_eq p.element (get_or texts t.place [])) (sym (nth_in texts spots ps i s view l at))
    ∙ ap (λ (p : Placed). bytes_eq (nth ps i).element p.element) (sym (nth_in texts spots ps j t view m other_at))

-- a slice that was written back
pub written : {X : Type 0} (n : ℕ) (xs ys : List X) → length xs ≡ length ys → n ≡ length ys → take n (xs ++ drop (length xs) ys) ≡ xs
written n xs ys same long = ap (λ zs. take n (xs ++ zs)) (drop_all (length xs) ys (omega arith)) ∙ ap (take n) (append-nil xs) ∙ take_all n xs (omega arith)

pub told : (a b x t : Text) (o : Ordering) → a ≡ x → b ≡ t → o ≡ text_order a b → text_order x t ≡ o
told a b x t o p q e = sym (e ∙ ap (λ z. text_order z b) p ∙ ap (text_order x) q)

pub nth_at : (ps : List Placed) (i : ℕ) → i < length ps → nth ps i ≡ get_or ps i (nth ps i)
nth_at ps i l = get_or_default ps i (record { element = []; origin = 0; seq = 0 }) (nth ps i) l

-- DOTS THAT GO, AND ONE IN THEIR PLACE

pub placed_cut : (texts : List Text) (spots : List Spot) (ps : List Placed) (s t : ℕ) → map (placed_in texts) spots ≡ ps → map (placed_in texts) (take s spots ++ drop t spots) ≡ take s ps ++ drop t ps
placed_cut texts spots ps s t view = go spots s t ∙ ap (λ (qs : List Placed). take s qs ++ drop t qs) view
  where
    dropped : (ss : List Spot) (t : ℕ) → map (placed_in texts) (drop t ss) ≡ drop t (map (placed_in texts) ss)
    dropped ss zero = refl
    dropped [] (suc t) = refl
    dropped (x ∷ ss) (suc t) = dropped ss t

    front : (ss rest : List Spot) (s : ℕ) → map (placed_in texts) (take s ss ++ rest) ≡ take s (map (placed_in texts) ss) ++ map (placed_in texts) rest
    front ss rest zero = refl
    front [] rest (suc s) = refl
    front (x ∷ ss) rest (suc s) = ap (λ (qs : List Placed). placed_in texts x ∷ qs) (front ss rest s)

    go : (ss : List Spot) (s t : ℕ) → map (placed_in texts) (take s ss ++ drop t ss) ≡ take s (map (placed_in texts) ss) ++ drop t (map (placed_in texts) ss)
    go ss s t = front ss (drop t ss) s ∙ ap (λ (qs : List Placed). take s (map (placed_in texts) ss) ++ qs) (dropped ss t)

pub placed_put : (texts : List Text) (spots : List Spot) (ps : List Placed) (s t : ℕ) (x : Spot) → map (placed_in texts) spots ≡ ps → map (placed_in texts) (take s spots ++ x ∷ drop t spots) ≡ take s ps ++ placed_in texts x ∷ drop t ps
placed_put texts spots ps s t x view = front spots (x ∷ drop t spots) s ∙ ap (λ (qs : List Placed). take s (map (placed_in texts) spots) ++ placed_in texts x ∷ qs) (dropped spots t) ∙ ap (λ (qs : List Placed). take s qs ++ placed_in texts x ∷ drop t qs) view
  where
    dropped : (ss : List Spot) (t : ℕ) → map (placed_in texts) (drop t ss) ≡ drop t (map (placed_in texts) ss)
    dropped ss zero = refl
    dropped [] (suc t) = refl
    dropped (y ∷ ss) (suc t) = dropped ss t

    front : (ss rest : List Spot) (s : ℕ) → map (placed_in texts) (take s ss ++ rest) ≡ take s (map (placed_in texts) ss) ++ map (placed_in texts) rest
    front ss rest zero = refl
    front [] rest (suc s) = refl
    front (y ∷ ss) rest (suc s) = ap (λ (qs : List Placed). placed_in texts y ∷ qs) (front ss rest s)

-- one more, and those behind it cut off
pub put_then_cut : (xs : List Spot) (x : Spot) (s t : ℕ) → s ≤ t → t ≤ length xs → take (s + 1) (insert xs s x) ++ drop (t + 1) (insert xs s x) ≡ take s xs ++ x ∷ drop t xs
put_then_cut xs x zero t le l = let next : t + 1 ≡ suc t = omega arith in ap (λ n. x ∷ drop n (x ∷ xs)) next
put_then_cut xs x (suc s) zero le l = absurd (omega arith)
put_then_cut [] x (suc s) (suc t) le l = absurd (omega arith)
put_then_cut (y ∷ xs) x (suc s) (suc t) le l =
    let next : suc s + 1 ≡ suc (s + 1) = omega arith in
    let past : suc t + 1 ≡ suc (t + 1) = omega arith in
    ap (λ n. take n (y ∷ insert xs s x) ++ drop (suc t + 1) (y ∷ insert xs s x)) next ∙ ap (λ n. take (suc (s + 1)) (y ∷ insert xs s x) ++ drop n (y ∷ insert xs s x)) past
    ∙ ap (λ (zs : List Spot). y ∷ zs) (put_then_cut xs x s t (omega arith) (omega arith))

-- A TEXT THAT GOES

abbrev pub without_one : ℕ → ℕ → ℕ
without_one gap place = if nat_lt gap place then place - 1 else place

below_without : (w : Text) (xs : List Text) (k : ℕ) → IsBelowAll w xs → IsBelowAll w (take k xs ++ drop (k + 1) xs)
below_without w [] zero h = tt
below_without w [] (suc k) h = let next : suc k + 1 ≡ suc (k + 1) = omega arith in subst (λ n. IsBelowAll w (drop n [])) (sym next) tt
below_without w (x ∷ xs) zero h = h.1
below_without w (x ∷ xs) (suc k) h = let next : suc k + 1 ≡ suc (k + 1) = omega arith in subst (λ n. IsBelowAll w (x ∷ (take k xs ++ drop n (x ∷ xs)))) (sym next) (h.0, below_without w xs k h.1)

rising_without : (xs : List Text) (k : ℕ) → IsRising xs → IsRising (take k xs ++ drop (k + 1) xs)
rising_without [] zero h = tt
rising_without [] (suc k) h = let next : suc k + 1 ≡ suc (k + 1) = omega arith in subst (λ n. IsRising (drop n [])) (sym next) tt
rising_without (x ∷ xs) zero h = h.1
rising_without (x ∷ xs) (suc k) h = let next : suc k + 1 ≡ suc (k + 1) = omega arith in subst (λ n. IsRising (x ∷ (take k xs ++ drop n (x ∷ xs)))) (sym next) (below_without x xs k h.0, rising_without xs k h.1)

get_low : (xs : List Text) (k p : ℕ) → p < k → k < length xs → get_or (take k xs ++ drop (k + 1) xs) p [] ≡ get_or xs p []
get_low xs zero p l m = absurd (omega arith)
get_low [] (suc k) p l m = absurd (omega arith)
get_low (x ∷ xs) (suc k) zero l m = refl
get_low (x ∷ xs) (suc k) (suc p) l m = let next : suc k + 1 ≡ suc (k + 1) = omega arith in ap (λ n. get_or (take k xs ++ drop n (x ∷ xs)) p []) next ∙ get_low xs k p (omega arith) (omega arith)

get_high : (xs : List Text) (k p : ℕ) → k ≤ p → suc p < length xs → get_or (take k xs ++ drop (k + 1) xs) p [] ≡ get_or xs (suc p) []
get_high [] k p l m = absurd (omega arith)
get_high (x ∷ xs) zero p l m = refl
get_high (x ∷ xs) (suc k) zero l m = absurd (omega arith)
get_high (x ∷ xs) (suc k) (suc p) l m = let next : suc k + 1 ≡ suc (k + 1) = omega arith in ap (λ n. get_or (take k xs ++ drop n (x ∷ xs)) p []) next ∙ get_high xs k p (omega arith) (omega arith)

past_gap : (gap p : ℕ) → nat_lt gap p ≡ true → gap < p
past_gap gap p e = grind (arith, nat_tests)

not_past : (gap p : ℕ) → nat_lt gap p ≡ false → p ≤ gap
not_past gap p e = grind (arith, nat_tests)

-- what another place names after one went
name_without : (xs : List Text) (k p n : ℕ) → k < length xs → p < length xs → (p ≡ k → ⊥) → n + 1 ≡ length xs → (without_one k p < n) × (get_or (take k xs ++ drop (k + 1) xs) (without_one k p) [] ≡ get_or xs p [])
name_without xs k p n l m differs long = go (nat_lt k p) refl
  where
    high : (p : ℕ) → k < p → p < length xs → (p - 1 < n) × (get_or (take k xs ++ drop (k + 1) xs) (p - 1) [] ≡ get_or xs p [])
    high zero l m = absurd (omega arith)
    high (suc p) l m = let back : suc p - 1 ≡ p = omega arith in (omega arith, ap (λ i. get_or (take k xs ++ drop (k + 1) xs) i []) back ∙ get_high xs k p (omega arith) m)

    go : (b : Bool) → nat_lt k p ≡ b → (cond b (p - 1) p < n) × (get_or (take k xs ++ drop (k + 1) xs) (cond b (p - 1) p) [] ≡ get_or xs p [])
    go true is = high p (past_gap k p is) m
    go false is =
        let le = not_past k p is in
        ⊎_elim (λ (less : p < k). (omega arith, get_low xs k p less l)) (λ (same : p ≡ k). absurd (differs same)) (less_or_same p k le)

all_without : (xs : List Text) (e : Text) (k n : ℕ) (spots : List Spot) → k < length xs → get_or xs k [] ≡ e → n + 1 ≡ length xs → ArePlacesBelow (length xs) spots → list_any (λ s. bytes_eq e (placed_in xs s).element) spots ≡ false
    → ArePlacesBelow n (map (lowered k) spots) × (map (placed_in (take k xs ++ drop (k + 1) xs)) (map (lowered k) spots) ≡ map (placed_in xs) spots)
all_without xs e k n [] l is long within unused = (tt, refl)
all_without xs e k n (s ∷ spots) l is long within unused =
    let parts = or_parts (bytes_eq e (get_or xs s.place [])) (list_any (λ (s : Spot). bytes_eq e (placed_in xs s).element) spots) unused in
    let differs = λ (same : s.place ≡ k).
    let own : bytes_eq e (get_or xs s.place []) ≡ true = ap (λ p. bytes_eq e (get_or xs p [])) same ∙ ap (bytes_eq e) is ∙ texts_eq e in
    let f = sym own ∙ parts.0 in absurd {A = ⊥} (cc f) in
    let here = name_without xs k s.place n l within.0 differs long in
    let later = all_without xs e k n spots l is long within.1 parts.1 in
    let text = here.1 in
    let rest = later.1 in
    ((here.0, later.0), λ i. record { element = text i; origin = s.dot.origin; seq = s.dot.seq } ∷ rest i)

length_without : (xs : List Text) (k : ℕ) → k < length xs → length (take k xs ++ drop (k + 1) xs) + 1 ≡ length xs
length_without [] k l = absurd (omega arith)
length_without (x ∷ xs) zero l = omega arith
length_without (x ∷ xs) (suc k) l =
    let next : suc k + 1 ≡ suc (k + 1) = omega arith in
    let later = length_without xs k (omega arith) in
    let more : suc (length (take k xs ++ drop (k + 1) xs)) + 1 ≡ suc (length xs) = omega arith in
    ap (λ n. suc (length (take k xs ++ drop n (x ∷ xs))) + 1) next ∙ more

pub forgot_spots : (xs : List Text) (e : Text) (k : ℕ) (spots : List Spot) → (k < length xs) × (get_or xs k [] ≡ e) → AreSpots xs spots → list_any (λ s. bytes_eq e (placed_in xs s).element) spots ≡ false
    → AreSpots (take k xs ++ drop (k + 1) xs) (map (lowered k) spots)
forgot_spots xs e k spots is h unused = record {
  rising = rising_without xs k h.rising;
  within = (all_without xs e k (length (take k xs ++ drop (k + 1) xs)) spots is.0 is.1 (length_without xs k is.0) h.within unused).0;
}

pub forgot_same : (xs : List Text) (e : Text) (k : ℕ) (spots : List Spot) → (k < length xs) × (get_or xs k [] ≡ e) → AreSpots xs spots → list_any (λ s. bytes_eq e (placed_in xs s).element) spots ≡ false
    → map (placed_in (take k xs ++ drop (k + 1) xs)) (map (lowered k) spots) ≡ map (placed_in xs) spots
forgot_same xs e k spots is h unused = (all_without xs e k (length (take k xs ++ drop (k + 1) xs)) spots is.0 is.1 (length_without xs k is.0) h.within unused).1
