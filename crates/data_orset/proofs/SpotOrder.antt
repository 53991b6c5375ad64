-- The order of a table's spots, and where one of them stands or belongs.
use Rattle.std.proofs.Common.{◌≡◌, ℕ, zero, suc, ◌+◌, ◌-◌, ◌<◌, ◌≤◌, inl, inr, List, [], ◌∷◌, ◌++◌, take, drop, length, get_or, Bool, true, false, ◌||◌, Result, Ok, Err, refl, ap, sym, ◌∙◌, subst, arith, ⊎_elim, nat_lt, is_ok}
use Rattle.std.specs.List.{AllByRecursion, list_any}
use Rattle.std.specs.List.Sorted.{IsNonDecreasingBy, IsBinarySearchResult, IsSearchInRange, IsPartitionedBy, IsPartitionPoint}
use Rattle.std.specs.Ordering.{nat_cmp, ordering_then, ordering_reverse, ordering_index}
use Rattle.std.specs.declared.cmp.Ordering.{Ordering}
use Rattle.std.specs.declared.cmp.Ordering.TheVariants.{Less, Equal, Greater}
use Rattle.std.specs.Cmp.{IsTotalOrder, nat_cmp_total, on_total, then_total, tied_itself}
use Rattle.std.specs.Cmp.Lexicographic.{slice_cmp, nat_list_cmp_total}
use Rattle.std.specs.Str.{bytes_eq}
use Rattle.std.proofs.lemmas.Cmp.{ranked}
use Rattle.std.proofs.lemmas.List.{get_or_default, length-map}
use Rattle.std.proofs.lemmas.Bool.{cases_lt, eqb-true}
use Rattle.std.proofs.lemmas.Bool.Decides.{nat_tests}
use Rattle.std.proofs.lemmas.Map.Lookups.{exact_unsigned}
use Rattle.model_history.specs.Texts.{Text, text_lt, contains_text}
use Rattle.base_bytes.specs.TextOrder.{IsRising}
use Rattle.base_bytes.proofs.TextLaws.{less_order, texts_eq}
use Rattle.data_growing.proofs.Searching.{rising_at, less_or_same, contains_at, before_place, after_place}
use Rattle.data_orset.specs.declared.dot_list.Spot.{Spot}
use Rattle.data_orset.specs.Placing.{Placed, at_dot, key_of, nth, placed_order, IsBeforeAll, AreDots}
use Rattle.data_orset.specs.Spots.{placed_in, dots_in, ArePlacesBelow, AreSpots, spot_order, AreInOrder, IsGap, IsSpotFound, IsBound, IsAlone}
use Rattle.data_orset.specs.Keeping.{set_of, IsRunOf}
use Rattle.data_growing.specs.Texts.{IsPlace}
use Rattle.std.specs.FinSet as set
use Rattle.data_orset.specs.DotLaws.{itself}
use Rattle.data_orset.proofs.Between.{upto_nth, upto_lt, unnamed_run, none_named, has_at}
use Rattle.data_orset.proofs.Changes.{any_map}
use Rattle.data_orset.proofs.ElementsInOrder.{IsUpto, lt_upto}
use Rattle.data_orset.proofs.OneDot.{IsGapOf, absent_gap}
use Rattle.data_orset.proofs.Placings.{both_tied}
use Rattle.data_orset.proofs.SetsOfDots.{is_at, one_at, contains_set_of}
use Rattle.data_orset.proofs.Tables.{nth_placed, place_at, placed_cut, same_element}

-- THE ORDER

spot_total : IsTotalOrder spot_order
spot_total =
    let place = λ (s : Spot). s.place in
    let origin = λ (s : Spot). s.dot.origin in
    let seq = λ (s : Spot). s.dot.seq in
    then_total (on_total place nat_cmp_total) (then_total (on_total origin nat_cmp_total) (on_total seq nat_cmp_total))

spot_same : (s t : Spot) → spot_order s t ≡ Equal → s ≡ t
spot_same s t e =
    let first = both_tied (nat_cmp s.place t.place) (ordering_then (nat_cmp s.dot.origin t.dot.origin) (nat_cmp s.dot.seq t.dot.seq)) e in
    let rest = both_tied (nat_cmp s.dot.origin t.dot.origin) (nat_cmp s.dot.seq t.dot.seq) first.1 in
    let place = exact_unsigned s.place t.place first.0 in
    let origin = exact_unsigned s.dot.origin t.dot.origin rest.0 in
    let seq = exact_unsigned s.dot.seq t.dot.seq rest.1 in
    λ i. record { place = place i; dot = record { origin = origin i; seq = seq i } }

-- texts are in the order of their places
place_order : (texts : List Text) (p q : ℕ) → IsRising texts → p < length texts → q < length texts → slice_cmp nat_cmp (get_or texts p []) (get_or texts q []) ≡ nat_cmp p q
place_order texts p q rising l m = go (nat_cmp p q) refl
  where
    go : (o : Ordering) → nat_cmp p q ≡ o → slice_cmp nat_cmp (get_or texts p []) (get_or texts q []) ≡ nat_cmp p q
    go Less e = less_order (get_or texts p []) (get_or texts q []) (rising_at texts p q rising (ranked p q Less (sym e)) m) ∙ sym e
    go Equal e = ap (λ i. slice_cmp nat_cmp (get_or texts p []) (get_or texts i [])) (sym (ranked p q Equal (sym e))) ∙ tied_itself nat_list_cmp_total (get_or texts p []) ∙ sym e
    go Greater e =
        nat_list_cmp_total.antisymm (get_or texts p []) (get_or texts q []) ∙ ap ordering_reverse (less_order (get_or texts q []) (get_or texts p []) (rising_at texts q p rising (ranked p q Greater (sym e)) l)) ∙ sym e

order_of_spots : (texts : List Text) (s t : Spot) → IsRising texts → s.place < length texts → t.place < length texts → placed_order (placed_in texts s) (placed_in texts t) ≡ spot_order s t
order_of_spots texts s t rising l m = ap (λ o. ordering_then o (ordering_then (nat_cmp s.dot.origin t.dot.origin) (nat_cmp s.dot.seq t.dot.seq))) (place_order texts s.place t.place rising l m)

pub spots_in_order : (texts : List Text) (spots : List Spot) → AreSpots texts spots → AreDots (dots_in texts spots) → AreInOrder spots
spots_in_order texts spots h dots = go spots h.within dots
  where
    before : (s : Spot) (spots : List Spot) → s.place < length texts → ArePlacesBelow (length texts) spots → IsBeforeAll (placed_in texts s) (dots_in texts spots) → AllByRecursion (λ t. spot_order s t ≡ Less) spots
    before s [] l within less = tt
    before s (t ∷ spots) l within less = (sym (order_of_spots texts s t h.rising l within.0) ∙ less.0, before s spots l within.1 less.1)

    go : (spots : List Spot) → ArePlacesBelow (length texts) spots → AreDots (dots_in texts spots) → AreInOrder spots
    go [] within dots = tt
    go (s ∷ spots) within dots = (before s spots within.0 within.1 dots.1, go spots within.1 dots.2)

before_at : (s : Spot) (spots : List Spot) (j : ℕ) (d : Spot) → AllByRecursion (λ t. spot_order s t ≡ Less) spots → j < length spots → spot_order s (get_or spots j d) ≡ Less
before_at s [] j d h l = absurd (omega arith)
before_at s (t ∷ spots) zero d h l = h.0
before_at s (t ∷ spots) (suc j) d h l = before_at s spots j d h.1 (omega arith)

in_order_at : (spots : List Spot) (i j : ℕ) (d : Spot) → AreInOrder spots → i < j → j < length spots → spot_order (get_or spots i d) (get_or spots j d) ≡ Less
in_order_at [] i j d h less l = absurd (omega arith)
in_order_at (s ∷ spots) i zero d h less l = absurd (omega arith)
in_order_at (s ∷ spots) zero (suc j) d h less l = before_at s spots j d h.0 (omega arith)
in_order_at (s ∷ spots) (suc i) (suc j) d h less l = in_order_at spots i j d h.1 (omega arith) (omega arith)

-- THE SEARCH

at_most_two : (o : Ordering) → ordering_index o ≤ 2
at_most_two Less = omega arith
at_most_two Equal = omega arith
at_most_two Greater = omega arith

index_rises : (a b s : Spot) → spot_order a b ≡ Less → ordering_index (spot_order a s) ≤ ordering_index (spot_order b s)
index_rises a b s less = go (spot_order b s) refl
  where
    go : (o : Ordering) → spot_order b s ≡ o → ordering_index (spot_order a s) ≤ ordering_index (spot_order b s)
    go Less e = let first : ordering_index (spot_order a s) ≡ 0 = ap ordering_index (spot_total.trans a b s less e) in omega arith
    go Equal e = let first : ordering_index (spot_order a s) ≡ 0 = ap ordering_index (subst (λ t. spot_order a t ≡ Less) (spot_same b s e) less) in omega arith
    go Greater e =
        let last : ordering_index (spot_order b s) ≡ 2 = ap ordering_index e in
        let most = at_most_two (spot_order a s) in omega arith

rises : (spots : List Spot) (s : Spot) → AreInOrder spots → IsNonDecreasingBy (λ y. ordering_index (spot_order y s)) spots
rises spots s h i j d le l = ⊎_elim (λ (less : i < j). index_rises (get_or spots i d) (get_or spots j d) s (in_order_at spots i j d h less l))
    (λ (same : i ≡ j). let e = ap (λ k. ordering_index (spot_order (get_or spots k d) s)) same in omega arith) (less_or_same i j le)

pub spot_found : (spots : List Spot) (s : Spot) (r : Result ℕ ℕ) → AreInOrder spots → IsSearchInRange r (length spots) → IsBinarySearchResult (λ y. spot_order y s) spots r → IsSpotFound spots s r
spot_found spots s (Ok i) h bound at = (bound, sym (spot_same (get_or spots i s) s (at s)))
spot_found spots s (Err i) h bound at =
    let parts = at (rises spots s h) in record {
      within = bound;
      before = λ j l. parts.0 j s (omega arith) l;
      after = λ j le l. spot_total.antisymm s (get_or spots j s) ∙ ap ordering_reverse (parts.1 j s le l);
    }

place_upto : (a b : Spot) → spot_order a b ≡ Less → a.place ≤ b.place
place_upto a b less = go (nat_cmp a.place b.place) refl less
  where
    go : (o : Ordering) → nat_cmp a.place b.place ≡ o → ordering_then o (ordering_then (nat_cmp a.dot.origin b.dot.origin) (nat_cmp a.dot.seq b.dot.seq)) ≡ Less → a.place ≤ b.place
    go Less e h = let l : a.place < b.place = ranked a.place b.place Less (sym e) in omega arith
    go Equal e h = let l : a.place ≡ b.place = ranked a.place b.place Equal (sym e) in omega arith
    go Greater e h = absurd (cc h)

places_upto : (spots : List Spot) (i j : ℕ) (d : Spot) → AreInOrder spots → i ≤ j → j < length spots → (get_or spots i d).place ≤ (get_or spots j d).place
places_upto spots i j d h le l = ⊎_elim (λ (less : i < j). place_upto (get_or spots i d) (get_or spots j d) (in_order_at spots i j d h less l))
    (λ (same : i ≡ j). let e = ap (λ k. (get_or spots k d).place) same in omega arith) (less_or_same i j le)

pub places_parted : (spots : List Spot) (p : ℕ) → AreInOrder spots → IsPartitionedBy (λ s. nat_lt s.place p) spots
places_parted spots p h i j d le l below = let upto = places_upto spots i j d h le l in grind (arith, nat_tests)

pub bound_is : (test : Spot → Bool) (spots : List Spot) (i : ℕ) → i ≤ length spots → IsPartitionPoint (λ y. test y ≡ true) (λ y. test y ≡ false) spots i → IsBound test spots i
bound_is test spots i within parts = record { within = within; before = λ j d l. parts.0 j d (omega arith) l; after = λ j d le l. parts.1 j d le l }

-- WHAT THE SPOTS STAND FOR

at_index : (texts : List Text) (spots : List Spot) (j : ℕ) (d : Spot) → AreSpots texts spots → j < length spots → (nth (dots_in texts spots) j ≡ placed_in texts (get_or spots j d)) × ((get_or spots j d).place < length texts)
at_index texts spots j d h l =
    let own : get_or spots j d ≡ get_or spots j (get_or spots j d) = get_or_default spots j d (get_or spots j d) l in
    (nth_placed texts spots j (get_or spots j d) l own, place_at (length texts) spots j (get_or spots j d) h.within l own)

pub gap_of : (texts : List Text) (spots : List Spot) (s : Spot) (i : ℕ) → AreSpots texts spots → s.place < length texts → IsGap spots s i → IsGapOf (dots_in texts spots) (placed_in texts s) i
gap_of texts spots s i h place gap =
    let long = length-map spots (placed_in texts) in
    let within = gap.within in record {
      within = omega arith;
      before = λ j l.
          let here = at_index texts spots j s h (omega arith) in
          ap (λ p. placed_order p (placed_in texts s)) here.0 ∙ order_of_spots texts (get_or spots j s) s h.rising here.1 place ∙ gap.before j l;
      after = λ j le l.
          let here = at_index texts spots j s h (omega arith) in
          ap (placed_order (placed_in texts s)) here.0 ∙ order_of_spots texts s (get_or spots j s) h.rising place here.1 ∙ gap.after j le (omega arith);
    }

-- an element that the table lacks has no dot
pub absent_text : (texts : List Text) (spots : List Spot) (x : Placed) → contains_text texts x.element ≡ false → ArePlacesBelow (length texts) spots → (k : List ℕ) → is_at k x ≡ true → list_any (is_at k) (dots_in texts spots) ≡ false
absent_text texts [] x absent within k there = refl
absent_text texts (s ∷ spots) x absent within k there = go (is_at k (placed_in texts s)) refl (absent_text texts spots x absent within.1 k there)
  where
    go : (b : Bool) → is_at k (placed_in texts s) ≡ b → list_any (is_at k) (dots_in texts spots) ≡ false → list_any (is_at k) (dots_in texts (s ∷ spots)) ≡ false
    go true is later =
        let same : get_or texts s.place [] ≡ x.element = ap (λ (p : Placed). p.element) ((one_at k).one (placed_in texts s) x is there) in
        absurd (let f = sym (contains_at texts s.place within.0) ∙ ap (contains_text texts) same ∙ absent in cc f)
    go false is later = ap (λ b. b || list_any (is_at k) (dots_in texts spots)) is ∙ later

pub stands_for : (texts : List Text) (s : Spot) (e : Text) → get_or texts s.place [] ≡ e → placed_in texts s ≡ at_dot s.dot e
stands_for texts s e is = λ i. record { element = is i; origin = s.dot.origin; seq = s.dot.seq }

-- the dot that stands at an index
pub stands_at : (texts : List Text) (spots : List Spot) (s : Spot) (e : Text) (i : ℕ) → get_or texts s.place [] ≡ e → (i < length spots) × (s ≡ get_or spots i s) → nth (dots_in texts spots) i ≡ at_dot s.dot e
stands_at texts spots s e i is at = nth_placed texts spots i s at.0 at.1 ∙ stands_for texts s e is

pub within_dots : (texts : List Text) (spots : List Spot) (i : ℕ) → i < length spots → i < length (dots_in texts spots)
within_dots texts spots i l = let long = length-map spots (placed_in texts) in omega arith

-- whether a dot is there, by the search for it
pub has_found : (texts : List Text) (spots : List Spot) (s : Spot) (e : Text) (r : Result ℕ ℕ) → AreSpots texts spots → (s.place < length texts) × (get_or texts s.place [] ≡ e) → IsSpotFound spots s r
    → is_ok r ≡ set.contains (set_of (dots_in texts spots)) (key_of (at_dot s.dot e))
has_found texts spots s e (Ok i) h is at =
    let x : Placed = at_dot s.dot e in
    sym (contains_set_of (dots_in texts spots) (key_of x) ∙ has_at (is_at (key_of x)) (dots_in texts spots) i (within_dots texts spots i at.0) (ap (is_at (key_of x)) (stands_at texts spots s e i is.1 at) ∙ itself (key_of x)))
has_found texts spots s e (Err i) h is gap =
    let x : Placed = at_dot s.dot e in
    let here = subst (λ p. IsGapOf (dots_in texts spots) p i) (stands_for texts s e is.1) (gap_of texts spots s i h is.0 gap) in
    sym (contains_set_of (dots_in texts spots) (key_of x) ∙ absent_gap (is_at (key_of x)) (one_at (key_of x)) x (itself (key_of x)) (dots_in texts spots) i here)

-- ONE THAT IS ALONE

module _ (texts : List Text) (spots : List Spot) (i : ℕ) (h : AreSpots texts spots) (dots : AreDots (dots_in texts spots)) (inside : i < length spots) (alone : IsAlone spots i) where
  abbrev ps : List Placed
  ps = dots_in texts spots

  abbrev here : Spot
  here = get_or spots i (record { place = 0; dot = record { origin = 0; seq = 0 } })

  -- elements are alike where places are
  same_place_at : (j : ℕ) → j < length spots → (nth ps j).element ≡ (nth ps i).element → (get_or spots j here).place ≡ (get_or spots i here).place
  same_place_at j l same =
      let test = same_element texts spots ps j i (get_or spots j here) (get_or spots i here) refl h (within_dots texts spots j l) (within_dots texts spots i inside)
      (get_or_default spots j here (get_or spots j here) l) (get_or_default spots i here (get_or spots i here) inside) in
      eqb-true (get_or spots j here).place (get_or spots i here).place (test ∙ ap (λ x. bytes_eq x (nth ps i).element) same ∙ texts_eq (nth ps i).element)

  less_of : (x y : Text) → IsUpto x y → (x ≡ y → ⊥) → text_lt x y ≡ true
  less_of x y (inl less) differs = less
  less_of x y (inr same) differs = absurd (differs same)

  pub alone_run : IsRunOf ps (nth ps i).element i (i + 1)
  alone_run =
      let long = length-map spots (placed_in texts) in record {
        order = omega arith;
        within = omega arith;
        before = λ j l.
            let last : (i - 1) + 1 ≡ i = omega arith in
            let less = less_of (nth ps (i - 1)).element (nth ps i).element (upto_nth ps (i - 1) i dots (omega arith) (omega arith)) (λ same. alone.before (i - 1) here last (same_place_at (i - 1) (omega arith) same)) in
            upto_lt (nth ps j).element (nth ps (i - 1)).element (nth ps i).element (upto_nth ps j (i - 1) dots (omega arith) (omega arith)) less;
        named = λ j le l. let same : j ≡ i = omega arith in ap (λ n. (nth ps n).element) same;
        after = λ j le l.
            let less = less_of (nth ps i).element (nth ps (i + 1)).element (upto_nth ps i (i + 1) dots (omega arith) (omega arith)) (λ same. alone.after here (omega arith) (same_place_at (i + 1) (omega arith) (sym same))) in
            lt_upto (nth ps i).element (nth ps (i + 1)).element (nth ps j).element less (upto_nth ps (i + 1) j dots le l);
      }

  -- no other dot is of its element
  pub unused_after : (rest : List Spot) (s : Spot) → s ≡ get_or spots i s → rest ≡ take i spots ++ drop (i + 1) spots → list_any (λ t. bytes_eq (get_or texts s.place []) (placed_in texts t).element) rest ≡ false
  unused_after rest s at is =
      let named : (nth ps i).element ≡ get_or texts s.place [] = ap (λ (p : Placed). p.element) (nth_placed texts spots i s inside at) in
      let run : IsRunOf ps (get_or texts s.place []) i (i + 1) = subst (λ e. IsRunOf ps e i (i + 1)) named alone_run in
      ap (list_any (λ t. bytes_eq (get_or texts s.place []) (placed_in texts t).element)) is
      ∙ sym (any_map (λ (p : Placed). bytes_eq (get_or texts s.place []) p.element) (placed_in texts) (take i spots ++ drop (i + 1) spots))
      ∙ ap (list_any (λ (p : Placed). bytes_eq (get_or texts s.place []) p.element)) (placed_cut texts spots ps i (i + 1) refl ∙ sym (unnamed_run ps (get_or texts s.place []) i (i + 1) run))
      ∙ none_named ps (get_or texts s.place [])

-- THE RUN OF AN ELEMENT

-- from the first spot that names the place up to the first that names a later one
pub run_found : (texts : List Text) (spots : List Spot) (e : Text) (place start end : ℕ) → AreSpots texts spots → (place < length texts) × (get_or texts place [] ≡ e)
    → IsBound (λ s. nat_lt s.place place) spots start → IsBound (λ s. nat_lt s.place (place + 1)) spots end → IsRunOf (dots_in texts spots) e start end
run_found texts spots e place start end h is lower upper =
    let long = length-map spots (placed_in texts) in
    let within = upper.within in
    let none : Spot = record { place = 0; dot = record { origin = 0; seq = 0 } } in
    let at = λ (j : ℕ) (l : j < length spots). at_index texts spots j none h l in record {
      order = bounds_order start end (λ j l m. let a = lower.before j none l in let b = upper.after j none m (let w = lower.within in omega arith) in grind (arith, nat_tests)) lower.within;
      within = omega arith;
      before = λ j l.
          let here = at j (let w = lower.within in omega arith) in
          let less : (get_or spots j none).place < place = (let b = lower.before j none l in grind (arith, nat_tests)) in
          ap (λ (p : Placed). text_lt p.element e) here.0 ∙ ap (text_lt (get_or texts (get_or spots j none).place [])) (sym is.1) ∙ rising_at texts (get_or spots j none).place place h.rising less is.0;
      named = λ j le l.
          let here = at j (omega arith) in
          let same : (get_or spots j none).place ≡ place = (let a = lower.after j none le (omega arith) in let b = upper.before j none l in grind (arith, nat_tests)) in
          ap (λ (p : Placed). p.element) here.0 ∙ ap (λ n. get_or texts n []) same ∙ is.1;
      after = λ j le l.
          let here = at j (omega arith) in
          let more : place < (get_or spots j none).place = (let a = upper.after j none le (omega arith) in grind (arith, nat_tests)) in
          ap (λ (p : Placed). text_lt e p.element) here.0 ∙ ap (λ x. text_lt x (get_or texts (get_or spots j none).place [])) (sym is.1) ∙ rising_at texts place (get_or spots j none).place h.rising more here.1;
    }
  where
    bounds_order : (a b : ℕ) → ((j : ℕ) → j < a → b ≤ j → ⊥) → a ≤ length spots → a ≤ b
    bounds_order a b never w = ⊎_elim (λ (less : b < a). absurd (never b less (omega arith))) (λ (le : a ≤ b). le) (cases_lt b a)

-- where an element without dots would stand
pub run_absent : (texts : List Text) (spots : List Spot) (e : Text) (place start : ℕ) → AreSpots texts spots → IsPlace texts e place → IsBound (λ s. nat_lt s.place place) spots start → IsRunOf (dots_in texts spots) e start start
run_absent texts spots e place start h is bound =
    let long = length-map spots (placed_in texts) in
    let within = bound.within in
    let none : Spot = record { place = 0; dot = record { origin = 0; seq = 0 } } in
    let at = λ (j : ℕ) (l : j < length spots). at_index texts spots j none h l in record {
      order = omega arith;
      within = omega arith;
      before = λ j l.
          let here = at j (omega arith) in
          let less : (get_or spots j none).place < place = (let b = bound.before j none l in grind (arith, nat_tests)) in
          ap (λ (p : Placed). text_lt p.element e) here.0 ∙ before_place texts e place (get_or spots j none).place is less;
      named = λ j le l. absurd (omega arith);
      after = λ j le l.
          let here = at j (omega arith) in
          let more : place ≤ (get_or spots j none).place = (let a = bound.after j none le (omega arith) in grind (arith, nat_tests)) in
          ap (λ (p : Placed). text_lt e p.element) here.0 ∙ after_place texts e place (get_or spots j none).place is more here.1;
    }
