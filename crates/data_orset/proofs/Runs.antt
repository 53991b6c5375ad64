-- The dots of a list, element by element: these are the elements of its set.
use Rattle.std.proofs.Common.{◌≡◌, ℕ, suc, ◌+◌, ◌-◌, ◌^◌, ◌<◌, ◌≤◌, Bool, true, false, cond, ◌||◌, nat_lt, List, [], ◌∷◌, ◌++◌, length, take, drop, get_or, refl, ap, sym, ◌∙◌, subst, append_assoc, ⊎_elim, inl, inr, ◌⊎◌, arith, map}
use Rattle.std.proofs.lemmas.Bool.{lt-ltb, or_right}
use Rattle.std.proofs.lemmas.List.{drop_more, drop_all, drop-drop, length-drop}
use Rattle.std.proofs.lemmas.List.Elements.{recursion_from_All}
use Rattle.std.specs.List.{All, AllByRecursion, flat_map}
use Rattle.std.specs.Ordering.{nat_cmp, ordering_then}
use Rattle.std.specs.declared.cmp.Ordering.{Ordering}
use Rattle.std.specs.declared.cmp.Ordering.TheVariants.{Less, Equal, Greater}
use Rattle.std.specs.Cmp.{nat_cmp_is, tied_itself}
use Rattle.std.proofs.lemmas.Cmp.{ranked}
use Rattle.std.specs.Cmp.Lexicographic.{nat_list_cmp_total}
use Rattle.std.specs.Str.{bytes_eq}
use Rattle.model_history.proofs.CutLaws.{both_ways}
use Rattle.model_history.specs.Texts.{Text, text_lt}
use Rattle.base_bytes.specs.TextOrder.{text_order, IsBelowAll, IsRising}
use Rattle.base_bytes.specs.Spelling.{IsText}
use Rattle.base_bytes.proofs.TextLaws.{eq_texts, texts_eq, less_order}
use Rattle.data_growing.specs.TextSetLaws.{below_all_of_less}
use Rattle.base_vectors.specs.declared.id.Dot.{Dot}
use Rattle.data_orset.specs.Placing.{Placed, placed_order, IsBeforeAll, IsNumbered, AreDots, at_dot, dot_at}
use Rattle.data_orset.specs.Dots.{Dots}
use Rattle.data_orset.specs.Keeping.{set_of}
use Rattle.data_orset.specs.Elements.{Element, AreRising, IsDot, IsPlaced, IsElement, AreElements, IsSoundSet, placed_of, texts_in, elements_of, element_spelled, elements_spelled, set_spelled}
use Rattle.data_orset.specs.ElementLaws.{by_parts, of_parts, elements_back}
use Rattle.data_orset.specs.Runs.{with_dot, grouped, run, first_run}
use Rattle.data_orset.proofs.Placings.{before_all}
use Rattle.data_orset.proofs.ElementsInOrder.{before_upto}

-- THE FIRST ELEMENT

-- the first dot's element with so many of the dots at the front
abbrev pub first_of : Placed → List Placed → ℕ → Element
first_of p ps n = record { text = p.element; dots = map dot_at (take n ps) }

abbrev with_first : Bool → Placed → Placed → List Dot → List Element → List Element
with_first b p q ds xs = cond b (record { text = p.element; dots = dot_at p ∷ dot_at q ∷ ds } ∷ xs) (record { text = p.element; dots = dot_at p ∷ [] } ∷ record { text = q.element; dots = dot_at q ∷ ds } ∷ xs)

-- what one more dot makes of the elements, by whether it is of the first one
abbrev IsFirst : Placed → Placed → List Placed → Bool → ℕ → Type 0
IsFirst p q ps b m = with_first b p q (map dot_at (take (run q.element ps) ps)) (grouped (drop (run q.element ps) ps)) ≡ first_of p (p ∷ q ∷ ps) (suc (cond b (suc m) 0)) ∷ grouped (drop (suc (cond b (suc m) 0)) (p ∷ q ∷ ps))

pub first_is : (p : Placed) (ps : List Placed) → grouped (p ∷ ps) ≡ first_of p (p ∷ ps) (first_run (p ∷ ps)) ∷ grouped (drop (first_run (p ∷ ps)) (p ∷ ps))
first_is p [] = refl
first_is p (q ∷ ps) = let later = first_is q ps in ap (with_dot p) later ∙ go later (bytes_eq p.element q.element) refl
  where
    go : grouped (q ∷ ps) ≡ first_of q (q ∷ ps) (first_run (q ∷ ps)) ∷ grouped (drop (first_run (q ∷ ps)) (q ∷ ps)) → (b : Bool) → bytes_eq p.element q.element ≡ b → IsFirst p q ps b (run p.element ps)
    go later true is = subst (λ m. IsFirst p q ps true m) (ap (λ e. run e ps) (sym (eq_texts p.element q.element is))) refl
    go later false is = ap (λ (xs : List Element). record { text = p.element; dots = dot_at p ∷ [] } ∷ xs) (sym later)

run_within : (e : Text) (ps : List Placed) → run e ps ≤ length ps
run_within e [] = omega arith
run_within e (p ∷ ps) = go (bytes_eq e p.element) (run_within e ps)
  where
    go : (b : Bool) → run e ps ≤ length ps → cond b (suc (run e ps)) 0 ≤ suc (length ps)
    go true le = omega arith
    go false le = omega arith

pub first_run_within : (ps : List Placed) → first_run ps ≤ length ps
first_run_within [] = omega arith
first_run_within (p ∷ ps) = let le = run_within p.element ps in omega arith

-- from a dot on: how many are of its element, and these
pub record IsRun (ps : List Placed) (start : ℕ) (p : Placed) (n : ℕ) : Type 0 where
  pub some : 1 ≤ n
  pub within : start + n ≤ length ps
  pub first : grouped (drop start ps) ≡ first_of p (drop start ps) n ∷ grouped (drop (start + n) ps)

run_from : (ps : List Placed) (start : ℕ) (p : Placed) (qs : List Placed) → start < length ps → drop start ps ≡ p ∷ qs → IsRun ps start p (first_run (drop start ps))
run_from ps start p qs inside more =
    let left = length-drop start ps in
    let le = first_run_within (drop start ps) in
    record {
      some = subst (λ (rs : List Placed). 1 ≤ first_run rs) (sym more) (omega arith);
      within = omega arith;
      first = subst (λ (rs : List Placed). grouped rs ≡ first_of p rs (first_run rs) ∷ grouped (drop (first_run rs) rs)) (sym more) (first_is p qs)
          ∙ ap (λ (rs : List Placed). first_of p (drop start ps) (first_run (drop start ps)) ∷ grouped rs) (drop-drop (first_run (drop start ps)) start ps);
    }

pub run_at : (ps : List Placed) (start : ℕ) (p : Placed) → start < length ps → p ≡ get_or ps start p → IsRun ps start p (first_run (drop start ps))
run_at ps start p inside at = run_from ps start p (drop (start + 1) ps) inside (drop_more ps start p inside ∙ ap (λ z. z ∷ drop (start + 1) ps) (sym at))

pub some_run : (ps : List Placed) (start : ℕ) → start < length ps → (p : Placed) × IsRun ps start p (first_run (drop start ps))
some_run ps start inside = go (drop start ps) refl
  where
    go : (rs : List Placed) → drop start ps ≡ rs → (p : Placed) × IsRun ps start p (first_run (drop start ps))
    go [] none = absurd (let left = length-drop start ps in let e = ap length none in omega arith)
    go (p ∷ qs) more = (p, run_from ps start p qs inside more)

-- the end of a run, dot by dot
pub run_starts : (ps : List Placed) (start : ℕ) (p : Placed) → start < length ps → p ≡ get_or ps start p → first_run (drop start ps) ≡ run p.element (drop start ps)
run_starts ps start p inside at =
    let more : drop start ps ≡ p ∷ drop (start + 1) ps = drop_more ps start p inside ∙ ap (λ z. z ∷ drop (start + 1) ps) (sym at) in
    ap first_run more ∙ ap (λ b. cond b (suc (run p.element (drop (start + 1) ps))) 0) (sym (texts_eq p.element)) ∙ sym (ap (run p.element) more)

run_at_next : (e : Text) (ps : List Placed) (place : ℕ) (q : Placed) → place < length ps → q ≡ get_or ps place q → run e (drop place ps) ≡ cond (bytes_eq e q.element) (suc (run e (drop (place + 1) ps))) 0
run_at_next e ps place q inside at = ap (run e) (drop_more ps place q inside ∙ ap (λ z. z ∷ drop (place + 1) ps) (sym at))

pub run_goes_on : (e : Text) (ps : List Placed) (place total : ℕ) (q : Placed) → place < length ps → q ≡ get_or ps place q → bytes_eq e q.element ≡ true → place + run e (drop place ps) ≡ total → (place + 1) + run e (drop (place + 1) ps) ≡ total
run_goes_on e ps place total q inside at same so_far =
    let next : run e (drop place ps) ≡ suc (run e (drop (place + 1) ps)) = run_at_next e ps place q inside at ∙ ap (λ b. cond b (suc (run e (drop (place + 1) ps))) 0) same in
    omega arith

pub run_stops : (e : Text) (ps : List Placed) (place total : ℕ) (q : Placed) → place < length ps → q ≡ get_or ps place q → bytes_eq e q.element ≡ false → place + run e (drop place ps) ≡ total → place ≡ total
run_stops e ps place total q inside at differs so_far =
    let next : run e (drop place ps) ≡ 0 = run_at_next e ps place q inside at ∙ ap (λ b. cond b (suc (run e (drop (place + 1) ps))) 0) differs in
    omega arith

pub run_ends : (e : Text) (ps : List Placed) (place total : ℕ) → length ps ≤ place → place ≤ length ps → place + run e (drop place ps) ≡ total → length ps ≡ total
run_ends e ps place total past within so_far =
    let none : run e (drop place ps) ≡ 0 = ap (run e) (drop_all place ps past) in
    omega arith

pub run_bounds : (ps : List Placed) (start end : ℕ) → start < length ps → end ≡ start + first_run (drop start ps) → (start < end) × (end ≤ length ps)
run_bounds ps start end inside is =
    let found = some_run ps start inside in
    let some = found.1.some in
    let within = found.1.within in
    (omega arith, omega arith)

pub one_run_more : (ps : List Placed) (start end count total : ℕ) → start < length ps → end ≡ start + first_run (drop start ps) → (count + length (grouped (drop start ps)) ≡ total) → count ≤ start
    → ((count + 1) + length (grouped (drop end ps)) ≡ total) × (end ≤ length ps) × (count + 1 ≤ end)
one_run_more ps start end count total inside is so_far le =
    let found = some_run ps start inside in
    let some = found.1.some in
    let within = found.1.within in
    let one : length (grouped (drop start ps)) ≡ suc (length (grouped (drop end ps))) = ap length found.1.first ∙ ap (λ k. suc (length (grouped (drop k ps)))) (sym is) in
    (omega arith, omega arith, omega arith)

-- THE SPELLING, ELEMENT BY ELEMENT

pub spelled_more : (ps : List Placed) (start end : ℕ) (p : Placed) (bytes more whole : List ℕ) → start < length ps → p ≡ get_or ps start p → end ≡ start + first_run (drop start ps)
    → more ≡ bytes ++ element_spelled (first_of p (drop start ps) (end - start)) → bytes ++ flat_map element_spelled (grouped (drop start ps)) ≡ whole
    → (more ++ flat_map element_spelled (grouped (drop end ps)) ≡ whole) × (end ≤ length ps)
spelled_more ps start end p bytes more whole inside at is new so_far =
    let found = run_at ps start p inside at in
    let n : ℕ = first_run (drop start ps) in
    let within = found.within in
    let long : end - start ≡ n = omega arith in
    let x : Element = first_of p (drop start ps) n in
    let rest : List ℕ = flat_map element_spelled (grouped (drop (start + n) ps)) in (
      ap (λ (t : List ℕ). t ++ flat_map element_spelled (grouped (drop end ps))) (new ∙ ap (λ k. bytes ++ element_spelled (first_of p (drop start ps) k)) long)
          ∙ ap (λ k. (bytes ++ element_spelled x) ++ flat_map element_spelled (grouped (drop k ps))) is
          ∙ append_assoc bytes (element_spelled x) rest ∙ ap (λ (xs : List Element). bytes ++ flat_map element_spelled xs) (sym found.first) ∙ so_far,
      omega arith,
    )

-- THE SAME DOTS

same_placed : (e text : Text) → e ≡ text → (ds : List Dot) → map (λ d. at_dot d e) ds ≡ map (λ d. at_dot d text) ds
same_placed e text same ds = ap (λ (t : Text). map (λ d. at_dot d t) ds) same

placed_with : (p : Placed) (xs : List Element) → flat_map placed_of (with_dot p xs) ≡ p ∷ flat_map placed_of xs
placed_with p [] = refl
placed_with p (x ∷ xs) = go (bytes_eq p.element x.text) refl
  where
    go : (b : Bool) → bytes_eq p.element x.text ≡ b
        → flat_map placed_of (cond b (record { text = p.element; dots = dot_at p ∷ x.dots } ∷ xs) (record { text = p.element; dots = dot_at p ∷ [] } ∷ x ∷ xs)) ≡ p ∷ flat_map placed_of (x ∷ xs)
    go true is = ap (λ (qs : List Placed). p ∷ (qs ++ flat_map placed_of xs)) (same_placed p.element x.text (eq_texts p.element x.text is) x.dots)
    go false is = refl

pub placed_grouped : (ps : List Placed) → flat_map placed_of (grouped ps) ≡ ps
placed_grouped [] = refl
placed_grouped (p ∷ ps) = placed_with p (grouped ps) ∙ ap (λ (qs : List Placed). p ∷ qs) (placed_grouped ps)

-- THEY ARE ELEMENTS

-- dots of one element that follow each other
parts_of : (p q : Placed) → p.element ≡ q.element → placed_order p q ≡ Less → (p.origin < q.origin) ⊎ ((p.origin ≡ q.origin) × (p.seq < q.seq))
parts_of p q same less = go (nat_cmp p.origin q.origin) refl (sym (ap (λ (r : Ordering). ordering_then r (ordering_then (nat_cmp p.origin q.origin) (nat_cmp p.seq q.seq))) tied) ∙ less)
  where
    tied : text_order p.element q.element ≡ Equal
    tied = ap (text_order p.element) (sym same) ∙ tied_itself nat_list_cmp_total p.element

    go : (r : Ordering) → nat_cmp p.origin q.origin ≡ r → ordering_then r (nat_cmp p.seq q.seq) ≡ Less → (p.origin < q.origin) ⊎ ((p.origin ≡ q.origin) × (p.seq < q.seq))
    go Less is e = inl (ranked p.origin q.origin Less (sym is))
    go Equal is e = inr (ranked p.origin q.origin Equal (sym is), ranked p.seq q.seq Less (sym e))
    go Greater is e = absurd (cc e)

-- an element of at most so many dots
record Holds (n : ℕ) (x : Element) : Type 0 where
  text : IsText x.text
  some : 1 ≤ length x.dots
  few : length x.dots ≤ n
  rising : AreRising 0 0 x.dots
  dots : AllByRecursion IsDot x.dots

-- so many at most, which rise
record AreHeld (n : ℕ) (xs : List Element) : Type 0 where
  few : length xs ≤ n
  rising : IsRising (texts_in xs)
  each : AllByRecursion (Holds n) xs

holds_more : (n : ℕ) (xs : List Element) → AllByRecursion (Holds n) xs → AllByRecursion (Holds (suc n)) xs
holds_more n [] h = tt
holds_more n (x ∷ xs) h = let few = h.0.few in (record { text = h.0.text; some = h.0.some; few = omega arith; rising = h.0.rising; dots = h.0.dots }, holds_more n xs h.1)

is_dot : (p : Placed) → IsNumbered p → IsPlaced p → IsDot (dot_at p)
is_dot p numbered is = record { origin = is.1; some = numbered.0; small = numbered.1 }

rises : (p : Placed) → IsNumbered p → (0 ≤ p.origin) × ((nat_lt 0 p.origin || nat_lt 0 p.seq) ≡ true)
rises p numbered = (let some = numbered.0 in (omega arith, or_right _ _ (lt-ltb 0 p.seq (omega arith))))

one_more : (n : ℕ) (p q : Placed) (ds : List Dot) (xs : List Element) → IsNumbered p → IsPlaced p → placed_order p q ≡ Less → AreHeld n (record { text = q.element; dots = dot_at q ∷ ds } ∷ xs)
    → AreHeld (suc n) (with_dot p (record { text = q.element; dots = dot_at q ∷ ds } ∷ xs))
one_more n p q ds xs numbered is less h = go (bytes_eq p.element q.element) refl
  where
    go : (b : Bool) → bytes_eq p.element q.element ≡ b
        → AreHeld (suc n) (cond b (record { text = p.element; dots = dot_at p ∷ dot_at q ∷ ds } ∷ xs) (record { text = p.element; dots = dot_at p ∷ [] } ∷ record { text = q.element; dots = dot_at q ∷ ds } ∷ xs))
    go true e =
        let same : p.element ≡ q.element = eq_texts p.element q.element e in
        let after = of_parts p.origin p.seq (dot_at q) (parts_of p q same less) in
        let start = rises p numbered in
        let few = h.few in
        let long = h.each.0.few in
        record {
          few = omega arith;
          rising = (subst (λ (t : Text). IsBelowAll t (texts_in xs)) (sym same) h.rising.0, h.rising.1);
          each = (record { text = is.0; some = omega arith; few = omega arith; rising = (start.0, start.1, (after.0, after.1, h.each.0.rising.2)); dots = (is_dot p numbered is, h.each.0.dots) }, holds_more n xs h.each.1);
        }
    go false e =
        let before : text_lt p.element q.element ≡ true = ⊎_elim
        (λ (t : text_lt p.element q.element ≡ true). t)
        (λ (same : p.element ≡ q.element). absurd (both_ways _ (ap (bytes_eq p.element) (sym same) ∙ texts_eq p.element) e)) (before_upto p q less) in
        let start = rises p numbered in
        let few = h.few in
        record {
          few = omega arith;
          rising = ((before, below_all_of_less p.element q.element (texts_in xs) before h.rising.0), h.rising);
          each = (record { text = is.0; some = omega arith; few = omega arith; rising = (start.0, start.1, tt); dots = (is_dot p numbered is, tt) }, holds_more n (record { text = q.element; dots = dot_at q ∷ ds } ∷ xs) h.each);
        }

grouped_held : (ps : List Placed) → AreDots ps → AllByRecursion IsPlaced ps → AreHeld (length ps) (grouped ps)
grouped_held [] dots is = record { few = omega arith; rising = tt; each = tt }
grouped_held (p ∷ []) dots is =
    let start = rises p dots.0 in
    record {
      few = omega arith;
      rising = (tt, tt);
      each = (record { text = is.0.0; some = omega arith; few = omega arith; rising = (start.0, start.1, tt); dots = (is_dot p dots.0 is.0, tt) }, tt);
    }
grouped_held (p ∷ q ∷ ps) dots is =
    let first = first_is q ps in
    subst (AreHeld (suc (suc (length ps)))) (sym (ap (with_dot p) first))
    (one_more (suc (length ps)) p q (map dot_at (take (run q.element ps) ps)) (grouped (drop (run q.element ps) ps)) dots.0 is.0 dots.1.0 (subst (AreHeld (suc (length ps))) first (grouped_held (q ∷ ps) dots.2 is.1)))

each_element : (n : ℕ) (xs : List Element) → n < 2 ^ 64 → AllByRecursion (Holds n) xs → AllByRecursion IsElement xs
each_element n [] l h = tt
each_element n (x ∷ xs) l h = let few = h.0.few in (record { text = h.0.text; some = h.0.some; few = omega arith; rising = h.0.rising; dots = h.0.dots }, each_element n xs l h.1)

pub grouped_elements : (ps : List Placed) → AreDots ps → All IsPlaced ps → length ps < 2 ^ 64 → AreElements (grouped ps)
grouped_elements ps dots is l =
    let h = grouped_held ps dots (recursion_from_All IsPlaced ps is) in
    let few = h.few in
    record { few = omega arith; rising = h.rising; each = each_element (length ps) (grouped ps) l h.each }

-- ELEMENTS AT THEIR DOTS

before_append : (p : Placed) (xs ys : List Placed) → IsBeforeAll p xs → IsBeforeAll p ys → IsBeforeAll p (xs ++ ys)
before_append p [] ys g h = h
before_append p (x ∷ xs) ys g h = (g.0, before_append p xs ys g.1 h)

before_element : (p : Placed) (e : Text) (ds : List Dot) → text_lt p.element e ≡ true → IsBeforeAll p (map (λ d. at_dot d e) ds)
before_element p e [] less = tt
before_element p e (d ∷ ds) less = (ap (λ (r : Ordering). ordering_then r (ordering_then (nat_cmp p.origin d.origin) (nat_cmp p.seq d.seq))) (less_order p.element e less), before_element p e ds less)

before_elements : (p : Placed) (xs : List Element) → IsBelowAll p.element (texts_in xs) → IsBeforeAll p (flat_map placed_of xs)
before_elements p [] below = tt
before_elements p (x ∷ xs) below = before_append p (placed_of x) (flat_map placed_of xs) (before_element p x.text x.dots below.0) (before_elements p xs below.1)

less_by : (e : Text) (d c : Dot) → (d.origin < c.origin) ⊎ ((d.origin ≡ c.origin) × (d.seq < c.seq)) → placed_order (at_dot d e) (at_dot c e) ≡ Less
less_by e d c parts = ap (λ (r : Ordering). ordering_then r (ordering_then (nat_cmp d.origin c.origin) (nat_cmp d.seq c.seq))) (tied_itself nat_list_cmp_total e) ∙ go parts
  where
    go : (d.origin < c.origin) ⊎ ((d.origin ≡ c.origin) × (d.seq < c.seq)) → ordering_then (nat_cmp d.origin c.origin) (nat_cmp d.seq c.seq) ≡ Less
    go (inl less) = ap (λ (r : Ordering). ordering_then r (nat_cmp d.seq c.seq)) (sym (nat_cmp_is d.origin c.origin Less less))
    go (inr both) = ap (λ (r : Ordering). ordering_then r (nat_cmp d.seq c.seq)) (sym (nat_cmp_is d.origin c.origin Equal both.0)) ∙ sym (nat_cmp_is d.seq c.seq Less both.1)

placed_dots : (e : Text) (origin seq : ℕ) (ds : List Dot) (later : List Placed) → AreRising origin seq ds → AllByRecursion IsDot ds → AreDots later → ((d : Dot) → IsBeforeAll (at_dot d e) later) → AreDots (map (λ d. at_dot d e) ds ++ later)
placed_dots e origin seq [] later rising dots h before = h
placed_dots e origin seq (d ∷ []) later rising dots h before = ((dots.0.some, dots.0.small), before d, h)
placed_dots e origin seq (d ∷ c ∷ ds) later rising dots h before =
    let rest = placed_dots e d.origin d.seq (c ∷ ds) later rising.2 dots.1 h before in
    let less = less_by e d c (by_parts d.origin d.seq c (rising.2.0, rising.2.1)) in
    ((dots.0.some, dots.0.small), (less, before_all (at_dot d e) (at_dot c e) (map (λ d. at_dot d e) ds ++ later) less rest.1), rest)

elements_placed : (xs : List Element) → IsRising (texts_in xs) → AllByRecursion IsElement xs → AreDots (flat_map placed_of xs)
elements_placed [] rising each = tt
elements_placed (x ∷ xs) rising each =
    placed_dots x.text 0 0 x.dots (flat_map placed_of xs) each.0.rising each.0.dots (elements_placed xs rising.1 each.1) (λ d. before_elements (at_dot d x.text) xs rising.0)

pub dots_of_elements : (xs : List Element) → AreElements xs → AreDots (flat_map placed_of xs)
dots_of_elements xs is = elements_placed xs is.rising is.each

-- THE SET OF DOTS

pub sound_set : (ps : List Placed) (state : Dots) → set_of ps ≡ state → AreDots ps → All IsPlaced ps → length ps < 2 ^ 64 → IsSoundSet state
sound_set ps state view dots is l = record { elements = grouped ps; sound = grouped_elements ps dots is l; same = sym view ∙ ap set_of (sym (placed_grouped ps)) }

pub set_spelled_is : (ps : List Placed) (state : Dots) → set_of ps ≡ state → AreDots ps → All IsPlaced ps → length ps < 2 ^ 64 → elements_spelled (grouped ps) ≡ set_spelled state
set_spelled_is ps state view dots is l =
    ap elements_spelled (sym (ap elements_of (sym view ∙ ap set_of (sym (placed_grouped ps))) ∙ elements_back (grouped ps) (grouped_elements ps dots is l)))
