-- Where a text stands in a rising list of texts, or belongs.
use Rattle.std.proofs.Common.{◌≡◌, ℕ, zero, suc, ◌+◌, ◌<◌, ◌≤◌, List, [], ◌∷◌, ◌++◌, length, get_or, true, refl, ap, sym, ◌∙◌, subst, arith, ⊎_elim, ◌⊎◌, inl, inr}
use Rattle.std.specs.Ordering.{ordering_reverse}
use Rattle.std.specs.declared.cmp.Ordering.TheVariants.{Less, Equal, Greater}
use Rattle.std.specs.Cmp.Lexicographic.{nat_list_cmp_total}
use Rattle.std.specs.Str.{bytes_eq}
use Rattle.std.specs.List.{insert}
use Rattle.std.proofs.lemmas.List.Edits.{length-insert, get_or-insert_below, get_or-insert_at, get_or-insert_above}
use Rattle.std.proofs.lemmas.List.{get_or_default}
use Rattle.std.proofs.lemmas.Bool.{or_left, or_right}
use Rattle.model_history.specs.Texts.{Text, text_lt, contains_text}
use Rattle.base_bytes.specs.TextOrder.{text_order, IsBelowAll, IsRising}
use Rattle.base_bytes.proofs.TextLaws.{order_less, order_equal, order_greater, less_order, lt_trans, texts_eq}
use Rattle.data_growing.specs.Texts.{IsPlace}
use Rattle.data_growing.proofs.Merging.{IsSearched, search_start, search_less, search_greater, search_end, rising_of_set}

-- THE ORDER

pub below_at : (w : Text) (xs : List Text) (i : ℕ) → IsBelowAll w xs → i < length xs → text_lt w (get_or xs i []) ≡ true
below_at w [] i h l = absurd (omega arith)
below_at w (x ∷ xs) zero h l = h.0
below_at w (x ∷ xs) (suc i) h l = below_at w xs i h.1 (omega arith)

pub rising_at : (xs : List Text) (i j : ℕ) → IsRising xs → i < j → j < length xs → text_lt (get_or xs i []) (get_or xs j []) ≡ true
rising_at [] i j h less l = absurd (omega arith)
rising_at (x ∷ xs) i zero h less l = absurd (omega arith)
rising_at (x ∷ xs) zero (suc j) h less l = below_at x xs j h.0 (omega arith)
rising_at (x ∷ xs) (suc i) (suc j) h less l = rising_at xs i j h.1 (omega arith) (omega arith)

pub less_or_same : (i j : ℕ) → i ≤ j → (i < j) ⊎ (i ≡ j)
less_or_same zero zero h = inr refl
less_or_same zero (suc j) h = inl (omega arith)
less_or_same (suc i) zero h = absurd (omega arith)
less_or_same (suc i) (suc j) h = ⊎_elim (λ (l : i < j). inl (omega arith)) (λ (e : i ≡ j). inr (ap suc e)) (less_or_same i j (omega arith))

upto_at : (xs : List Text) (e : Text) (i j : ℕ) → IsRising xs → i ≤ j → j < length xs → text_lt (get_or xs j []) e ≡ true → text_lt (get_or xs i []) e ≡ true
upto_at xs e i j h le l less = ⊎_elim
    (λ (k : i < j). lt_trans (get_or xs i []) (get_or xs j []) e (rising_at xs i j h k l) less)
    (λ (same : i ≡ j). subst (λ k. text_lt (get_or xs k []) e ≡ true) (sym same) less) (less_or_same i j le)

from_at : (xs : List Text) (e : Text) (i j : ℕ) → IsRising xs → i ≤ j → j < length xs → text_lt e (get_or xs i []) ≡ true → text_lt e (get_or xs j []) ≡ true
from_at xs e i j h le l less = ⊎_elim
    (λ (k : i < j). lt_trans e (get_or xs i []) (get_or xs j []) less (rising_at xs i j h k l))
    (λ (same : i ≡ j). subst (λ k. text_lt e (get_or xs k []) ≡ true) same less) (less_or_same i j le)

-- WHERE A TEXT STANDS

-- the texts before one index come before the text, and those from another on after it
pub record IsBetween (texts : List Text) (e : Text) (low high : ℕ) : Type 0 where
  pub order : low ≤ high
  pub within : high ≤ length texts
  pub before : (i : ℕ) → i < low → text_lt (get_or texts i []) e ≡ true
  pub after : (i : ℕ) → high ≤ i → i < length texts → text_lt e (get_or texts i []) ≡ true

pub between_all : (texts : List Text) (e : Text) → IsBetween texts e 0 (length texts)
between_all texts e = record { order = omega arith; within = omega arith; before = λ i l. absurd (omega arith); after = λ i l m. absurd (omega arith) }

here_is : (texts : List Text) (i : ℕ) (x : Text) → i < length texts → x ≡ get_or texts i x → x ≡ get_or texts i []
here_is texts i x l at = at ∙ get_or_default texts i x [] l

pub between_less : (texts : List Text) (e x : Text) (low high middle : ℕ) → IsRising texts → low ≤ middle → middle < high → x ≡ get_or texts middle x → text_order x e ≡ Less → IsBetween texts e low high → IsBetween texts e (middle + 1) high
between_less texts e x low high middle rising le lt at less h =
    let within = h.within in record {
      order = omega arith;
      within = h.within;
      before = λ i l. upto_at texts e i middle rising (omega arith) (omega arith) (subst (λ y. text_lt y e ≡ true) (here_is texts middle x (omega arith) at) (order_less x e less));
      after = h.after;
    }

pub between_greater : (texts : List Text) (e x : Text) (low high middle : ℕ) → IsRising texts → low ≤ middle → middle < high → x ≡ get_or texts middle x → text_order x e ≡ Greater → IsBetween texts e low high → IsBetween texts e low middle
between_greater texts e x low high middle rising le lt at more h =
    let within = h.within in record {
      order = omega arith;
      within = omega arith;
      before = h.before;
      after = λ i l m. from_at texts e middle i rising l m (subst (λ y. text_lt e y ≡ true) (here_is texts middle x (omega arith) at) (order_greater x e more));
    }

pub found : (texts : List Text) (e x : Text) (i : ℕ) → i < length texts → x ≡ get_or texts i x → text_order x e ≡ Equal → (i < length texts) × (get_or texts i [] ≡ e)
found texts e x i l at same = (l, sym (here_is texts i x l at) ∙ order_equal x e same)

pub searched : (xs : List Text) (e : Text) (k : ℕ) → k ≤ length xs → ((i : ℕ) → i < k → text_lt (get_or xs i []) e ≡ true) → IsSearched xs e k
searched xs e zero l h = search_start xs e
searched xs e (suc k) l h =
    let next : k + 1 ≡ suc k = omega arith in
    subst (IsSearched xs e) next
    (search_less xs e (get_or xs k []) k (omega arith) (get_or_default xs k [] (get_or xs k []) (omega arith)) (less_order (get_or xs k []) e (h k (omega arith))) (searched xs e k (omega arith) (λ i m. h i (omega arith))))

-- it belongs between those before it and those after it
pub belongs : (xs : List Text) (e : Text) (low high : ℕ) → IsRising xs → high ≤ low → IsBetween xs e low high → IsPlace xs e low
belongs xs e low high rising le h =
    let order = h.order in
    let within = h.within in
    let so_far = searched xs e low (omega arith) h.before in
    ⊎_elim
    (λ (l : low < length xs).
    search_greater xs e (get_or xs low []) low rising l (get_or_default xs low [] (get_or xs low []) l) (greater_order (get_or xs low []) (h.after low (omega arith) l)) so_far)
    (λ (same : low ≡ length xs). search_end xs e low rising (omega arith) so_far) (less_or_same low (length xs) (omega arith))
  where
    greater_order : (x : Text) → text_lt e x ≡ true → text_order x e ≡ Greater
    greater_order x less = nat_list_cmp_total.antisymm x e ∙ ap ordering_reverse (less_order e x less)

-- after the last
pub belongs_last : (xs : List Text) (e x : Text) (i : ℕ) → IsRising xs → i + 1 ≡ length xs → x ≡ get_or xs i x → text_order x e ≡ Less → IsPlace xs e (length xs)
belongs_last xs e x i rising last at less =
    search_end xs e (length xs) rising (omega arith) (searched xs e (length xs) (omega arith) (λ j l. upto_at xs e j i rising (omega arith) (omega arith) (subst (λ y. text_lt y e ≡ true) (here_is xs i x (omega arith) at) (order_less x e less))))

pub belongs_first : (xs : List Text) (e : Text) → length xs ≡ 0 → IsRising xs → IsPlace xs e 0
belongs_first xs e none rising = search_end xs e 0 rising (omega arith) (search_start xs e)

-- a list has what stands at one of its places
pub contains_at : (xs : List Text) (i : ℕ) → i < length xs → contains_text xs (get_or xs i []) ≡ true
contains_at [] i l = absurd (omega arith)
contains_at (x ∷ xs) zero l = or_left (bytes_eq x x) (contains_text xs x) (texts_eq x)
contains_at (x ∷ xs) (suc i) l = or_right (bytes_eq (get_or xs i []) x) (contains_text xs (get_or xs i [])) (contains_at xs i (omega arith))

-- the texts before the place at which a text belongs come before it, and those from there on after it
pub before_place : (xs : List Text) (e : Text) (k p : ℕ) → IsPlace xs e k → p < k → text_lt (get_or xs p []) e ≡ true
before_place xs e k p h l =
    let within = h.within in
    let long = length-insert xs k e h.within in
    let rising = rising_of_set (insert xs k e) (xs ++ e ∷ []) h.sorted in
    ap (λ x. text_lt x e) (sym (get_or-insert_below xs k e [] p l h.within)) ∙ ap (text_lt (get_or (insert xs k e) p [])) (sym (get_or-insert_at xs k e [] h.within)) ∙ rising_at (insert xs k e) p k rising l (omega arith)

pub after_place : (xs : List Text) (e : Text) (k p : ℕ) → IsPlace xs e k → k ≤ p → p < length xs → text_lt e (get_or xs p []) ≡ true
after_place xs e k p h le l =
    let within = h.within in
    let long = length-insert xs k e h.within in
    let rising = rising_of_set (insert xs k e) (xs ++ e ∷ []) h.sorted in
    ap (text_lt e) (sym (get_or-insert_above xs k e [] p le h.within)) ∙ ap (λ x. text_lt x (get_or (insert xs k e) (p + 1) [])) (sym (get_or-insert_at xs k e [] h.within)) ∙ rising_at (insert xs k e) k (p + 1) rising (omega arith) (omega arith)
