-- Rising lists of texts: they are determined by what they have, and a set of texts is one.
use Rattle.std.proofs.Common.{◌≡◌, List, [], ◌∷◌, ◌++◌, ◌⊎◌, Bool, true, false, ◌||◌, refl, ap, sym, ◌∙◌, subst, ⊎_elim}
use Rattle.std.specs.Prelude.{fold, if◌then◌else◌}
use Rattle.std.specs.Str.{bytes_eq}
use mathlib.Core.Bool.{or_comm, or-false}
use Rattle.model_history.specs.Texts.{Text, text_lt, with_text, text_set, contains_text}
use Rattle.data_growing.specs.Bits.{or_again, or_third}
use Rattle.base_bytes.specs.TextOrder.{IsBelowAll, IsRising}
use Rattle.base_bytes.proofs.TextLaws.{lt_trans, lt_or_same, eq_texts, texts_eq, lt_differ}

-- WHAT A TEXT COMES BEFORE

pub below_all_of_less : (x y : Text) (ys : List Text) → text_lt x y ≡ true → IsBelowAll y ys → IsBelowAll x ys
below_all_of_less x y [] p h = tt
below_all_of_less x y (z ∷ zs) p h = (lt_trans x y z p h.0, below_all_of_less x y zs p h.1)

pub absent_below : (x : Text) (ys : List Text) → IsBelowAll x ys → contains_text ys x ≡ false
absent_below x [] h = refl
absent_below x (y ∷ ys) h = ap (λ b. b || contains_text ys x) (lt_differ x y h.0) ∙ absent_below x ys h.1

-- a text before the first isn't in a rising list
pub absent_before : (x y : Text) (ys : List Text) → text_lt x y ≡ true → IsRising (y ∷ ys) → contains_text (y ∷ ys) x ≡ false
absent_before x y ys p h = absent_below x (y ∷ ys) (p, below_all_of_less x y ys p h.0)

pub contains_append : (xs ys : List Text) (e : Text) → contains_text (xs ++ ys) e ≡ (contains_text xs e || contains_text ys e)
contains_append [] ys e = refl
contains_append (x ∷ xs) ys e = ap (λ b. bytes_eq e x || b) (contains_append xs ys e) ∙ or_third (bytes_eq e x) (contains_text xs e) (contains_text ys e)

-- A RISING LIST IS DETERMINED BY WHAT IT HAS

first_same : (x y : Text) (xs ys : List Text) → IsRising (x ∷ xs) → IsRising (y ∷ ys) → ((e : Text) → contains_text (x ∷ xs) e ≡ contains_text (y ∷ ys) e) → x ≡ y
first_same x y xs ys p q same = ⊎_elim
    (λ (less : text_lt x y ≡ true). absurd (
    let here : contains_text (x ∷ xs) x ≡ true = ap (λ b. b || contains_text xs x) (texts_eq x) in
    let away = absent_before x y ys less q in
    let e = sym here ∙ same x ∙ away in cc e))
    (λ (rest : (x ≡ y) ⊎ (text_lt y x ≡ true)). ⊎_elim
    (λ (is : x ≡ y). is)
    (λ (more : text_lt y x ≡ true). absurd (
    let here : contains_text (y ∷ ys) y ≡ true = ap (λ b. b || contains_text ys y) (texts_eq y) in
    let away = absent_before y x xs more p in
    let e = sym here ∙ sym (same y) ∙ away in cc e)) rest) (lt_or_same x y)

rest_same : (x : Text) (xs ys : List Text) → IsBelowAll x xs → IsBelowAll x ys → ((e : Text) → contains_text (x ∷ xs) e ≡ contains_text (x ∷ ys) e) → (e : Text) → contains_text xs e ≡ contains_text ys e
rest_same x xs ys p q same e = go (bytes_eq e x) refl
  where
    go : (b : Bool) → bytes_eq e x ≡ b → contains_text xs e ≡ contains_text ys e
    go true is = let here = eq_texts e x is in ap (contains_text xs) here ∙ absent_below x xs p ∙ sym (absent_below x ys q) ∙ ap (contains_text ys) (sym here)
    go false is = ap (λ b. b || contains_text xs e) (sym is) ∙ same e ∙ ap (λ b. b || contains_text ys e) is

pub same_texts : (xs ys : List Text) → IsRising xs → IsRising ys → ((e : Text) → contains_text xs e ≡ contains_text ys e) → xs ≡ ys
same_texts [] [] p q same = refl
same_texts [] (y ∷ ys) p q same = absurd (let e = same y ∙ ap (λ b. b || contains_text ys y) (texts_eq y) in cc e)
same_texts (x ∷ xs) [] p q same = absurd (let e = sym (same x) ∙ ap (λ b. b || contains_text xs x) (texts_eq x) in cc e)
same_texts (x ∷ xs) (y ∷ ys) p q same =
    let first = first_same x y xs ys p q same in
    let q' : IsBelowAll x ys = subst (λ z. IsBelowAll z ys) (sym first) q.0 in
    let rest = same_texts xs ys p.1 q.1 (rest_same x xs ys p.0 q' (λ e. same e ∙ ap (λ z. contains_text (z ∷ ys) e) (sym first))) in
    λ i. first i ∷ rest i

-- A SET OF TEXTS

contains_with : (xs : List Text) (x e : Text) → contains_text (with_text xs x) e ≡ (contains_text xs e || bytes_eq e x)
contains_with [] x e = or-false (bytes_eq e x)
contains_with (y ∷ ys) x e = go (bytes_eq x y) refl (text_lt x y) (contains_with ys x e)
  where
    go : (same : Bool) → bytes_eq x y ≡ same → (less : Bool) → contains_text (with_text ys x) e ≡ (contains_text ys e || bytes_eq e x)
        → contains_text (if same then y ∷ ys else (if less then x ∷ y ∷ ys else y ∷ with_text ys x)) e ≡ (contains_text (y ∷ ys) e || bytes_eq e x)
    go true is less later = or_again (bytes_eq e y) (contains_text ys e) ∙ ap (λ z. (bytes_eq e y || contains_text ys e) || bytes_eq e z) (sym (eq_texts x y is))
    go false is true later = or_comm (bytes_eq e x) (contains_text (y ∷ ys) e)
    go false is false later = ap (λ b. bytes_eq e y || b) later ∙ or_third (bytes_eq e y) (contains_text ys e) (bytes_eq e x)

pub below_with : (w : Text) (xs : List Text) (x : Text) → text_lt w x ≡ true → IsBelowAll w xs → IsBelowAll w (with_text xs x)
below_with w [] x p h = (p, tt)
below_with w (y ∷ ys) x p h = go (bytes_eq x y) (text_lt x y) (below_with w ys x p h.1)
  where
    go : (same less : Bool) → IsBelowAll w (with_text ys x) → IsBelowAll w (if same then y ∷ ys else (if less then x ∷ y ∷ ys else y ∷ with_text ys x))
    go true less later = h
    go false true later = (p, h)
    go false false later = (h.0, later)

rising_with : (xs : List Text) (x : Text) → IsRising xs → IsRising (with_text xs x)
rising_with [] x h = (tt, tt)
rising_with (y ∷ ys) x h = go (bytes_eq x y) refl (text_lt x y) refl (rising_with ys x h.1)
  where
    go : (same : Bool) → bytes_eq x y ≡ same → (less : Bool) → text_lt x y ≡ less → IsRising (with_text ys x) → IsRising (if same then y ∷ ys else (if less then x ∷ y ∷ ys else y ∷ with_text ys x))
    go true is less before later = h
    go false is true before later = ((before, below_all_of_less x y ys before h.0), h)
    go false is false before later = (
      below_with y ys x (⊎_elim
          (λ (less : text_lt y x ≡ true). less)
          (λ (rest : (y ≡ x) ⊎ (text_lt x y ≡ true)). ⊎_elim
          (λ (same : y ≡ x). absurd (let e = sym (texts_eq x) ∙ ap (bytes_eq x) (sym same) ∙ is in cc e))
          (λ (more : text_lt x y ≡ true). absurd (let e = sym more ∙ before in cc e)) rest) (lt_or_same y x)) h.0,
      later,
    )

contains_all : (base xs : List Text) (e : Text) → contains_text (fold with_text base xs) e ≡ (contains_text base e || contains_text xs e)
contains_all base [] e = sym (or-false (contains_text base e))
contains_all base (x ∷ xs) e = contains_all (with_text base x) xs e ∙ ap (λ b. b || contains_text xs e) (contains_with base x e) ∙ sym (or_third (contains_text base e) (bytes_eq e x) (contains_text xs e))

rising_all : (base xs : List Text) → IsRising base → IsRising (fold with_text base xs)
rising_all base [] h = h
rising_all base (x ∷ xs) h = rising_all (with_text base x) xs (rising_with base x h)

pub contains_set : (xs : List Text) (e : Text) → contains_text (text_set xs) e ≡ contains_text xs e
contains_set xs e = contains_all [] xs e

pub rising_set : (xs : List Text) → IsRising (text_set xs)
rising_set xs = rising_all [] xs tt

-- what a set of two lists has
pub contains_both : (xs ys : List Text) (e : Text) → contains_text (text_set (xs ++ ys)) e ≡ (contains_text xs e || contains_text ys e)
contains_both xs ys e = contains_set (xs ++ ys) e ∙ contains_append xs ys e

-- a set is any rising list that has the same
pub is_set : (xs ys : List Text) → IsRising xs → ((e : Text) → contains_text xs e ≡ contains_text ys e) → xs ≡ text_set ys
is_set xs ys p same = same_texts xs (text_set ys) p (rising_set ys) (λ e. same e ∙ sym (contains_set ys e))

pub own_set : (xs : List Text) → IsRising xs → xs ≡ text_set xs
own_set xs p = is_set xs xs p (λ e. refl)

pub below_all : (w : Text) (base xs : List Text) → IsBelowAll w base → IsBelowAll w xs → IsBelowAll w (fold with_text base xs)
below_all w base [] p h = p
below_all w base (x ∷ xs) p h = below_all w (with_text base x) xs (below_with w base x h.0 p) h.1
