-- The elements of a list of dots, in byte order.
use Rattle.std.proofs.Common.{◌≡◌, ℕ, suc, ◌+◌, ◌<◌, ◌≤◌, ◌⊎◌, inl, inr, List, [], ◌∷◌, ◌++◌, length, take, drop, get_or, Bool, true, false, cond, not, ◌||◌, refl, ap, sym, ◌∙◌, subst, arith, fold, if◌then◌else◌}
use Rattle.std.specs.Str.{bytes_eq}
use Rattle.std.specs.Ordering.{nat_cmp, ordering_then}
use Rattle.std.specs.declared.cmp.Ordering.{Ordering}
use Rattle.std.specs.declared.cmp.Ordering.TheVariants.{Less, Equal, Greater}
use Rattle.std.specs.Cmp.Lexicographic.{nat_list_eq_equiv}
use Rattle.std.proofs.lemmas.List.{drop_more, take_more, take-append-drop, append-nil, map-append, length_push, length-map, get_or_default}
use Rattle.std.proofs.lemmas.Bool.{or_right, or_parts}
use mathlib.Core.Bool.{or-false}
use Rattle.model_history.specs.Texts.{Text, text_lt, with_text, text_set, contains_text}
use Rattle.base_bytes.specs.TextOrder.{text_order, IsBelowAll, IsRising}
use Rattle.base_bytes.proofs.TextLaws.{order_less, order_equal, lt_trans, lt_never, eq_texts, texts_eq}
use Rattle.data_growing.specs.TextSetLaws.{contains_append, contains_set, rising_set, is_set}
use Rattle.data_orset.specs.Placing.{Placed, placed_order, IsBeforeAll, AreDots}
use Rattle.data_orset.specs.Keeping.{texts_of, IsFirstOf}

-- HOW ELEMENTS FOLLOW EACH OTHER

-- an element comes before another, or is the same
abbrev pub IsUpto : Text → Text → Type 0
IsUpto x y = (text_lt x y ≡ true) ⊎ (x ≡ y)

upto_of : (x y : Text) (rest : Ordering) (o : Ordering) → text_order x y ≡ o → ordering_then o rest ≡ Less → IsUpto x y
upto_of x y rest Less e h = inl (order_less x y e)
upto_of x y rest Equal e h = inr (order_equal x y e)
upto_of x y rest Greater e h = absurd (cc h)

pub before_upto : (p q : Placed) → placed_order p q ≡ Less → IsUpto p.element q.element
before_upto p q h = upto_of p.element q.element (ordering_then (nat_cmp p.origin q.origin) (nat_cmp p.seq q.seq)) (text_order p.element q.element) refl h

pub lt_upto : (x y z : Text) → text_lt x y ≡ true → IsUpto y z → text_lt x z ≡ true
lt_upto x y z less (inl more) = lt_trans x y z less more
lt_upto x y z less (inr same) = subst (λ w. text_lt x w ≡ true) same less

-- what lies between an element and itself is it
squeezed : (x y z : Text) → IsUpto x y → IsUpto y z → x ≡ z → y ≡ z
squeezed x y z p (inr same) e = same
squeezed x y z (inr same) (inl less) e = sym same ∙ e
squeezed x y z (inl before) (inl less) e = absurd (let f = sym (lt_trans x y z before less) ∙ ap (λ w. text_lt w z) e ∙ lt_never z in cc f)

before_in : (p q : Placed) (front rest : List Placed) → IsBeforeAll p (front ++ q ∷ rest) → placed_order p q ≡ Less
before_in p q [] rest h = h.0
before_in p q (r ∷ front) rest h = before_in p q front rest h.1

dots_end : (front rest : List Placed) → AreDots (front ++ rest) → AreDots rest
dots_end [] rest h = h
dots_end (p ∷ front) rest h = dots_end front rest h.2

-- THE FIRST DOT OF AN ELEMENT

or_kept : (a b : Bool) → (a ≡ true → b ≡ true) → (a || b) ≡ b
or_kept true b e = sym (e refl)
or_kept false b e = refl

-- the element of the dot that follows is among the elements so far where the last dot has it
last_has : (front rest : List Placed) (q p : Placed) → AreDots (front ++ q ∷ p ∷ rest) → contains_text (texts_of (front ++ q ∷ [])) p.element ≡ bytes_eq p.element q.element
last_has [] rest q p h = or-false (bytes_eq p.element q.element)
last_has (r ∷ front) rest q p h =
    ap (λ b. bytes_eq p.element r.element || b) (last_has front rest q p h.2) ∙ or_kept (bytes_eq p.element r.element) (bytes_eq p.element q.element) (λ e.
    let after = dots_end front (q ∷ p ∷ rest) h.2 in
    let same = squeezed r.element q.element p.element (before_upto r q (before_in r q front (p ∷ rest) h.1)) (before_upto q p after.1.0) (sym (eq_texts p.element r.element e)) in
    ap (λ z. bytes_eq p.element z) same ∙ texts_eq p.element)

-- a list at two of its dots that follow each other
pub opened : (ps : List Placed) (i : ℕ) (p : Placed) → i < length ps → p ≡ get_or ps i p → ps ≡ take i ps ++ p ∷ drop (i + 1) ps
opened ps i p inside at = sym (take-append-drop i ps) ∙ ap (λ rest. take i ps ++ rest) (drop_more ps i p inside ∙ ap (λ z. z ∷ drop (i + 1) ps) (sym at))

pub taken : (ps : List Placed) (i : ℕ) (p : Placed) → i < length ps → p ≡ get_or ps i p → take (i + 1) ps ≡ take i ps ++ p ∷ []
taken ps i p inside at = take_more ps i p inside ∙ ap (λ z. take i ps ++ z ∷ []) (sym at)

pub first_after : (ps : List Placed) (i j : ℕ) (q p : Placed) (differs : Bool) → AreDots ps → j ≡ i + 1 → j < length ps → q ≡ get_or ps i q → p ≡ get_or ps j p → differs ≡ not (bytes_eq q.element p.element) → IsFirstOf ps j differs
first_after ps i j q p differs h next inside at there is r here =
    let same : r ≡ p = here ∙ get_or_default ps j r p inside ∙ sym there in
    let front : take j ps ≡ take i ps ++ q ∷ [] = ap (λ n. take n ps) next ∙ taken ps i q (omega arith) at in
    let whole : ps ≡ take i ps ++ q ∷ p ∷ drop (j + 1) ps = opened ps i q (omega arith) at ∙ ap (λ rest. take i ps ++ q ∷ rest) (ap (λ n. drop n ps) (sym next) ∙ drop_more ps j p inside ∙ ap (λ z. z ∷ drop (j + 1) ps) (sym there)) in
    let told = last_has (take i ps) (drop (j + 1) ps) q p (subst AreDots whole h) in
    is ∙ ap not (turned q.element p.element ∙ sym told ∙ ap (λ xs. contains_text (texts_of xs) p.element) (sym front) ∙ ap (λ (z : Placed). contains_text (texts_of (take j ps)) z.element) (sym same))
  where
    turned : (x y : Text) → bytes_eq x y ≡ bytes_eq y x
    turned x y = nat_list_eq_equiv.symm x y

-- ONE MORE ELEMENT

below_push : (x e : Text) (xs : List Text) → IsBelowAll x xs → text_lt x e ≡ true → IsBelowAll x (xs ++ e ∷ [])
below_push x e [] h less = (less, tt)
below_push x e (y ∷ xs) h less = (h.0, below_push x e xs h.1 less)

rising_push : (xs : List Text) (e : Text) → IsRising xs → ((x : Text) → contains_text xs x ≡ true → text_lt x e ≡ true) → IsRising (xs ++ e ∷ [])
rising_push [] e h less = (tt, tt)
rising_push (x ∷ xs) e h less =
    (below_push x e xs h.0 (less x (ap (λ b. b || contains_text xs x) (texts_eq x))), rising_push xs e h.1 (λ y there. less y (or_right (bytes_eq y x) (contains_text xs y) there)))

-- the elements so far come before one that isn't among them
below_next : (front rest : List Placed) (p : Placed) → AreDots (front ++ p ∷ rest) → contains_text (texts_of front) p.element ≡ false → (x : Text) → contains_text (texts_of front) x ≡ true → text_lt x p.element ≡ true
below_next [] rest p h absent x there = absurd (cc there)
below_next (r ∷ front) rest p h absent x there =
    go (or_parts (bytes_eq p.element r.element) (contains_text (texts_of front) p.element) absent) (bytes_eq x r.element) refl (below_next front rest p h.2 (or_parts (bytes_eq p.element r.element) (contains_text (texts_of front) p.element) absent).1 x)
  where
    upto_less : (y z : Text) → IsUpto y z → bytes_eq z y ≡ false → text_lt y z ≡ true
    upto_less y z (inl less) differs = less
    upto_less y z (inr same) differs = absurd (let f = sym (ap (λ w. bytes_eq z w) same ∙ texts_eq z) ∙ differs in cc f)

    go : (bytes_eq p.element r.element ≡ false) × (contains_text (texts_of front) p.element ≡ false) → (b : Bool) → bytes_eq x r.element ≡ b → (contains_text (texts_of front) x ≡ true → text_lt x p.element ≡ true) → text_lt x p.element ≡ true
    go away true is later = subst (λ z. text_lt z p.element ≡ true) (sym (eq_texts x r.element is)) (upto_less r.element p.element (before_upto r p (before_in r p front rest h.1)) away.0)
    go away false is later = later (sym (ap (λ b. b || contains_text (texts_of front) x) is) ∙ there)

more_has : (xs : List Text) (e x : Text) → contains_text (xs ++ e ∷ []) x ≡ (contains_text xs x || bytes_eq x e)
more_has xs e x = contains_append xs (e ∷ []) x ∙ ap (λ b. contains_text xs x || b) (or-false (bytes_eq x e))

set_more : (xs : List Text) (e : Text) (new : Bool) → new ≡ not (contains_text xs e) → ((x : Text) → contains_text xs e ≡ false → contains_text xs x ≡ true → text_lt x e ≡ true)
    → text_set (xs ++ e ∷ []) ≡ text_set xs ++ (if new then e ∷ [] else [])
set_more xs e new is below = go new (contains_text xs e) refl is
  where
    same_bit : (x : Text) → contains_text xs e ≡ true → contains_text xs x ≡ (contains_text xs x || bytes_eq x e)
    same_bit x there = among (bytes_eq x e) refl
      where
        or_is : (a b : Bool) → (b ≡ true → a ≡ true) → a ≡ (a || b)
        or_is true b f = refl
        or_is false true f = f refl
        or_is false false f = refl

        among : (b : Bool) → bytes_eq x e ≡ b → contains_text xs x ≡ (contains_text xs x || bytes_eq x e)
        among b eq = or_is (contains_text xs x) (bytes_eq x e) (λ same. ap (contains_text xs) (eq_texts x e same) ∙ there)

    go : (new b : Bool) → contains_text xs e ≡ b → new ≡ not (contains_text xs e) → text_set (xs ++ e ∷ []) ≡ text_set xs ++ (if new then e ∷ [] else [])
    go true true there told = absurd (let f = told ∙ ap not there in cc f)
    go true false away told = sym (is_set (text_set xs ++ e ∷ []) (xs ++ e ∷ []) (rising_push (text_set xs) e (rising_set xs) (λ x in_set. below x away (sym (contains_set xs x) ∙ in_set)))
        (λ x. more_has (text_set xs) e x ∙ ap (λ b. b || bytes_eq x e) (contains_set xs x) ∙ sym (more_has xs e x)))
    go false true there told = sym (append-nil (text_set xs) ∙ is_set (text_set xs) (xs ++ e ∷ []) (rising_set xs) (λ x. contains_set xs x ∙ same_bit x there ∙ sym (more_has xs e x)))
    go false false away told = absurd (let f = told ∙ ap not away in cc f)

-- the elements up to a dot, with its own where it is new
pub elements_more : (ps : List Placed) (i : ℕ) (p : Placed) (new : Bool) → AreDots ps → i < length ps → p ≡ get_or ps i p → IsFirstOf ps i new
    → text_set (texts_of (take (i + 1) ps)) ≡ text_set (texts_of (take i ps)) ++ (if new then p.element ∷ [] else [])
elements_more ps i p new h inside at first =
    ap (λ xs. text_set (texts_of xs)) (taken ps i p inside at) ∙ ap text_set (map-append (λ (q : Placed). q.element) (take i ps) (p ∷ []))
    ∙ set_more (texts_of (take i ps)) p.element new (first p at) (λ x away there. below_next (take i ps) (drop (i + 1) ps) p (subst AreDots (opened ps i p inside at) h) away x there)

pub count_more : (ps : List Placed) (i : ℕ) (p : Placed) (new : Bool) → AreDots ps → i < length ps → p ≡ get_or ps i p → IsFirstOf ps i new
    → length (text_set (texts_of (take (i + 1) ps))) ≡ length (text_set (texts_of (take i ps))) + cond new 1 0
count_more ps i p new h inside at first = ap length (elements_more ps i p new h inside at first) ∙ go new
  where
    go : (b : Bool) → length (text_set (texts_of (take i ps)) ++ (if b then p.element ∷ [] else [])) ≡ length (text_set (texts_of (take i ps))) + cond b 1 0
    go true = length_push (text_set (texts_of (take i ps))) p.element
    go false = ap length (append-nil (text_set (texts_of (take i ps)))) ∙ omega arith

-- no more elements than dots
length_with : (xs : List Text) (x : Text) → length (with_text xs x) ≤ suc (length xs)
length_with [] x = omega arith
length_with (y ∷ ys) x = go (bytes_eq x y) (text_lt x y) (length_with ys x)
  where
    go : (same less : Bool) → length (with_text ys x) ≤ suc (length ys) → length (if same then y ∷ ys else (if less then x ∷ y ∷ ys else y ∷ with_text ys x)) ≤ suc (suc (length ys))
    go true less later = omega arith
    go false true later = omega arith
    go false false later = omega arith

length_all : (base xs : List Text) → length (fold with_text base xs) ≤ length base + length xs
length_all base [] = omega arith
length_all base (x ∷ xs) = let one = length_with base x in let rest = length_all (with_text base x) xs in omega arith

pub no_more_elements : (ps : List Placed) → length (text_set (texts_of ps)) ≤ length ps
no_more_elements ps = let few = length_all [] (texts_of ps) in let long = length-map ps (λ (p : Placed). p.element) in omega arith
