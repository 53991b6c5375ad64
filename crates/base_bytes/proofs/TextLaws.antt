-- The order of texts.
use Rattle.std.proofs.Common.{◌≡◌, ℕ, [], ◌∷◌, ◌⊎◌, Bool, true, false, cond, refl, ap, sym, ◌∙◌, subst, arith, ⊎_elim, inl, inr}
use Rattle.std.specs.Prelude.{nat_lt, ◌==◌}
use Rattle.std.specs.declared.cmp.Ordering.{Ordering}
use Rattle.std.specs.Ordering.{is_lt, is_eq, ordering_reverse, ordering_then}
use Rattle.std.specs.declared.cmp.Ordering.TheVariants.{Less, Equal, Greater}
use Rattle.std.proofs.lemmas.Bool.{cases_Bool}
use Rattle.std.proofs.lemmas.Bool.Decides.{nat_tests}
use Rattle.std.specs.Str.{bytes_eq}
use Rattle.std.specs.Cmp.Lexicographic.{nat_list_cmp_total, nat_list_eq_equiv, same_text, texts_ties}
use Rattle.model_history.specs.Texts.{Text, text_lt}
use Rattle.base_bytes.specs.TextOrder.{text_order}

-- THE TEST AND THE ORDER

by_first : (less same below : Bool) (rest : Ordering) → (same ≡ true → less ≡ false) → below ≡ is_lt rest → (cond same below less) ≡ is_lt (ordering_then (cond less Less (cond same Equal Greater)) rest)
by_first true true below rest never e = absurd (let f = never refl in cc f)
by_first true false below rest never e = refl
by_first false true below rest never e = e
by_first false false below rest never e = refl

equal_not_less : (x y : ℕ) → (x == y) ≡ true → nat_lt x y ≡ false
equal_not_less x y e = grind (arith, nat_tests)

pub lt_is : (x y : Text) → text_lt x y ≡ is_lt (text_order x y)
lt_is [] [] = refl
lt_is [] (y ∷ ys) = refl
lt_is (x ∷ xs) [] = refl
lt_is (x ∷ xs) (y ∷ ys) = by_first (nat_lt x y) (x == y) (text_lt xs ys) (text_order xs ys) (equal_not_less x y) (lt_is xs ys)

pub less_of : (r : Ordering) → is_lt r ≡ true → r ≡ Less
less_of Less e = refl
less_of Equal e = absurd (cc e)
less_of Greater e = absurd (cc e)

pub less_order : (x y : Text) → text_lt x y ≡ true → text_order x y ≡ Less
less_order x y e = less_of (text_order x y) (sym (lt_is x y) ∙ e)

pub order_less : (x y : Text) → text_order x y ≡ Less → text_lt x y ≡ true
order_less x y e = lt_is x y ∙ ap is_lt e

pub order_greater : (x y : Text) → text_order x y ≡ Greater → text_lt y x ≡ true
order_greater x y e = order_less y x (nat_list_cmp_total.antisymm y x ∙ ap ordering_reverse e)

pub order_equal : (x y : Text) → text_order x y ≡ Equal → x ≡ y
order_equal x y e = same_text x y (sym (texts_ties x y ∙ ap is_eq e))

-- THE TEST

pub lt_trans : (x y z : Text) → text_lt x y ≡ true → text_lt y z ≡ true → text_lt x z ≡ true
lt_trans x y z p q = order_less x z (nat_list_cmp_total.trans x y z (less_order x y p) (less_order y z q))

pub lt_one_way : (x y : Text) → text_lt x y ≡ true → text_lt y x ≡ false
lt_one_way x y p = lt_is y x ∙ ap is_lt (nat_list_cmp_total.antisymm y x ∙ ap ordering_reverse (less_order x y p))

pub lt_never : (x : Text) → text_lt x x ≡ false
lt_never x = ⊎_elim (λ (t : text_lt x x ≡ true). lt_one_way x x t) (λ (f : text_lt x x ≡ false). f) (cases_Bool (text_lt x x))

-- one comes before the other, or they are the same
pub lt_or_same : (x y : Text) → (text_lt x y ≡ true) ⊎ ((x ≡ y) ⊎ (text_lt y x ≡ true))
lt_or_same x y = go (text_order x y) refl
  where
    go : (r : Ordering) → text_order x y ≡ r → (text_lt x y ≡ true) ⊎ ((x ≡ y) ⊎ (text_lt y x ≡ true))
    go Less e = inl (order_less x y e)
    go Equal e = inr (inl (order_equal x y e))
    go Greater e = inr (inr (order_greater x y e))

-- neither comes before the other
pub lt_same : (x y : Text) → text_lt x y ≡ false → text_lt y x ≡ false → x ≡ y
lt_same x y p q = ⊎_elim
    (λ (less : text_lt x y ≡ true). absurd (let e = sym less ∙ p in cc e))
    (λ (rest : (x ≡ y) ⊎ (text_lt y x ≡ true)). ⊎_elim (λ (same : x ≡ y). same) (λ (more : text_lt y x ≡ true). absurd (let e = sym more ∙ q in cc e)) rest) (lt_or_same x y)

-- what comes before z, or a text that doesn't come before y
pub lt_between : (x y z : Text) → text_lt x z ≡ true → (text_lt x y ≡ true) ⊎ (text_lt y z ≡ true)
lt_between x y z p = ⊎_elim
    (λ (less : text_lt x y ≡ true). inl less)
    (λ (rest : (x ≡ y) ⊎ (text_lt y x ≡ true)). ⊎_elim
    (λ (same : x ≡ y). inr (subst (λ w. text_lt w z ≡ true) same p))
    (λ (more : text_lt y x ≡ true). inr (lt_trans y x z more p)) rest) (lt_or_same x y)

-- EQUALITY OF TEXTS

pub eq_texts : (x y : Text) → bytes_eq x y ≡ true → x ≡ y
eq_texts x y e = same_text x y (sym e)

pub texts_eq : (x : Text) → bytes_eq x x ≡ true
texts_eq x = nat_list_eq_equiv.refl x

pub lt_differ : (x y : Text) → text_lt x y ≡ true → bytes_eq x y ≡ false
lt_differ x y p = ⊎_elim
    (λ (e : bytes_eq x y ≡ true). absurd (let f = sym p ∙ ap (λ w. text_lt w y) (eq_texts x y e) ∙ lt_never y in cc f))
    (λ (e : bytes_eq x y ≡ false). e) (cases_Bool (bytes_eq x y))

pub lt_differ_too : (x y : Text) → text_lt x y ≡ true → bytes_eq y x ≡ false
lt_differ_too x y p = ⊎_elim
    (λ (e : bytes_eq y x ≡ true). absurd (let f = sym p ∙ ap (λ w. text_lt x w) (eq_texts y x e) ∙ lt_never x in cc f))
    (λ (e : bytes_eq y x ≡ false). e) (cases_Bool (bytes_eq y x))
