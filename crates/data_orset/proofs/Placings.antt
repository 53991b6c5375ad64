-- The order of dots, and lists of dots.
use Rattle.std.proofs.Common.{◌≡◌, ℕ, zero, suc, List, [], ◌∷◌, drop, Bool, true, false, cond, ◌||◌, refl, ap, sym, ◌∙◌}
use Rattle.std.specs.List.{filter, list_any}
use Rattle.std.specs.Ordering.{nat_cmp, ordering_then, ordering_reverse}
use Rattle.std.specs.declared.cmp.Ordering.{Ordering}
use Rattle.std.specs.declared.cmp.Ordering.TheVariants.{Less, Equal, Greater}
use Rattle.std.specs.Cmp.{IsTotalOrder, nat_cmp_total, on_total, then_total, tied_itself}
use Rattle.std.specs.Cmp.Lexicographic.{slice_cmp, nat_list_cmp_total}
use Rattle.std.proofs.lemmas.Map.Lookups.{exact_bytes, exact_unsigned}
use Rattle.data_orset.specs.Placing.{Placed, placed_order, IsBeforeAll, IsNumbered, AreDots}

-- THE ORDER

pub placed_total : IsTotalOrder placed_order
placed_total =
    let element = λ (p : Placed). p.element in
    let origin = λ (p : Placed). p.origin in
    let seq = λ (p : Placed). p.seq in
    then_total (on_total element nat_list_cmp_total) (then_total (on_total origin nat_cmp_total) (on_total seq nat_cmp_total))

pub both_tied : (a b : Ordering) → ordering_then a b ≡ Equal → (a ≡ Equal) × (b ≡ Equal)
both_tied Less b e = absurd (cc e)
both_tied Equal b e = (refl, e)
both_tied Greater b e = absurd (cc e)

pub placed_same : (p q : Placed) → placed_order p q ≡ Equal → p ≡ q
placed_same p q e =
    let first = both_tied (slice_cmp nat_cmp p.element q.element) (ordering_then (nat_cmp p.origin q.origin) (nat_cmp p.seq q.seq)) e in
    let rest = both_tied (nat_cmp p.origin q.origin) (nat_cmp p.seq q.seq) first.1 in
    let element = exact_bytes p.element q.element first.0 in
    let origin = exact_unsigned p.origin q.origin rest.0 in
    let seq = exact_unsigned p.seq q.seq rest.1 in
    λ i. record { element = element i; origin = origin i; seq = seq i }

pub greater_less : (p q : Placed) → placed_order p q ≡ Greater → placed_order q p ≡ Less
greater_less p q e = placed_total.antisymm q p ∙ ap ordering_reverse e

pub never_before_itself : (p : Placed) → placed_order p p ≡ Less → ⊥
never_before_itself p e = let f = sym e ∙ tied_itself placed_total p in cc f

-- LISTS

pub before_all : (p q : Placed) (qs : List Placed) → placed_order p q ≡ Less → IsBeforeAll q qs → IsBeforeAll p qs
before_all p q [] less h = tt
before_all p q (r ∷ rs) less h = (placed_total.trans p q r less h.0, before_all p q rs less h.1)

pub dots_drop : (ps : List Placed) (n : ℕ) → AreDots ps → AreDots (drop n ps)
dots_drop ps zero h = h
dots_drop [] (suc n) h = tt
dots_drop (p ∷ ps) (suc n) h = dots_drop ps n h.2

pub before_if : (b : Bool) (w p : Placed) (ps : List Placed) → placed_order w p ≡ Less → IsBeforeAll w ps → IsBeforeAll w (cond b (p ∷ ps) ps)
before_if true w p ps less h = (less, h)
before_if false w p ps less h = h

pub before_filter : (test : Placed → Bool) (w : Placed) (ps : List Placed) → IsBeforeAll w ps → IsBeforeAll w (filter test ps)
before_filter test w [] h = tt
before_filter test w (p ∷ ps) h = before_if (test p) w p (filter test ps) h.0 (before_filter test w ps h.1)

pub dots_if : (b : Bool) (p : Placed) (ps : List Placed) → IsNumbered p → IsBeforeAll p ps → AreDots ps → AreDots (cond b (p ∷ ps) ps)
dots_if true p ps numbered before h = (numbered, before, h)
dots_if false p ps numbered before h = h

pub dots_filter : (test : Placed → Bool) (ps : List Placed) → AreDots ps → AreDots (filter test ps)
dots_filter test [] h = tt
dots_filter test (p ∷ ps) h = dots_if (test p) p (filter test ps) h.0 (before_filter test p ps h.1) (dots_filter test ps h.2)

-- ONE DOT

-- a test that at most one dot passes
pub record IsOfOne (at : Placed → Bool) : Type 0 where
  pub one : (p q : Placed) → at p ≡ true → at q ≡ true → p ≡ q

pub absent_before : (at : Placed → Bool) → IsOfOne at → (p : Placed) (ps : List Placed) → at p ≡ true → IsBeforeAll p ps → list_any at ps ≡ false
absent_before at o p [] there h = refl
absent_before at o p (q ∷ qs) there h = go (absent_before at o p qs there h.1) (at q) refl
  where
    go : list_any at qs ≡ false → (b : Bool) → at q ≡ b → list_any at (q ∷ qs) ≡ false
    go rest true is = absurd (never_before_itself p (ap (λ r. placed_order p r) (o.one p q there is) ∙ h.0))
    go rest false is = ap (λ b. b || list_any at qs) is ∙ rest
