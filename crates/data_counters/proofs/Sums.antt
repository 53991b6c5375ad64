-- Sums over the identities, one by one.
use Rattle.std.proofs.Common.{◌≡◌, ℕ, zero, suc, ◌+◌, ◌-◌, ◌*◌, ◌^◌, ◌<◌, ◌≤◌, [], ◌∷◌, ◌++◌, arith, ap, sym, ◌∙◌, refl}
use Rattle.std.specs.Prelude.{sum_by}
use Rattle.std.specs.List.{range_with_len}
use Rattle.std.proofs.lemmas.List.Sums.{sum_by-append}
use Rattle.base_vectors.proofs.Walks.{range_more, counted_more}
use Rattle.model_meanings.proofs.CounterLaws.{plus_none}
use Rattle.model_history.specs.Table.{identity_limit, identities}

pub record IsSumBelow (f : ℕ → ℕ) (n total : ℕ) : Type 0 where
  pub is : total ≡ sum_by f (range_with_len 0 n)
  pub small : total ≤ n * 2 ^ 64

pub sum_none : (f : ℕ → ℕ) → IsSumBelow f 0 0
sum_none f = record { is = refl; small = omega arith }

pub sum_more : (f : ℕ → ℕ) (n id total share : ℕ) → id ≡ n → share ≡ f id → share < 2 ^ 64 → IsSumBelow f n total → IsSumBelow f (n + 1) (total + share)
sum_more f n id total share e is small h =
    let next : 0 + n ≡ n = omega arith in
    record {
      is = ap (λ x. x + share) h.is ∙ ap (λ x. sum_by f (range_with_len 0 n) + x) (is ∙ ap f e)
          ∙ sym (ap (sum_by f) (range_more 0 n ∙ ap (λ m. range_with_len 0 n ++ m ∷ []) next) ∙ sum_by-append f (range_with_len 0 n) (n ∷ []) ∙ plus_none (sum_by f (range_with_len 0 n)) (f n));
      small = let s = h.small in omega arith;
    }

sum_past : (f : ℕ → ℕ) (n more : ℕ) → ((i : ℕ) → n ≤ i → f i ≡ 0) → sum_by f (range_with_len 0 (n + more)) ≡ sum_by f (range_with_len 0 n)
sum_past f n zero none = let e : n + 0 ≡ n = omega arith in ap (λ m. sum_by f (range_with_len 0 m)) e
sum_past f n (suc more) none =
    let e : n + suc more ≡ n + more + 1 = omega arith in
    let zero_there : f (n + more) ≡ 0 = none (n + more) (omega arith) in
    let last : sum_by f ((n + more) ∷ []) ≡ 0 = omega (arith, zero_there) in
    let front : sum_by f (range_with_len 0 (n + more)) ≡ sum_by f (range_with_len 0 n) = sum_past f n more none in
    ap (λ m. sum_by f (range_with_len 0 m)) e ∙ ap (sum_by f) (counted_more (n + more)) ∙ sum_by-append f (range_with_len 0 (n + more)) ((n + more) ∷ [])
    ∙ omega (arith, last, front)

-- there is nothing from the end on
pub sum_all : (f : ℕ → ℕ) (n total : ℕ) → n ≤ identity_limit → ((i : ℕ) → n ≤ i → f i ≡ 0) → IsSumBelow f n total → total ≡ sum_by f identities
sum_all f n total few none h = let e : n + (identity_limit - n) ≡ identity_limit = omega arith in
    h.is ∙ sym (sum_past f n (identity_limit - n) none) ∙ ap (λ k. sum_by f (range_with_len 0 k)) e

pub sum_small : (f : ℕ → ℕ) (n total : ℕ) → n ≤ identity_limit → IsSumBelow f n total → total ≤ 2 ^ 72
sum_small f n total few h = let s = h.small in omega arith
