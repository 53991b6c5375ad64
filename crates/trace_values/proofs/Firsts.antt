-- What is kept of each identity's first records, after one record more.
use Rattle.std.proofs.Common.{◌≡◌, ℕ, zero, suc, ◌+◌, ◌-◌, ◌<◌, ◌≤◌, List, [], ◌∷◌, ◌++◌, length, take, set, refl, sym, ap, ◌∙◌, arith, Bool, true, false, Some, inl, inr}
use Rattle.std.specs.Prelude.{◌==◌, if◌then◌else◌, unwrap_or, slice_get}
use Rattle.std.proofs.lemmas.Bool.{cases_lt}
use Rattle.std.proofs.lemmas.Bool.Decides.{eqb_tells, nat_tests}
use Rattle.model_history.specs.History.{Record as Meant, History, at, with_record, IsPartOf}
use Rattle.model_history.proofs.HistoryLaws.{with_at_same, with_at_other}
use Rattle.model_history.proofs.PartLaws.{take-take}
use Rattle.model_kinds.specs.declared.operation.Op.{Op}
use Rattle.trace_values.specs.Rows.{row_of, IsPushed, last_in, last_of, AreFirst}

-- ROWS

get_front : {X : Type 0} (xs : List X) (x : X) (k : ℕ) → k < length xs → slice_get (xs ++ x ∷ []) k ≡ slice_get xs k
get_front [] x k h = absurd (omega (arith, h))
get_front (y ∷ xs) x zero h = refl
get_front (y ∷ xs) x (suc k) h = get_front xs x k (omega (arith, h))

pub get_last : {X : Type 0} (xs : List X) (x : X) → slice_get (xs ++ x ∷ []) (length xs) ≡ Some x
get_last [] x = refl
get_last (y ∷ xs) x = get_last xs x

pub length_push : {X : Type 0} (xs : List X) (x : X) → length (xs ++ x ∷ []) ≡ length xs + 1
length_push [] x = refl
length_push (y ∷ xs) x = let later = length_push xs x in omega (arith, later)

pub positive : (n : ℕ) → (n == 0) ≡ false → 0 < n
positive n e = grind (arith, nat_tests)

last_front : {X : Type 0} (none : X) (xs : List X) (x : X) (n : ℕ) → n ≤ length xs → last_in none (xs ++ x ∷ []) n ≡ last_in none xs n
last_front none xs x n few = go (n == 0) refl
  where
    go : (b : Bool) → (n == 0) ≡ b → (if b then none else unwrap_or (slice_get (xs ++ x ∷ []) (n - 1)) none) ≡ (if b then none else unwrap_or (slice_get xs (n - 1)) none)
    go true e = refl
    go false e = let some = positive n e in ap (λ o. unwrap_or o none) (get_front xs x (n - 1) (omega (arith, few, some)))

last_one : {X : Type 0} (none : X) (xs : List X) (x : X) (n : ℕ) → n ≡ length xs + 1 → last_in none (xs ++ x ∷ []) n ≡ x
last_one none xs x n is = elim (eqb_tells n 0) [
  | inl zero_is ↦ absurd (let z = zero_is.1 in omega (arith, is, z))
  | inr other ↦
      let place : n - 1 ≡ length xs = omega (arith, is) in
      ap (λ b. if b then none else unwrap_or (slice_get (xs ++ x ∷ []) (n - 1)) none) other.0 ∙ ap (λ k. unwrap_or (slice_get (xs ++ x ∷ []) k) none) place ∙ ap (λ o. unwrap_or o none) (get_last xs x)
]

pub set_here : {X : Type 0} (xs : List X) (k : ℕ) (x : X) → k < length xs → slice_get (set xs k x) k ≡ Some x
set_here [] k x h = absurd (omega (arith, h))
set_here (y ∷ xs) zero x h = refl
set_here (y ∷ xs) (suc k) x h = set_here xs k x (omega (arith, h))

pub set_there : {X : Type 0} (xs : List X) (k m : ℕ) (x : X) → (m ≡ k → ⊥) → slice_get (set xs k x) m ≡ slice_get xs m
set_there [] k m x isnt = refl
set_there (y ∷ xs) zero zero x isnt = absurd (isnt refl)
set_there (y ∷ xs) zero (suc m) x isnt = refl
set_there (y ∷ xs) (suc k) zero x isnt = refl
set_there (y ∷ xs) (suc k) (suc m) x isnt = set_there xs k m x (λ e. isnt (ap suc e))

-- ONE RECORD MORE

module _ {X : Type 0} (none : X) (meant then_meant : ℕ → ℕ → X) (made : History Op) (i : ℕ) (r : Meant Op) (old new : List (List X)) (x : X) where
  pub first_then : AreFirst none meant old made → IsPushed old new i x → ((j n : ℕ) → n ≤ at made j → then_meant j n ≡ meant j n) → x ≡ then_meant i (at made i + 1) → AreFirst none then_meant new (with_record made i r)
  first_then are pushed stays is = record { count = count; each = each }
    where
      row_same : (j : ℕ) → (j == i) ≡ true → row_of new j ≡ row_of old j ++ x ∷ []
      row_same j e = pushed j ∙ ap (λ b. if b then row_of old j ++ x ∷ [] else row_of old j) e

      row_other : (j : ℕ) → (j == i) ≡ false → row_of new j ≡ row_of old j
      row_other j e = pushed j ∙ ap (λ b. if b then row_of old j ++ x ∷ [] else row_of old j) e

      at_same : (j : ℕ) → j ≡ i → at (with_record made i r) j ≡ at made j + 1
      at_same j e = ap (at (with_record made i r)) e ∙ ap length (with_at_same made i (made i ++ r ∷ [])) ∙ length_push (made i) r ∙ ap (λ k. at made k + 1) (sym e)

      count : (j : ℕ) → length (row_of new j) ≡ at (with_record made i r) j
      count j = elim (eqb_tells j i) [
        | inl same ↦ ap length (row_same j same.0) ∙ length_push (row_of old j) x ∙ ap (λ n. n + 1) (are.count j) ∙ sym (at_same j same.1)
        | inr other ↦ ap length (row_other j other.0) ∙ are.count j ∙ sym (ap length (with_at_other made i (made i ++ r ∷ []) j other.1))
      ]

      each : (j n : ℕ) → n ≤ at (with_record made i r) j → last_of none new j n ≡ then_meant j n
      each j n few = elim (eqb_tells j i) [
        | inl same ↦ elim (cases_lt (at made j) n) [
          | inl last ↦
              let count_is = are.count j in
              let now = at_same j same.1 in
              let n_is : n ≡ at made j + 1 = omega (arith, last, few, now) in
              ap (λ row. last_in none row n) (row_same j same.0) ∙ last_one none (row_of old j) x n (omega (arith, n_is, count_is)) ∙ is
              ∙ ap (λ k. then_meant k (at made k + 1)) (sym same.1) ∙ ap (then_meant j) (sym n_is)
          | inr before ↦
              let count_is = are.count j in
              ap (λ row. last_in none row n) (row_same j same.0) ∙ last_front none (row_of old j) x n (omega (arith, before, count_is)) ∙ are.each j n before ∙ sym (stays j n before)
        ]
        | inr other ↦
            let few_before : n ≤ at made j = (let e = ap length (with_at_other made i (made i ++ r ∷ []) j other.1) in omega (arith, few, e)) in
            ap (λ row. last_in none row n) (row_other j other.0) ∙ are.each j n few_before ∙ sym (stays j n few_before)
      ]

-- the first records of an identity are the same in a part
pub take_part : (H J : History Op) → IsPartOf H J → (j n : ℕ) → n ≤ at H j → take n (J j) ≡ take n (H j)
take_part H J part j n few = sym (ap (take n) (part j) ∙ take-take (J j) n (at H j) few)
