-- Sets of identities, bit by bit.
use Rattle.std.proofs.Common.{◌+◌, ◌*◌, List, [], ◌∷◌, ◌++◌, length, filter, cond, ◌≡◌, ◌≢◌, ℕ, zero, suc, ◌/◌, ◌%◌, ◌^◌, ◌<◌, ◌⊎◌, Bool, true, false, ◌||◌, bit_or, nat_eq, refl, ap, sym, ◌∙◌, arith, rules, ⊎_elim, inl, inr, mod-eq_of_lt}
use Rattle.std.specs.Prelude.{◌==◌}
use Rattle.std.specs.Int.Count.{ones}
use Rattle.std.specs.List.{range_with_len}
use Rattle.std.proofs.lemmas.Bool.{cases_eq, cases_Bool}
use Rattle.std.proofs.lemmas.Nat.{or_shr, or_mod, ones_cat, mod-pow-add, mod_below, pow_pos}
use Rattle.std.proofs.lemmas.Nat.Bits.{bit_at_lowest, bit_at-suc, bit_at-zero, bit_at-pow_same, bit_at-pow_other}
use mathlib.Core.Bool.{or_comm}
use Rattle.model_history.specs.Table.{identity_limit}
use Rattle.model_history.specs.Vector.{with_member, united}
use Rattle.base_vectors.specs.IdSets.{members_in, member_count}
use Rattle.base_vectors.proofs.Walks.{range_more}

bit : (n : ℕ) → (n % 2 ≡ 0) ⊎ (n % 2 ≡ 1)
bit n = elim (small (n % 2) (omega arith)) [ inl e ↦ inl e | inr e ↦ inr e ]
  where
    small : (m : ℕ) → m < 2 → (m ≡ 0) ⊎ (m ≡ 1)
    small zero l = inl refl
    small (suc zero) l = inr refl
    small (suc (suc m)) l = absurd (omega arith)

bits_or : (a b x y : ℕ) → a % 2 ≡ x → b % 2 ≡ y → (bit_or x y == 1) ≡ ((x == 1) || (y == 1)) → (bit_or a b % 2 == 1) ≡ ((a % 2 == 1) || (b % 2 == 1))
bits_or a b x y e f same =
    ap (λ n. n == 1) (or_mod a b 1 ∙ ap (λ n. bit_or n (b % 2)) e ∙ ap (bit_or x) f) ∙ same
    ∙ sym (ap (λ n. (n == 1) || (b % 2 == 1)) e ∙ ap (λ n. (x == 1) || (n == 1)) f)

either_bit : (a b : ℕ) → (bit_or a b % 2 == 1) ≡ ((a % 2 == 1) || (b % 2 == 1))
either_bit a b = elim (bit a) [
  | inl e ↦ elim (bit b) [ inl f ↦ bits_or a b 0 0 e f refl | inr f ↦ bits_or a b 0 1 e f refl ]
  | inr e ↦ elim (bit b) [ inl f ↦ bits_or a b 1 0 e f refl | inr f ↦ bits_or a b 1 1 e f refl ]
]

pub members_in-or : (a b i : ℕ) → members_in (bit_or a b) i ≡ united (members_in a) (members_in b) i
members_in-or a b i = ap (λ n. n % 2 == 1) (or_shr a b i) ∙ either_bit (a / 2 ^ i) (b / 2 ^ i)

pub members_in-zero : (i : ℕ) → members_in 0 i ≡ false
members_in-zero i = ap (λ n. n == 1) (bit_at-zero i)

members_in-pow : (k i : ℕ) → members_in (2 ^ k) i ≡ nat_eq i k
members_in-pow k i = ⊎_elim
    (λ (e : i ≡ k). let u : nat_eq i k ≡ true = grind rules in ap (λ j. members_in (2 ^ k) j) e ∙ ap (λ n. n == 1) (bit_at-pow_same k) ∙ sym u)
    (λ (ne : i ≢ k). let u : nat_eq i k ≡ false = grind rules in ap (λ n. n == 1) (bit_at-pow_other k i ne) ∙ sym u) (cases_eq i k)

pub members_in-with : (bits k i : ℕ) → members_in (bit_or bits (2 ^ k)) i ≡ with_member (members_in bits) k i
members_in-with bits k i = members_in-or bits (2 ^ k) i ∙ ap (λ b. members_in bits i || b) (members_in-pow k i) ∙ or_comm (members_in bits i) (nat_eq i k)

one_or_not : (x y : ℕ) → x < 2 → y < 2 → (x == 1) ≡ (y == 1) → x ≡ y
one_or_not zero zero l m e = refl
one_or_not zero (suc zero) l m e = absurd (cc e)
one_or_not (suc zero) zero l m e = absurd (cc e)
one_or_not (suc zero) (suc zero) l m e = refl
one_or_not (suc (suc x)) y l m e = absurd (omega arith)
one_or_not zero (suc (suc y)) l m e = absurd (omega arith)
one_or_not (suc zero) (suc (suc y)) l m e = absurd (omega arith)

-- the members tell two numbers of so many bits apart
pub same_members : (k a b : ℕ) → a < 2 ^ k → b < 2 ^ k → ((i : ℕ) → i < k → members_in a i ≡ members_in b i) → a ≡ b
same_members zero a b l m same = omega arith
same_members (suc k) a b l m same =
    let low : a % 2 ≡ b % 2 = one_or_not (a % 2) (b % 2) (omega arith) (omega arith) (sym (ap (λ n. n == 1) (bit_at_lowest a)) ∙ same 0 (omega arith) ∙ ap (λ n. n == 1) (bit_at_lowest b)) in
    let high : a / 2 ≡ b / 2 = same_members k (a / 2) (b / 2) (omega arith) (omega arith) (λ i few. sym (ap (λ n. n == 1) (bit_at-suc a i)) ∙ same (suc i) (omega arith) ∙ ap (λ n. n == 1) (bit_at-suc b i)) in
    omega arith

count_one : (test : ℕ → Bool) (x : ℕ) (xs : List ℕ) → length (filter test (xs ++ x ∷ [])) ≡ length (filter test xs) + cond (test x) 1 0
count_one test x [] = elim (cases_Bool (test x)) [
  | inl e ↦ ap (λ b. length (cond b (x ∷ []) [])) e ∙ sym (ap (λ b. 0 + cond b 1 0) e)
  | inr e ↦ ap (λ b. length (cond b (x ∷ []) [])) e ∙ sym (ap (λ b. 0 + cond b 1 0) e)
]
count_one test x (y ∷ ys) = elim (cases_Bool (test y)) [
  | inl e ↦ ap (λ b. length (cond b (y ∷ filter test (ys ++ x ∷ [])) (filter test (ys ++ x ∷ [])))) e
      ∙ (let more : suc (length (filter test (ys ++ x ∷ []))) ≡ suc (length (filter test ys)) + cond (test x) 1 0 = omega (arith, count_one test x ys) in more)
      ∙ sym (ap (λ b. length (cond b (y ∷ filter test ys) (filter test ys)) + cond (test x) 1 0) e)
  | inr e ↦ ap (λ b. length (cond b (y ∷ filter test (ys ++ x ∷ [])) (filter test (ys ++ x ∷ [])))) e ∙ count_one test x ys
      ∙ sym (ap (λ b. length (cond b (y ∷ filter test ys) (filter test ys)) + cond (test x) 1 0) e)
]

one_digit : (n : ℕ) → n < 2 → ones n ≡ cond (n == 1) 1 0
unfolding ones
one_digit zero l = refl
one_digit (suc zero) l = refl
one_digit (suc (suc n)) l = absurd (omega arith)

-- the ones of the lowest digits are the members among the first identities
counted : (n k : ℕ) → ones (n % 2 ^ k) ≡ length (filter (members_in n) (range_with_len 0 k))
counted n zero = let none : n % 2 ^ 0 ≡ 0 = omega arith in ap ones none ∙ one_digit 0 (omega arith)
counted n (suc k) =
    let turned : suc k ≡ 1 + k = omega arith in
    let split : n % 2 ^ suc k ≡ (n / 2 ^ k % 2) * 2 ^ k + n % 2 ^ k = ap (λ m. n % 2 ^ m) turned ∙ mod-pow-add n 1 k in
    let more : suc k ≡ k + 1 = omega arith in
    let here : 0 + k ≡ k = omega arith in
    ap ones split ∙ ones_cat k (n / 2 ^ k % 2) (n % 2 ^ k) (mod_below n (2 ^ k) (pow_pos k)) ∙ ap (λ m. m + ones (n % 2 ^ k)) (one_digit (n / 2 ^ k % 2) (omega arith))
    ∙ ap (λ m. cond (members_in n k) 1 0 + m) (counted n k) ∙ omega arith
    ∙ sym (ap (λ m. length (filter (members_in n) (range_with_len 0 m))) more ∙ ap (λ xs. length (filter (members_in n) xs)) (range_more 0 k ∙ ap (λ m. range_with_len 0 k ++ m ∷ []) here) ∙ count_one (members_in n) k (range_with_len 0 k))

pub ones_are_members : (n : ℕ) → n < 2 ^ identity_limit → ones n ≡ member_count (members_in n)
unfolding member_count
ones_are_members n l = ap ones (sym (mod-eq_of_lt l)) ∙ counted n identity_limit
