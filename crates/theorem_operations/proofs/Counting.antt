-- Two sets of members that are more than the members share one.
use Rattle.std.proofs.Common.{◌≡◌, ℕ, zero, suc, ◌+◌, ◌<◌, ◌≤◌, List, [], ◌∷◌, length, refl, sym, ap, ◌∙◌, arith, Bool, true, false, inl, inr}
use Rattle.std.specs.Prelude.{if◌then◌else◌, filter, ◌||◌, ◌==◌}
use Rattle.std.specs.List.{list_any, range_with_len}
use Rattle.std.proofs.lemmas.Bool.Decides.{eqb_tells}
use Rattle.model_history.specs.Table.{identity_limit, identities}
use Rattle.model_history.specs.Vector.{IdentitySet, members_of}
use Rattle.model_members.specs.View.{View, identities_of, is_member}
use Rattle.model_members.specs.Node.{Level, needed_number}
use Rattle.theorem_operations.proofs.Lists.{map_length}

abbrev pub count : (ℕ → Bool) → List ℕ → ℕ
count s xs = length (filter s xs)

one_if : Bool → ℕ
one_if b = if b then 1 else 0

pub count_cons : (s : ℕ → Bool) (x : ℕ) (xs : List ℕ) → count s (x ∷ xs) ≡ (if s x then 1 else 0) + count s xs
count_cons s x xs = go (s x)
  where
    go : (b : Bool) → length (if b then x ∷ filter s xs else filter s xs) ≡ (if b then 1 else 0) + count s xs
    go true = omega arith
    go false = omega arith

-- a set within another
pub within : (s t : ℕ → Bool) → ((x : ℕ) → s x ≡ true → t x ≡ true) → (xs : List ℕ) → count s xs ≤ count t xs
within s t sub [] = omega arith
within s t sub (x ∷ xs) =
    let a = count_cons s x xs in let b = count_cons t x xs in let c = within s t sub xs in go (s x) (t x) refl refl a b c
  where
    go : (b c : Bool) → s x ≡ b → t x ≡ c → count s (x ∷ xs) ≡ (if b then 1 else 0) + count s xs → count t (x ∷ xs) ≡ (if c then 1 else 0) + count t xs → count s xs ≤ count t xs → count s (x ∷ xs) ≤ count t (x ∷ xs)
    go true true p q e f h = omega arith
    go true false p q e f h = absurd (let g = sym q ∙ sub x p in cc g)
    go false true p q e f h = omega arith
    go false false p q e f h = omega arith

-- two sets of members that are together more than these share one
pub shared : (s t m : ℕ → Bool) → ((x : ℕ) → s x ≡ true → m x ≡ true) → ((x : ℕ) → t x ≡ true → m x ≡ true) → (xs : List ℕ) → count m xs < count s xs + count t xs → (x : ℕ) × (s x ≡ true) × (t x ≡ true)
shared s t m in_s in_t [] h = absurd (omega arith)
shared s t m in_s in_t (x ∷ xs) h = go (s x) (t x) (m x) refl refl refl (count_cons s x xs) (count_cons t x xs) (count_cons m x xs) (λ l. shared s t m in_s in_t xs l)
  where
    go : (a b c : Bool) → s x ≡ a → t x ≡ b → m x ≡ c → count s (x ∷ xs) ≡ (if a then 1 else 0) + count s xs → count t (x ∷ xs) ≡ (if b then 1 else 0) + count t xs → count m (x ∷ xs) ≡ (if c then 1 else 0) + count m xs
        → (count m xs < count s xs + count t xs → (x : ℕ) × (s x ≡ true) × (t x ≡ true)) → (x : ℕ) × (s x ≡ true) × (t x ≡ true)
    go true true c p q r e f g later = (x, p, q)
    go true false true p q r e f g later = later (omega arith)
    go true false false p q r e f g later = absurd (let z = sym r ∙ in_s x p in cc z)
    go false true true p q r e f g later = later (omega arith)
    go false true false p q r e f g later = absurd (let z = sym r ∙ in_t x q in cc z)
    go false false c p q r e f g later = later (go' c g)
      where
        go' : (c : Bool) → count m (x ∷ xs) ≡ (if c then 1 else 0) + count m xs → count m xs < count s xs + count t xs
        go' true g = omega arith
        go' false g = omega arith

-- THE MEMBERS OF A VIEW

either_count : (s t : ℕ → Bool) (xs : List ℕ) → count (λ x. s x || t x) xs ≤ count s xs + count t xs
either_count s t [] = omega arith
either_count s t (x ∷ xs) = go (either_count s t xs) (s x) (t x) refl refl
  where
    both : Bool → Bool → ℕ
    both a b = if a || b then 1 else 0

    total : (a b : Bool) → s x ≡ a → t x ≡ b → count (λ y. s y || t y) (x ∷ xs) ≡ (if a || b then 1 else 0) + count (λ y. s y || t y) xs
    total a b p q = count_cons (λ y. s y || t y) x xs ∙ ap (λ c. (if c || t x then 1 else 0) + count (λ y. s y || t y) xs) p ∙ ap (λ c. (if a || c then 1 else 0) + count (λ y. s y || t y) xs) q

    left : (a : Bool) → s x ≡ a → count s (x ∷ xs) ≡ (if a then 1 else 0) + count s xs
    left a p = count_cons s x xs ∙ ap (λ c. (if c then 1 else 0) + count s xs) p

    right : (b : Bool) → t x ≡ b → count t (x ∷ xs) ≡ (if b then 1 else 0) + count t xs
    right b q = count_cons t x xs ∙ ap (λ c. (if c then 1 else 0) + count t xs) q

    go : count (λ y. s y || t y) xs ≤ count s xs + count t xs → (a b : Bool) → s x ≡ a → t x ≡ b → count (λ y. s y || t y) (x ∷ xs) ≤ count s (x ∷ xs) + count t (x ∷ xs)
    go h true b p q = let e : count (λ y. s y || t y) (x ∷ xs) ≡ 1 + count (λ y. s y || t y) xs = total true b p q in let f : count s (x ∷ xs) ≡ 1 + count s xs = left true p in let g = grows b q in omega arith
      where
        grows : (b : Bool) → t x ≡ b → count t xs ≤ count t (x ∷ xs)
        grows true q = let g : count t (x ∷ xs) ≡ 1 + count t xs = right true q in omega arith
        grows false q = let g : count t (x ∷ xs) ≡ 0 + count t xs = right false q in omega arith
    go h false true p q = let e : count (λ y. s y || t y) (x ∷ xs) ≡ 1 + count (λ y. s y || t y) xs = total false true p q in let f : count s (x ∷ xs) ≡ 0 + count s xs = left false p in let g : count t (x ∷ xs) ≡ 1 + count t xs = right true q in omega arith
    go h false false p q = let e : count (λ y. s y || t y) (x ∷ xs) ≡ 0 + count (λ y. s y || t y) xs = total false false p q in let f : count s (x ∷ xs) ≡ 0 + count s xs = left false p in let g : count t (x ∷ xs) ≡ 0 + count t xs = right false q in omega arith

none_of_range : (j first n : ℕ) → j < first → count (λ x. j == x) (range_with_len first n) ≡ 0
none_of_range j first zero h = refl
none_of_range j first (suc n) h = elim (eqb_tells j first) [
  | inl is ↦ absurd (omega (arith, is.1))
  | inr isnt ↦ let a : count (λ x. j == x) (range_with_len first (suc n)) ≡ 0 + count (λ x. j == x) (range_with_len (first + 1) n) = count_cons (λ x. j == x) first (range_with_len (first + 1) n) ∙ ap (λ b. (if b then 1 else 0) + count (λ x. j == x) (range_with_len (first + 1) n)) isnt.0 in let b = none_of_range j (first + 1) n (omega arith) in omega arith
]

pub one_of_range : (j first n : ℕ) → count (λ x. j == x) (range_with_len first n) ≤ 1
one_of_range j first zero = omega arith
one_of_range j first (suc n) = elim (eqb_tells j first) [
  | inl is ↦ let a : count (λ x. j == x) (range_with_len first (suc n)) ≡ 1 + count (λ x. j == x) (range_with_len (first + 1) n) = here true is.0 in let c = none_of_range j (first + 1) n (omega (arith, is.1)) in omega arith
  | inr isnt ↦ let a : count (λ x. j == x) (range_with_len first (suc n)) ≡ 0 + count (λ x. j == x) (range_with_len (first + 1) n) = here false isnt.0 in let c = one_of_range j (first + 1) n in omega arith
]
  where
    here : (b : Bool) → (j == first) ≡ b → count (λ x. j == x) (range_with_len first (suc n)) ≡ (if b then 1 else 0) + count (λ x. j == x) (range_with_len (first + 1) n)
    here b e = count_cons (λ x. j == x) first (range_with_len (first + 1) n) ∙ ap (λ b. (if b then 1 else 0) + count (λ x. j == x) (range_with_len (first + 1) n)) e

none_counted : (xs : List ℕ) → count (λ x. false) xs ≡ 0
none_counted [] = refl
none_counted (x ∷ xs) = none_counted xs

few_of_list : (js : List ℕ) (first n : ℕ) → count (λ x. list_any (λ j. j == x) js) (range_with_len first n) ≤ length js
few_of_list [] first n = let a = none_counted (range_with_len first n) in omega arith
few_of_list (j ∷ js) first n =
    let a = either_count (λ x. j == x) (λ x. list_any (λ j. j == x) js) (range_with_len first n) in
    let b = one_of_range j first n in
    let c = few_of_list js first n in omega arith

pub few_members : (view : View) → count (is_member view) identities ≤ length view.members
few_members view = let a = few_of_list (identities_of view) 0 identity_limit in let b = map_length (λ member. member.identity) view.members in omega arith

-- MAJORITIES

-- two majorities, whatever the caps, are more than the members
pub two_majorities : (cap cap' n : ℕ) → 0 < n → n < needed_number (Level.Majority cap) n + needed_number (Level.Majority cap') n
two_majorities cap cap' n h = omega arith

some_member : (js : List ℕ) (t : ℕ) → list_any (λ j. j == t) js ≡ true → 0 < length js
some_member [] t e = absurd (cc e)
some_member (j ∷ js) t e = omega arith

pub has_member : (view : View) (t : ℕ) → is_member view t ≡ true → 0 < length view.members
has_member view t e = let a = some_member (identities_of view) t e in let b = map_length (λ member. member.identity) view.members in omega arith

-- whoever is in two majorities of a view
pub majorities_meet : (view : View) (cap cap' : ℕ) (s t : IdentitySet) → 0 < length view.members
    → ((x : ℕ) → s x ≡ true → is_member view x ≡ true) → ((x : ℕ) → t x ≡ true → is_member view x ≡ true)
    → needed_number (Level.Majority cap) (length view.members) ≤ length (members_of s) → needed_number (Level.Majority cap') (length view.members) ≤ length (members_of t)
    → (x : ℕ) × (s x ≡ true) × (t x ≡ true)
majorities_meet view cap cap' s t some in_s in_t a b =
    shared s t (is_member view) in_s in_t identities
    (let c = few_members view in let d = two_majorities cap cap' (length view.members) some in omega arith)
