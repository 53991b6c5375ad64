-- Lists by place, and weights.
use Rattle.std.proofs.Common.{◌≡◌, ◌≢◌, ℕ, zero, suc, ◌+◌, ◌*◌, ◌<◌, ◌≤◌, if◌then◌else◌, List, [], ◌∷◌, ◌++◌, length, set, refl, ap, sym, subst, ⊎_elim, inl, inr, ◌⊎◌, arith, eq-eqb, ne_eqb}
use mathlib.Core.Option.{some, some-injective, some-ne-none}
use mathlib.Core.Logic.{dite}
use native.Mathlib.Decide.{ℕ_discrete}
use lib.ListN.{get_elem?}
use Rattle.atomic_table.proofs.Lists.{at_set, at_snoc}
use Rattle.thread_cell.specs.Lists.{first, rest, longer, at, with_at, longer_each, weigh, same}
use Rattle.thread_cell.proofs.Prefixes.{longer_nil}

module _ {A : Type 0} where
  pub at-with_at : (hs : List (List A)) (p : ℕ) (h : List A) → at (with_at hs p h) p ≡ h
  at-with_at [] zero h = refl
  at-with_at [] (suc p) h = at-with_at [] p h
  at-with_at (g ∷ hs) zero h = refl
  at-with_at (g ∷ hs) (suc p) h = at-with_at hs p h

  pub at-with_other : (hs : List (List A)) (p q : ℕ) (h : List A) → q ≢ p → at (with_at hs p h) q ≡ at hs q
  at-with_other [] zero zero h n = absurd (n refl)
  at-with_other [] zero (suc q) h n = refl
  at-with_other [] (suc p) zero h n = refl
  at-with_other [] (suc p) (suc q) h n = at-with_other [] p q h (λ e. n (ap suc e))
  at-with_other (g ∷ hs) zero zero h n = absurd (n refl)
  at-with_other (g ∷ hs) zero (suc q) h n = refl
  at-with_other (g ∷ hs) (suc p) zero h n = refl
  at-with_other (g ∷ hs) (suc p) (suc q) h n = at-with_other hs p q h (λ e. n (ap suc e))

  -- a fact of the list at each place, where one is replaced
  pub with_at_ind : (P : ℕ → List A → Type 0) (hs : List (List A)) (p : ℕ) (h : List A) → P p h → ((q : ℕ) → q ≢ p → P q (at hs q)) → (q : ℕ) → P q (at (with_at hs p h) q)
  with_at_ind P hs p h here away q =
      dite (ℕ_discrete q p)
      (λ e. subst (λ (r : ℕ). P r (at (with_at hs p h) r)) (sym e) (subst (P p) (sym (at-with_at hs p h)) here))
      (λ n. subst (P q) (sym (at-with_other hs p q h n)) (away q n))

  pub length-with_at : (hs : List (List A)) (p : ℕ) (h : List A) → length (with_at hs p h) ≤ length hs + (p + 1)
  length-with_at [] zero h = omega arith
  length-with_at [] (suc p) h = let more = length-with_at [] p h in omega arith
  length-with_at (g ∷ hs) zero h = omega arith
  length-with_at (g ∷ hs) (suc p) h = let more = length-with_at hs p h in omega arith

  pub with_at_within : (hs : List (List A)) (p : ℕ) (h : List A) (n : ℕ) → length hs ≤ n → p < n → length (with_at hs p h) ≤ n
  with_at_within [] zero h n le lt = omega arith
  with_at_within hs p h zero le lt = absurd (omega arith)
  with_at_within [] (suc p) h (suc n) le lt = let more = with_at_within [] p h n (omega arith) (omega arith) in omega arith
  with_at_within (g ∷ hs) zero h (suc n) le lt = omega arith
  with_at_within (g ∷ hs) (suc p) h (suc n) le lt = let more = with_at_within hs p h n (omega arith) (omega arith) in omega arith

  pub at-longer_each : (xs ys : List (List A)) (p : ℕ) → at (longer_each xs ys) p ≡ longer (at xs p) (at ys p)
  at-longer_each [] ys p = refl
  at-longer_each (x ∷ xs) [] p = sym (longer_nil (at (x ∷ xs) p))
  at-longer_each (x ∷ xs) (y ∷ ys) zero = refl
  at-longer_each (x ∷ xs) (y ∷ ys) (suc p) = at-longer_each xs ys p

  pub longer_each_within : (xs ys : List (List A)) (n : ℕ) → length xs ≤ n → length ys ≤ n → length (longer_each xs ys) ≤ n
  longer_each_within [] ys n l m = m
  longer_each_within (x ∷ xs) [] n l m = l
  longer_each_within (x ∷ xs) (y ∷ ys) zero l m = absurd (omega arith)
  longer_each_within (x ∷ xs) (y ∷ ys) (suc n) l m = let more = longer_each_within xs ys n (omega arith) (omega arith) in omega arith

  pub weigh-append : (f : A → ℕ) (xs ys : List A) → weigh f (xs ++ ys) ≡ weigh f xs + weigh f ys
  weigh-append f [] ys = omega arith
  weigh-append f (x ∷ xs) ys = let more = weigh-append f xs ys in omega arith

  -- the head and what is left
  pub weigh-parts : (f : A → ℕ) (xs : List A) → weigh f (rest xs) + weigh f (first xs) ≡ weigh f xs
  weigh-parts f [] = refl
  weigh-parts f (x ∷ xs) = omega arith

  pub weigh-set : (f : A → ℕ) (xs : List A) (j : ℕ) (x y : A) → get_elem? xs j ≡ some x → weigh f (set xs j y) + f x ≡ weigh f xs + f y
  weigh-set f [] j x y e = absurd (some-ne-none x (sym e))
  weigh-set f (z ∷ xs) zero x y e = let is : f z ≡ f x = ap f (some-injective z x e) in omega arith
  weigh-set f (z ∷ xs) (suc j) x y e = let more = weigh-set f xs j x y e in omega arith

  pub weigh_at_least : (f : A → ℕ) (xs : List A) (j : ℕ) (x : A) → get_elem? xs j ≡ some x → f x ≤ weigh f xs
  weigh_at_least f [] j x e = absurd (some-ne-none x (sym e))
  weigh_at_least f (z ∷ xs) zero x e = let is : f z ≡ f x = ap f (some-injective z x e) in omega arith
  weigh_at_least f (z ∷ xs) (suc j) x e = let more = weigh_at_least f xs j x e in omega arith

  -- two elements weigh no more than all
  pub weigh_two : (f : A → ℕ) (xs : List A) (i j : ℕ) (x y : A) → i ≢ j → get_elem? xs i ≡ some x → get_elem? xs j ≡ some y → f x + f y ≤ weigh f xs
  weigh_two f [] i j x y n a b = absurd (some-ne-none x (sym a))
  weigh_two f (z ∷ xs) zero zero x y n a b = absurd (n refl)
  weigh_two f (z ∷ xs) zero (suc j) x y n a b = let is : f z ≡ f x = ap f (some-injective z x a) in let more = weigh_at_least f xs j y b in omega arith
  weigh_two f (z ∷ xs) (suc i) zero x y n a b = let is : f z ≡ f y = ap f (some-injective z y b) in let more = weigh_at_least f xs i x a in omega arith
  weigh_two f (z ∷ xs) (suc i) (suc j) x y n a b = let more = weigh_two f xs i j x y (λ e. n (ap suc e)) a b in omega arith

  -- the lists by place are together as long as the places allow
  pub weigh_within : (xs : List (List A)) (n k : ℕ) → length xs ≤ n → ((p : ℕ) → length (at xs p) ≤ k) → weigh (λ (h : List A). length h) xs ≤ n * k
  weigh_within [] n k le each = omega arith
  weigh_within (x ∷ xs) zero k le each = absurd (omega arith)
  weigh_within (x ∷ xs) (suc n) k le each =
      let more : weigh (λ (h : List A). length h) xs ≤ n * k = weigh_within xs n k (omega arith) (λ p. each (suc p)) in
      let head : length x ≤ k = each 0 in
      let grows : suc n * k ≡ n * k + k = grind arith in
      let m : ℕ = n * k in let more' : weigh (λ (h : List A). length h) xs ≤ m = more in omega arith

pub same_refl : (x : ℕ) → same x x ≡ 1
same_refl x = ap (λ b. if b then 1 else 0) (eq-eqb x x refl)

pub same_apart : (x y : ℕ) → x ≢ y → same x y ≡ 0
same_apart x y n = ap (λ b. if b then 1 else 0) (ne_eqb x y n)

module _ {A : Type 0} where
  -- a fact of each element, where one is replaced, and where one is added
  pub each_set : (P : A → Type 0) (xs : List A) (i : ℕ) (y : A) → P y → ((j : ℕ) (x : A) → j ≢ i → get_elem? xs j ≡ some x → P x) → (j : ℕ) (x : A) → get_elem? (set xs i y) j ≡ some x → P x
  each_set P xs i y here away j x e = ⊎_elim (λ t. subst P t.1 here) (λ t. away j x t.0 t.1) (at_set xs i j y x e)

  pub each_snoc : (P : A → Type 0) (xs : List A) (y : A) → P y → ((j : ℕ) (x : A) → get_elem? xs j ≡ some x → P x) → (j : ℕ) (x : A) → get_elem? (xs ++ y ∷ []) j ≡ some x → P x
  each_snoc P xs y here others j x e = ⊎_elim (λ t. others j x t) (λ t. subst P t here) (at_snoc xs y x j e)

  pub at_append : (xs ys : List A) (k : ℕ) (x : A) → get_elem? (xs ++ ys) k ≡ some x → (get_elem? xs k ≡ some x) ⊎ ((i : ℕ) × (get_elem? ys i ≡ some x))
  at_append [] ys k x e = inr (k, e)
  at_append (z ∷ xs) ys zero x e = inl e
  at_append (z ∷ xs) ys (suc k) x e = at_append xs ys k x e

  pub at_first : (xs : List A) (k : ℕ) (x : A) → get_elem? (first xs) k ≡ some x → get_elem? xs 0 ≡ some x
  at_first [] k x e = absurd (some-ne-none x (sym e))
  at_first (y ∷ xs) zero x e = e
  at_first (y ∷ xs) (suc k) x e = absurd (some-ne-none x (sym e))

  pub at_rest : (xs : List A) (k : ℕ) (x : A) → get_elem? (rest xs) k ≡ some x → get_elem? xs (suc k) ≡ some x
  at_rest [] k x e = absurd (some-ne-none x (sym e))
  at_rest (y ∷ xs) k x e = e

  -- after two replacements, of which the second leaves nothing, the weight is the same
  pub weigh_met : (f : A → ℕ) (xs : List A) (i j : ℕ) (x y z o : A) → get_elem? xs i ≡ some x → get_elem? (set xs i z) j ≡ some y → f z ≡ f x + f y → f o ≡ 0 → weigh f (set (set xs i z) j o) ≡ weigh f xs
  weigh_met f xs i j x y z o a b sum none =
      let one = weigh-set f xs i x z a in
      let two = weigh-set f (set xs i z) j y o b in omega arith
