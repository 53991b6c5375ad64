-- Lists, and results.
use Rattle.std.proofs.Common.{◌≡◌, ℕ, zero, suc, ◌+◌, ◌-◌, ◌<◌, ◌≤◌, List, [], ◌∷◌, ◌++◌, length, take, drop, Option, Some, None, slice_get, refl, ap, sym, ◌∙◌, subst, arith}
use Rattle.std.specs.Prelude.{IfSome, IfNone, Result, Ok, Err, IfOk, OnOk, IfErr, OnErr}
use mathlib.Core.List.{IsPrefix}

module _ {A : Type 0} where
  pub get_within : (xs : List A) (k : ℕ) (x : A) → slice_get xs k ≡ Some x → k < length xs
  get_within [] k x e = absurd cc
  get_within (y ∷ xs) zero x e = omega arith
  get_within (y ∷ xs) (suc k) x e = let more = get_within xs k x e in omega arith

  pub get_there : (xs : List A) (k : ℕ) → k < length xs → (x : A) × (slice_get xs k ≡ Some x)
  get_there [] k lt = absurd (omega arith)
  get_there (y ∷ xs) zero lt = (y, refl)
  get_there (y ∷ xs) (suc k) lt = get_there xs k (omega arith)

  pub get_past : (xs : List A) (k : ℕ) → length xs ≤ k → slice_get xs k ≡ None
  get_past [] k le = refl
  get_past (y ∷ xs) zero le = absurd (omega arith)
  get_past (y ∷ xs) (suc k) le = get_past xs k (omega arith)

  pub get_end : (xs : List A) (x : A) (ys : List A) → slice_get (xs ++ x ∷ ys) (length xs) ≡ Some x
  get_end [] x ys = refl
  get_end (y ∷ xs) x ys = get_end xs x ys

  -- an element of a list with one more is an element of it, or the last one
  pub get_snoc : (P : ℕ → A → Type 0) (xs : List A) (y : A) → ((k : ℕ) (x : A) → slice_get xs k ≡ Some x → P k x) → P (length xs) y
      → (k : ℕ) (x : A) → slice_get (xs ++ y ∷ []) k ≡ Some x → P k x
  get_snoc P [] y each here zero x e = let is : y ≡ x = cc in subst (P zero) is here
  get_snoc P [] y each here (suc k) x e = absurd cc
  get_snoc P (z ∷ xs) y each here zero x e = each zero x e
  get_snoc P (z ∷ xs) y each here (suc k) x e = get_snoc (λ j. P (suc j)) xs y (λ j. each (suc j)) here k x e

  -- an element of two lists, one behind the other, is one of either
  pub get_either : (P : A → Type 0) (xs ys : List A) → ((k : ℕ) (x : A) → slice_get xs k ≡ Some x → P x) → ((k : ℕ) (x : A) → slice_get ys k ≡ Some x → P x)
      → (k : ℕ) (x : A) → slice_get (xs ++ ys) k ≡ Some x → P x
  get_either P [] ys a b k x e = b k x e
  get_either P (z ∷ xs) ys a b zero x e = a zero x e
  get_either P (z ∷ xs) ys a b (suc k) x e = get_either P xs ys (λ j. a (suc j)) b k x e

  pub none_before : (xs ys : List A) (k : ℕ) → IsPrefix xs ys → slice_get ys k ≡ None → slice_get xs k ≡ None
  none_before [] ys k p e = refl
  none_before (x ∷ xs) [] k p e = absurd (cc (p.1))
  none_before (x ∷ xs) (y ∷ ys) zero p e = absurd cc
  none_before (x ∷ xs) (y ∷ ys) (suc k) p e = none_before xs ys k (p.0, cc (p.1)) e

  pub take_snoc : (h : List A) (i : ℕ) (x : A) → slice_get h i ≡ Some x → take (suc i) h ≡ take i h ++ x ∷ []
  take_snoc [] i x e = absurd cc
  take_snoc (y ∷ h) zero x e = let is : y ≡ x = cc in ap (λ w. w ∷ []) is
  take_snoc (y ∷ h) (suc i) x e = ap (λ w. y ∷ w) (take_snoc h i x e)

  pub take_whole : (xs ys : List A) → take (length xs) (xs ++ ys) ≡ xs
  take_whole [] ys = refl
  take_whole (x ∷ xs) ys = ap (λ w. x ∷ w) (take_whole xs ys)

  pub drop_append : (n : ℕ) (xs ys : List A) → drop n (xs ++ ys) ≡ drop n xs ++ drop (n - length xs) ys
  drop_append zero xs ys = let e : 0 ≡ 0 - length xs = omega arith in ap (λ (k : ℕ). xs ++ drop k ys) e
  drop_append (suc n) [] ys = let e : suc n ≡ suc n - 0 = omega arith in ap (λ (k : ℕ). drop k ys) e
  drop_append (suc n) (x ∷ xs) ys = drop_append n xs ys ∙ (let e : n - length xs ≡ suc n - suc (length xs) = omega arith in ap (λ (k : ℕ). drop n xs ++ drop k ys) e)

  pub get_drop : (n : ℕ) (xs : List A) (k : ℕ) → slice_get (drop n xs) k ≡ slice_get xs (n + k)
  get_drop zero xs k = let e : k ≡ 0 + k = omega arith in ap (slice_get xs) e
  get_drop (suc n) [] k = sym (get_past [] (suc n + k) (omega arith))
  get_drop (suc n) (x ∷ xs) k = get_drop n xs k ∙ (let e : suc (n + k) ≡ suc n + k = omega arith in ap (slice_get (x ∷ xs)) e)

  pub length_left : (n : ℕ) (xs : List A) → length xs ≤ n + length (drop n xs)
  length_left zero xs = omega arith
  length_left (suc n) [] = omega arith
  length_left (suc n) (x ∷ xs) = let more = length_left n xs in omega arith

  -- one dropped first, and then so many
  pub drop_first : (n : ℕ) (xs : List A) → drop n (drop 1 xs) ≡ drop (suc n) xs
  drop_first zero [] = refl
  drop_first (suc n) [] = refl
  drop_first n (x ∷ xs) = refl

  -- a list that begins so, and what is left where the front is taken off
  pub rest_begins : (n : ℕ) (xs : List A) (x : A) (more : List A) → IsPrefix (x ∷ more) (drop n xs) → IsPrefix more (drop (suc n) xs)
  rest_begins zero [] x more p = absurd (cc (p.1))
  rest_begins zero (y ∷ xs) x more p = (p.0, cc (p.1))
  rest_begins (suc n) [] x more p = absurd (cc (p.1))
  rest_begins (suc n) (y ∷ xs) x more p = rest_begins n xs x more p

  -- nothing was added
  pub no_more : (xs ys : List A) → length ys ≡ 0 → xs ++ ys ≡ xs
  no_more xs [] e = simple xs
    where
      simple : (zs : List A) → zs ++ [] ≡ zs
      simple [] = refl
      simple (z ∷ zs) = ap (λ w. z ∷ w) (simple zs)
  no_more xs (y ∷ ys) e = absurd (omega arith)

module _ {A : Type 0} where
  pub if_some : (o : Option A) (P Q : A → Type 0) → ((x : A) → P x → Q x) → IfSome o P → IfSome o Q
  if_some None P Q f h = tt
  if_some (Some x) P Q f h = f x h

  pub if_none : (o : Option A) (P Q : Type 0) → (P → Q) → IfNone o P → IfNone o Q
  if_none None P Q f h = f h
  if_none (Some x) P Q f h = tt

module _ {A B : Type 0} where
  pub if_ok : (r : Result A B) (P Q : A → Type 0) → ((x : A) → P x → Q x) → IfOk r P → IfOk r Q
  if_ok (Ok x) P Q f h = f x h
  if_ok (Err e) P Q f h = tt

  pub on_ok : (r : Result A B) (P : A → Type 0) (Q : Type 0) → ((x : A) → P x → Q) → IfOk r P → OnOk r Q
  on_ok (Ok x) P Q f h = f x h
  on_ok (Err e) P Q f h = tt

  pub if_err : (r : Result A B) (P Q : B → Type 0) → ((e : B) → P e → Q e) → IfErr r P → IfErr r Q
  if_err (Ok x) P Q f h = tt
  if_err (Err e) P Q f h = f e h

  pub on_err : (r : Result A B) (E Q : Type 0) → (E → Q) → OnErr r E → OnErr r Q
  on_err (Ok x) E Q f h = tt
  on_err (Err e) E Q f h = f h

  pub on_err_always : (r : Result A B) (Q : Type 0) → Q → OnErr r Q
  on_err_always (Ok x) Q h = tt
  on_err_always (Err e) Q h = h

  pub either_way : (r : Result A B) (P : A → Type 0) (E Q : Type 0) → ((x : A) → P x → Q) → (E → Q) → IfOk r P → OnErr r E → Q
  either_way (Ok x) P E Q f g h k = f x h
  either_way (Err e) P E Q f g h k = g k
