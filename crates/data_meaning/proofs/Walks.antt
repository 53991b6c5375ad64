-- Walks over lists: tests, filters and searches over what a list is mapped to, or of two lists side by side.
use Rattle.std.proofs.Common.{◌≡◌, ℕ, zero, suc, List, [], ◌∷◌, length, map, Bool, true, false, cond, ◌&&◌, ◌||◌, Option, Some, refl, ap, sym, ◌∙◌, filter, find, filter_map, option_map, arith}
use Rattle.std.specs.Prelude.{slice_get, sum_by}
use Rattle.std.specs.List.{list_any, zip, cons_option}
use Rattle.std.proofs.lemmas.List.Sums.{sum_by-cons}
use Rattle.model_history.proofs.PruneLaws.{IsIn, in_tail}

module _ {X : Type 0} where
  pub list_any-filter : (p c : X → Bool) (xs : List X) → list_any p (filter c xs) ≡ list_any (λ x. c x && p x) xs
  list_any-filter p c [] = refl
  list_any-filter p c (x ∷ xs) = go (c x) (list_any-filter p c xs)
    where
      go : (b : Bool) → list_any p (filter c xs) ≡ list_any (λ x. c x && p x) xs → list_any p (cond b (x ∷ filter c xs) (filter c xs)) ≡ ((b && p x) || list_any (λ x. c x && p x) xs)
      go true rest = ap (λ b. p x || b) rest
      go false rest = rest

  pub any_same : (p q : X → Bool) (xs : List X) → ((k : ℕ) (x : X) → slice_get xs k ≡ Some x → p x ≡ q x) → list_any p xs ≡ list_any q xs
  any_same p q [] same = refl
  any_same p q (x ∷ xs) same = ap (λ b. b || list_any p xs) (same 0 x refl) ∙ ap (λ b. q x || b) (any_same p q xs (λ k y at. same (suc k) y at))

  pub filter-same : (p q : X → Bool) (xs : List X) → ((x : X) → p x ≡ q x) → filter p xs ≡ filter q xs
  filter-same p q [] same = refl
  filter-same p q (x ∷ xs) same = ap (λ b. cond b (x ∷ filter p xs) (filter p xs)) (same x) ∙ ap (λ ys. cond (q x) (x ∷ ys) ys) (filter-same p q xs same)

  pub find-same : (p q : X → Bool) (xs : List X) → ((k : ℕ) (x : X) → slice_get xs k ≡ Some x → p x ≡ q x) → find p xs ≡ find q xs
  find-same p q [] same = refl
  find-same p q (x ∷ xs) same = ap (λ b. cond b (Some x) (find p xs)) (same 0 x refl) ∙ ap (λ o. cond (q x) (Some x) o) (find-same p q xs (λ k y at. same (suc k) y at))

  pub in_filter : (c : X → Bool) (xs : List X) (x : X) → IsIn (filter c xs) x → IsIn xs x
  in_filter c [] x h = absurd (cc h.1)
  in_filter c (y ∷ xs) x h = go (c y) (λ g. in_filter c xs x g) h
    where
      go : (b : Bool) → (IsIn (filter c xs) x → IsIn xs x) → IsIn (cond b (y ∷ filter c xs) (filter c xs)) x → IsIn (y ∷ xs) x
      go true rest (zero, e) = (zero, e)
      go true rest (suc k, e) = in_tail y xs x (rest (k, e))
      go false rest g = in_tail y xs x (rest g)

  pub to_filter : (c : X → Bool) (xs : List X) (x : X) → IsIn xs x → c x ≡ true → IsIn (filter c xs) x
  to_filter c [] x h passes = absurd (cc h.1)
  to_filter c (y ∷ xs) x (zero, e) passes =
      let same : y ≡ x = cc e in
      let yes : c y ≡ true = ap c same ∙ passes in
      rw yes (zero, e)
  to_filter c (y ∷ xs) x (suc k, e) passes = go (c y) (to_filter c xs x (k, e) passes)
    where
      go : (b : Bool) → IsIn (filter c xs) x → IsIn (cond b (y ∷ filter c xs) (filter c xs)) x
      go true h = in_tail y (filter c xs) x h
      go false h = h

module _ {X Y : Type 0} (f : X → Y) where
  pub list_any-map : (p : Y → Bool) (xs : List X) → list_any p (map f xs) ≡ list_any (λ x. p (f x)) xs
  list_any-map p [] = refl
  list_any-map p (x ∷ xs) = ap (λ b. p (f x) || b) (list_any-map p xs)

  pub sum_by-map : (g : Y → ℕ) (xs : List X) → sum_by g (map f xs) ≡ sum_by (λ x. g (f x)) xs
  sum_by-map g [] = refl
  sum_by-map g (x ∷ xs) = let rest = sum_by-map g xs in omega (arith, sum_by-cons g (f x) (map f xs), sum_by-cons (λ x. g (f x)) x xs)

  pub filter_map-map : {Z : Type 0} (g : Y → Option Z) (xs : List X) → filter_map g (map f xs) ≡ filter_map (λ x. g (f x)) xs
  filter_map-map g [] = refl
  filter_map-map g (x ∷ xs) = ap (cons_option (g (f x))) (filter_map-map g xs)

  pub find-map : (p : Y → Bool) (xs : List X) → find p (map f xs) ≡ option_map f (find (λ x. p (f x)) xs)
  find-map p [] = refl
  find-map p (x ∷ xs) = go (p (f x)) (find-map p xs)
    where
      go : (b : Bool) → find p (map f xs) ≡ option_map f (find (λ x. p (f x)) xs) → cond b (Some (f x)) (find p (map f xs)) ≡ option_map f (cond b (Some x) (find (λ x. p (f x)) xs))
      go true rest = refl
      go false rest = rest

  pub slice_get-map : (xs : List X) (k : ℕ) (x : X) → slice_get xs k ≡ Some x → slice_get (map f xs) k ≡ Some (f x)
  slice_get-map [] k x at = absurd (cc at)
  slice_get-map (y ∷ xs) zero x at = let same : y ≡ x = cc at in ap (λ z. Some (f z)) same
  slice_get-map (y ∷ xs) (suc k) x at = slice_get-map xs k x at

  -- a list beside what it is mapped to
  pub beside_map : (xs : List X) (k : ℕ) (j : X × Y) → slice_get (zip xs (map f xs)) k ≡ Some j → (j.1 ≡ f j.0) × (slice_get xs k ≡ Some j.0)
  beside_map [] k j at = absurd (cc at)
  beside_map (x ∷ xs) zero j at = let same : (x, f x) ≡ j = cc at in (sym (ap (λ (p : X × Y). p.1) same) ∙ ap (λ (p : X × Y). f p.0) same, ap (λ (p : X × Y). Some p.0) same)
  beside_map (x ∷ xs) (suc k) j at = beside_map xs k j at

  pub first_of_zip : {Z : Type 0} (xs : List X) (zs : List Z) → length zs ≡ length xs → map (λ (j : X × Z). f j.0) (zip xs zs) ≡ map f xs
  first_of_zip [] zs e = refl
  first_of_zip (x ∷ xs) [] e = absurd (omega arith)
  first_of_zip (x ∷ xs) (z ∷ zs) e = ap (λ ys. f x ∷ ys) (first_of_zip xs zs (omega arith))
