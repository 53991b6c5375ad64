-- Lists by identity with an empty item more at the end, and with another item at a place.
use Rattle.std.proofs.Common.{◌≡◌, ◌≢◌, ℕ, zero, suc, ◌+◌, ◌<◌, ◌≤◌, List, [], ◌∷◌, ◌++◌, length, set, drop, get_or, refl, sym, ap, ◌∙◌, arith, Bool, true, Some, None, inl, inr}
use Rattle.std.specs.Prelude.{◌==◌, if◌then◌else◌, unwrap_or, find, slice_get}
use Rattle.std.proofs.lemmas.List.{drop_more}
use Rattle.std.proofs.lemmas.Option.{slice_get-get_or}
use Rattle.std.proofs.lemmas.Bool.Decides.{eqb_tells}

pub none_past : {X : Type 0} (xs : List X) (n : ℕ) → length xs ≤ n → slice_get xs n ≡ None
none_past [] n h = refl
none_past (x ∷ xs) zero h = absurd (omega arith)
none_past (x ∷ xs) (suc n) h = none_past xs n (omega arith)

-- an item that was looked up
pub some_there : {X : Type 0} (xs : List X) (n : ℕ) (x : X) → n < length xs → x ≡ get_or xs n x → Some x ≡ slice_get xs n
some_there xs n x small is = sym (slice_get-get_or xs n x small ∙ ap Some (sym is))

module _ {X : Type 0} (nothing : X) where
  abbrev pub at_place : List X → ℕ → X
  at_place xs i = unwrap_or (slice_get xs i) nothing

  -- an empty item at the end changes nothing
  pub place-push : (xs : List X) (i : ℕ) → at_place (xs ++ nothing ∷ []) i ≡ at_place xs i
  place-push [] zero = refl
  place-push [] (suc i) = refl
  place-push (x ∷ xs) zero = refl
  place-push (x ∷ xs) (suc i) = place-push xs i

  set_at : (xs : List X) (n : ℕ) (x : X) (i : ℕ) → n < length xs → i ≡ n → at_place (set xs n x) i ≡ x
  set_at [] n x i small same = absurd (omega arith)
  set_at (y ∷ xs) zero x zero small same = refl
  set_at (y ∷ xs) zero x (suc i) small same = absurd (omega arith)
  set_at (y ∷ xs) (suc n) x zero small same = absurd (omega arith)
  set_at (y ∷ xs) (suc n) x (suc i) small same = set_at xs n x i (omega arith) (omega arith)

  set_other : (xs : List X) (n : ℕ) (x : X) (i : ℕ) → i ≢ n → at_place (set xs n x) i ≡ at_place xs i
  set_other [] n x i isnt = refl
  set_other (y ∷ xs) zero x zero isnt = absurd (isnt refl)
  set_other (y ∷ xs) zero x (suc i) isnt = refl
  set_other (y ∷ xs) (suc n) x zero isnt = refl
  set_other (y ∷ xs) (suc n) x (suc i) isnt = set_other xs n x i (λ e. isnt (ap suc e))

  -- another item at a place
  pub place-set : (xs : List X) (n : ℕ) (x : X) → n < length xs → (i : ℕ) → at_place (set xs n x) i ≡ (if i == n then x else at_place xs i)
  place-set xs n x small i = elim (eqb_tells i n) [
    | inl is ↦ set_at xs n x i small is.1 ∙ sym (ap (λ b. if b then x else at_place xs i) is.0)
    | inr isnt ↦ set_other xs n x i isnt.1 ∙ sym (ap (λ b. if b then x else at_place xs i) isnt.0)
  ]

  -- nothing past the end
  pub place_past : (xs : List X) (n : ℕ) → length xs ≤ n → at_place xs n ≡ nothing
  place_past xs n h = ap (λ o. unwrap_or o nothing) (none_past xs n h)

  -- what stands at a place
  pub place_is : (xs : List X) (n : ℕ) (x : X) → slice_get xs n ≡ Some x → at_place xs n ≡ x
  place_is xs n x e = ap (λ o. unwrap_or o nothing) e

-- SEARCHES

-- an item that passes the test, where none before it does
pub found_here : {X : Type 0} (p : X → Bool) (xs : List X) (n : ℕ) (x : X) → n < length xs → x ≡ get_or xs n x → p x ≡ true → find p (drop n xs) ≡ find p xs → (y : X) × (slice_get xs n ≡ Some y) × (find p xs ≡ Some y)
found_here p xs n x small is passes so_far = (
  x,
  slice_get-get_or xs n x small ∙ ap Some (sym is),
  sym so_far ∙ ap (find p) (drop_more xs n x small ∙ ap (λ y. y ∷ drop (n + 1) xs) (sym is)) ∙ ap (λ b. if b then Some x else find p (drop (n + 1) xs)) passes,
)
