-- The items of a list, and its last ones.
use Rattle.std.proofs.Common.{◌≡◌, ℕ, zero, suc, ◌+◌, ◌-◌, ◌≤◌, List, [], ◌∷◌, ◌++◌, length, drop, refl, sym, ap, ◌∙◌, arith, Some, ◌⊎◌, length-append}
use Rattle.std.specs.Prelude.{slice_get}
use Rattle.model_history.proofs.HistoryLaws.{slice_get-push}
use Rattle.model_history.proofs.PartLaws.{slice_get-dropped}
use Rattle.data_deltalog.specs.Contents.{last_of}

module _ {X : Type 0} where
  -- an item of the last ones is one of all
  pub get_last : (n : ℕ) (xs : List X) (k : ℕ) → slice_get (last_of n xs) k ≡ slice_get xs (length xs - n + k)
  get_last n xs k = slice_get-dropped xs (length xs - n) k

  -- an item among the last of a list and one more
  pub get_appended : (n : ℕ) (xs : List X) (x y : X) (k : ℕ) → slice_get (last_of n (xs ++ x ∷ [])) k ≡ Some y
      → (slice_get xs (length xs + 1 - n + k) ≡ Some y) ⊎ ((length xs + 1 - n + k ≡ length xs) × (x ≡ y))
  get_appended n xs x y k e =
      let more : length (xs ++ x ∷ []) ≡ length xs + 1 = length-append xs (x ∷ []) in
      slice_get-push xs x y (length xs + 1 - n + k) (sym (ap (λ m. slice_get (xs ++ x ∷ []) (m - n + k)) more) ∙ sym (get_last n (xs ++ x ∷ []) k) ∙ e)

  pub drop_at_index : (xs : List X) (k : ℕ) (x : X) → slice_get xs k ≡ Some x → drop k xs ≡ x ∷ drop (k + 1) xs
  drop_at_index xs k x e = from_suc k xs e ∙ (let one : suc k ≡ k + 1 = omega arith in ap (λ n. x ∷ drop n xs) one)
    where
      from_suc : (k : ℕ) (xs : List X) → slice_get xs k ≡ Some x → drop k xs ≡ x ∷ drop (suc k) xs
      from_suc k [] e = absurd (cc e)
      from_suc zero (y ∷ ys) e = let same : y ≡ x = cc e in ap (λ z. z ∷ ys) same
      from_suc (suc k) (y ∷ ys) e = from_suc k ys e

  pub dropped_all : (xs : List X) (k : ℕ) → length xs ≤ k → drop k xs ≡ []
  dropped_all [] zero h = refl
  dropped_all [] (suc k) h = refl
  dropped_all (x ∷ xs) zero h = absurd (omega arith)
  dropped_all (x ∷ xs) (suc k) h = dropped_all xs k (omega arith)
