-- Clients and their calls, counted.
use Rattle.std.proofs.Common.{◌≡◌, ℕ, zero, suc, ◌+◌, ◌<◌, List, [], ◌∷◌, ◌++◌, map, slice_get, Some, refl, ap, sym, ◌∙◌, arith}
use Rattle.std.specs.List.{Contains}
use mathlib.Core.Logic.{dite}
use native.Mathlib.Decide.{ℕ_discrete}
use Rattle.thread_cell.specs.declared.view.ClientCalls.{ClientCalls}
use Rattle.thread_cell.specs.Lists.{weigh, same, times}
use Rattle.thread_cell.specs.Views.{numbers}
use Rattle.thread_cell.proofs.Lists.{same_refl, same_apart}

pub numbers-push : (c : ℕ) (clients : List ClientCalls) (who : ClientCalls) → times c (numbers (clients ++ who ∷ [])) ≡ times c (numbers clients) + same c who.number
numbers-push c [] who = omega arith
numbers-push c (x ∷ clients) who = let more = numbers-push c clients who in omega arith

module _ {A : Type 0} where
  pub weigh_alike : (f g : A → ℕ) (xs : List A) → ((k : ℕ) (x : A) → slice_get xs k ≡ Some x → f x ≡ g x) → weigh f xs ≡ weigh g xs
  weigh_alike f g [] each = refl
  weigh_alike f g (x ∷ xs) each = let here = each 0 x refl in let more = weigh_alike f g xs (λ k y is. each (suc k) y is) in omega arith

  pub weigh_none : (xs : List A) → weigh (λ (x : A). 0) xs ≡ 0
  weigh_none [] = refl
  weigh_none (x ∷ xs) = let more = weigh_none xs in omega arith

  pub get_map : {B : Type 0} (f : A → B) (xs : List A) (k : ℕ) (y : B) → slice_get (map f xs) k ≡ Some y → (x : A) × (slice_get xs k ≡ Some x) × (f x ≡ y)
  get_map f [] k y is = absurd cc
  get_map f (x ∷ xs) zero y is = (x, refl, cc is)
  get_map f (x ∷ xs) (suc k) y is = get_map f xs k y is

same_either : (x y : ℕ) → same x y ≡ same y x
same_either x y = dite (ℕ_discrete x y)
    (λ e. ap (λ (z : ℕ). same z y) e ∙ sym (ap (λ (z : ℕ). same y z) e))
    (λ n. same_apart x y n ∙ sym (same_apart y x (λ e. n (sym e))))

pub weigh_numbers : (c : ℕ) (clients : List ClientCalls) → weigh (λ (who : ClientCalls). same who.number c) clients ≡ times c (numbers clients)
weigh_numbers c [] = refl
weigh_numbers c (x ∷ clients) = let here = same_either x.number c in let more = weigh_numbers c clients in omega arith

pub contained : (xs : List ℕ) (c : ℕ) → Contains xs c → 0 < times c xs
contained [] c (k, within, is) = absurd (omega arith)
contained (x ∷ xs) c (zero, within, is) = let one = ap (same c) is ∙ same_refl c in omega arith
contained (x ∷ xs) c (suc k, within, is) = let more = contained xs c (k, omega arith, is) in omega arith
