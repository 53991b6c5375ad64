-- Whether an entry has records.
use Rattle.std.proofs.Common.{◌≡◌, ℕ, zero, suc, ◌<◌, List, [], ◌∷◌, Bool, true, false, ◌||◌, refl, ap, ◌∙◌, arith}
use Rattle.std.specs.Prelude.{nat_lt}
use Rattle.std.specs.List.{list_any}
use Rattle.std.proofs.lemmas.Bool.Decides.{nat_tests}
use Rattle.model_history.specs.Table.{identity_limit, identities}
use Rattle.model_history.specs.History.{at}
use Rattle.model_history.proofs.PruneLaws.{IsIn, in_tail, in_range, at_identities}
use Rattle.model_members.specs.Entry.{Entry}
use Rattle.report_texts.specs.Entries.{has_records}

any_in : (p : ℕ → Bool) (xs : List ℕ) (x : ℕ) → IsIn xs x → p x ≡ true → list_any p xs ≡ true
any_in p [] x h e = absurd (cc h.1)
any_in p (y ∷ xs) x (zero, is) e = let same : y ≡ x = cc is in ap (λ b. b || list_any p xs) (ap p same ∙ e)
any_in p (y ∷ xs) x (suc k, is) e = go (p y) (any_in p xs x (k, is) e)
  where
    go : (b : Bool) → list_any p xs ≡ true → (b || list_any p xs) ≡ true
    go true later = refl
    go false later = later

none_in : (p : ℕ → Bool) (xs : List ℕ) → ((x : ℕ) → IsIn xs x → p x ≡ false) → list_any p xs ≡ false
none_in p [] h = refl
none_in p (y ∷ xs) h = ap (λ b. b || list_any p xs) (h y (zero, refl)) ∙ none_in p xs (λ x is. h x (in_tail y xs x is))

module _ {Op : Type 0} (entry : Entry Op) where
  pub has_one : (i : ℕ) → i < identity_limit → 0 < at entry.history i → has_records entry ≡ true
  unfolding has_records
  has_one i small some = any_in (λ i. nat_lt 0 (at entry.history i)) identities i (at_identities i small) (grind (arith, nat_tests))

  pub has_none : ((i : ℕ) → i < identity_limit → at entry.history i ≡ 0) → has_records entry ≡ false
  unfolding has_records
  has_none h = none_in (λ i. nat_lt 0 (at entry.history i)) identities (λ i is. let r = in_range 0 identity_limit i is in ap (λ n. nat_lt 0 n) (h i (omega (arith, r.1))))
