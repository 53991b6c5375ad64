-- Nothing is lost or doubled by a prune: the shares of the identities without a prune add up to the total.
use Rattle.std.proofs.Common.{◌≡◌, ◌≢◌, ℕ, zero, suc, ◌+◌, ◌<◌, ◌≤◌, List, [], ◌∷◌, refl, sym, ap, ◌∙◌, arith, Bool, true, false, Some, inl, inr}
use Rattle.std.specs.Prelude.{if◌then◌else◌, slice_get, sum_by, flat_map}
use Rattle.std.specs.List.{range_with_len}
use Rattle.std.proofs.lemmas.List.Sums.{sum_by-cons, sum_by-append}
use Rattle.std.proofs.lemmas.Bool.{cases_lt}
use Rattle.std.proofs.lemmas.Bool.Decides.{eqb_tells}
use Rattle.model_history.specs.Table.{identity_limit, identities}
use Rattle.model_history.specs.History.{Action, Record, History, Stamped, HasRecord, IsHistory, IsExactlyPruned, stamped_from, is_prune_of, is_pruned}
use Rattle.model_history.specs.History.Action.{Operation, Prune}
use Rattle.model_meanings.specs.Counter.{amount_of, total, share}
use Rattle.model_history.proofs.PruneLaws.{range_at, pruned_has, has_pruned, prune_tells, prune_passes, in_range}
use Rattle.model_meanings.proofs.CounterLaws.{sum_by-same, brought_by, share_flat, share_equation}

-- SUMS

module _ {X : Type 0} where
  sum_zero : (f : X → ℕ) (xs : List X) → ((k : ℕ) (x : X) → slice_get xs k ≡ Some x → f x ≡ 0) → sum_by f xs ≡ 0
  sum_zero f [] h = refl
  sum_zero f (x ∷ xs) h = let a = h 0 x refl in let b = sum_zero f xs (λ k y e. h (suc k) y e) in omega (arith, sum_by-cons f x xs)

  sum_single : (f : X → ℕ) (xs : List X) (k : ℕ) (x : X) → slice_get xs k ≡ Some x → ((m : ℕ) (y : X) → slice_get xs m ≡ Some y → m ≢ k → f y ≡ 0) → sum_by f xs ≡ f x
  sum_single f [] k x e h = absurd (cc e)
  sum_single f (y ∷ xs) zero x e h =
      let same : f y ≡ f x = (let p : y ≡ x = cc e in ap f p) in
      let rest = sum_zero f xs (λ k z g. h (suc k) z g (λ c. absurd (omega (arith, c)))) in
      omega (arith, sum_by-cons f y xs)
  sum_single f (y ∷ xs) (suc k) x e h =
      let head = h 0 y refl (λ c. absurd (omega (arith, c))) in
      let rest = sum_single f xs k x e (λ m z g n. h (suc m) z g (λ c. n (omega (arith, c)))) in
      omega (arith, sum_by-cons f y xs)

  sum_add : (f g : X → ℕ) (xs : List X) → sum_by (λ x. f x + g x) xs ≡ sum_by f xs + sum_by g xs
  sum_add f g [] = refl
  sum_add f g (x ∷ xs) = let rest = sum_add f g xs in omega (arith, sum_by-cons (λ x. f x + g x) x xs, sum_by-cons f x xs, sum_by-cons g x xs)

sum_swap : {X Y : Type 0} (f : X → Y → ℕ) (xs : List X) (ys : List Y) → sum_by (λ x. sum_by (f x) ys) xs ≡ sum_by (λ y. sum_by (λ x. f x y) xs) ys
sum_swap f [] ys = sym (sum_zero (λ y. 0) ys (λ k y e. refl))
sum_swap f (x ∷ xs) ys =
    sum_by-cons (λ x. sum_by (f x) ys) x xs ∙ ap (λ n. sum_by (f x) ys + n) (sum_swap f xs ys) ∙ sym (sum_add (f x) (λ y. sum_by (λ x. f x y) xs) ys)
    ∙ sum_by-same (λ y. f x y + sum_by (λ x. f x y) xs) (λ y. sum_by (λ x. f x y) (x ∷ xs)) ys (λ k y e. sym (sum_by-cons (λ x. f x y) x xs))

sum_flat : {X Y : Type 0} (f : Y → ℕ) (g : X → List Y) (xs : List X) → sum_by f (flat_map g xs) ≡ sum_by (λ x. sum_by f (g x)) xs
sum_flat f g [] = refl
sum_flat f g (x ∷ xs) = sum_by-append f (g x) (flat_map g xs) ∙ ap (λ n. sum_by f (g x) + n) (sum_flat f g xs) ∙ sym (sum_by-cons (λ x. sum_by f (g x)) x xs)

-- an identity stands at its own place
at_place : (m i : ℕ) → slice_get identities m ≡ Some i → m ≡ i
at_place m i e = let p = go 0 identity_limit m i e in omega arith
  where
    go : (first n m i : ℕ) → slice_get (range_with_len first n) m ≡ Some i → first + m ≡ i
    go first zero m i e = absurd (cc e)
    go first (suc n) zero i e = let p : first ≡ i = cc e in omega arith
    go first (suc n) (suc m) i e = let p = go (first + 1) n m i e in omega arith

own_place : (i : ℕ) → i < identity_limit → slice_get identities i ≡ Some i
own_place i h = let z : 0 + i ≡ i = omega arith in range_at 0 identity_limit i h ∙ ap Some z

module _ {Op : Type 0} (amount : Op → ℕ) (H : History Op) (history : IsHistory H) (exact : IsExactlyPruned H) where
  abbrev f : ℕ → ℕ
  f = share amount H

  -- what a record brings by a prune
  abbrev part : Action Op → ℕ
  part (Operation op) = 0
  part (Prune r) = f r

  -- what it brings by a prune of q
  abbrev part_of : ℕ → Action Op → ℕ
  part_of q action = if is_prune_of q action then f q else 0

  split : (action : Action Op) → brought_by amount f action ≡ amount_of amount action + part action
  split (Operation op) = omega arith
  split (Prune r) = omega arith

  nothing_past : (r : ℕ) → identity_limit ≤ r → f r ≡ 0
  nothing_past r h = share_equation amount H history r ∙ ap (sum_by _) (history.within r h)

  part_sum : (action : Action Op) → part action ≡ sum_by (λ q. part_of q action) identities
  part_sum (Operation op) = sym (sum_zero (λ q. part_of q (Operation op)) identities (λ k q e. refl))
  part_sum (Prune r) = elim (cases_lt r identity_limit) [
    | inl small ↦ sym (sum_single (λ q. part_of q (Prune r)) identities r r (own_place r small) (λ m q e other. by_test r q (λ is. other (at_place m q e ∙ sym is)))
        ∙ ap (λ b. if b then f r else 0) (prune_passes Op r))
    | inr large ↦ nothing_past r large ∙ sym (sum_zero (λ q. part_of q (Prune r)) identities (λ k q e. by_test r q (λ is. absurd (let b = in_range 0 identity_limit q (k, e) in omega (arith, b.1, is)))))
  ]
    where
      by_test : (r q : ℕ) → (r ≡ q → ⊥) → part_of q (Prune r) ≡ 0
      by_test r q never = elim (eqb_tells r q) [ inl is ↦ absurd (never is.1) | inr isnt ↦ ap (λ b. if b then f q else 0) isnt.0 ]

  -- no record of these prunes q
  zero_row : (q i : ℕ) → ((k : ℕ) (x : Record Op) → HasRecord H i k x → x.action ≢ Prune q) → sum_by (λ (x : Record Op). part_of q x.action) (H i) ≡ 0
  zero_row q i none = sum_zero (λ (x : Record Op). part_of q x.action) (H i) (λ k x e. by_test x.action (is_prune_of q x.action) refl (none k x e))
    where
      by_test : (action : Action Op) (b : Bool) → is_prune_of q action ≡ b → action ≢ Prune q → (if b then f q else 0) ≡ 0
      by_test action true is never = absurd (never (prune_tells q action is))
      by_test action false is never = refl

  row_of : (q : ℕ) → sum_by (λ i. sum_by (λ (x : Record Op). part_of q x.action) (H i)) identities ≡ (if is_pruned H q then f q else 0)
  row_of q = by_test (is_pruned H q) refl
    where
      by_test : (b : Bool) → is_pruned H q ≡ b → sum_by (λ i. sum_by (λ (x : Record Op). part_of q x.action) (H i)) identities ≡ (if b then f q else 0)
      by_test false e = sum_zero (λ i. sum_by (λ (x : Record Op). part_of q x.action) (H i)) identities (λ k i at. zero_row q i (λ m x has prune. let c = sym e ∙ has_pruned H q i m x (k, at) has prune in cc c))
      by_test true e =
          let p = pruned_has H q e in
          sum_single (λ i. sum_by (λ (x : Record Op). part_of q x.action) (H i)) identities p.0 p.0 (own_place p.0 p.3)
          (λ m j at other. zero_row q j (λ n y has prune. other (at_place m j at ∙ sym (exact.once p.0 p.1 j n p.2 y q p.4 has p.5 prune).0)))
          ∙ sum_single (λ (x : Record Op). part_of q x.action) (H p.0) p.1 p.2 p.4 (λ m y has other. one_only p.0 p.1 p.2 m y p.4 has p.5 other (is_prune_of q y.action) refl)
          ∙ ap (λ b. if b then f q else 0) (ap (is_prune_of q) p.5 ∙ prune_passes Op q)
        where
          one_only : (i k : ℕ) (x : Record Op) (m : ℕ) (y : Record Op) → HasRecord H i k x → HasRecord H i m y → x.action ≡ Prune q → m ≢ k → (b : Bool) → is_prune_of q y.action ≡ b → (if b then f q else 0) ≡ 0
          one_only i k x m y has has' prune other true is = absurd (other (sym (exact.once i k i m x y q has has' prune (prune_tells q y.action is)).1))
          one_only i k x m y has has' prune other false is = refl

  sum_stamped : (g : Action Op → ℕ) (i n : ℕ) (rs : List (Record Op)) → sum_by (λ (x : Stamped Op). g x.action) (stamped_from i n rs) ≡ sum_by (λ (r : Record Op). g r.action) rs
  sum_stamped g i n [] = refl
  sum_stamped g i n (r ∷ rs) = sum_by-cons (λ (x : Stamped Op). g x.action) (record { origin = i; number = n; action = r.action; past = r.past }) (stamped_from i (suc n) rs) ∙ ap (λ m. g r.action + m) (sum_stamped g i (suc n) rs) ∙ sym (sum_by-cons (λ (r : Record Op). g r.action) r rs)

  total_rows : total amount H ≡ sum_by (λ i. sum_by (λ (r : Record Op). amount_of amount r.action) (H i)) identities
  total_rows = sum_flat (λ (x : Stamped Op). amount_of amount x.action) (λ i. stamped_from i 1 (H i)) identities
      ∙ sum_by-same (λ i. sum_by (λ (x : Stamped Op). amount_of amount x.action) (stamped_from i 1 (H i))) (λ i. sum_by (λ (r : Record Op). amount_of amount r.action) (H i)) identities (λ k i e. sum_stamped (amount_of amount) i 1 (H i))

  part_rows : sum_by (λ i. sum_by (λ (r : Record Op). part r.action) (H i)) identities ≡ sum_by (λ q. if is_pruned H q then f q else 0) identities
  part_rows =
      sum_by-same (λ i. sum_by (λ (r : Record Op). part r.action) (H i)) (λ i. sum_by (λ q. sum_by (λ (r : Record Op). part_of q r.action) (H i)) identities) identities
      (λ k i e. sum_by-same (λ (r : Record Op). part r.action) (λ (r : Record Op). sum_by (λ q. part_of q r.action) identities) (H i) (λ m r g. part_sum r.action)
      ∙ sum_swap (λ (r : Record Op) q. part_of q r.action) (H i) identities)
      ∙ sum_swap (λ i q. sum_by (λ (r : Record Op). part_of q r.action) (H i)) identities identities
      ∙ sum_by-same (λ q. sum_by (λ i. sum_by (λ (r : Record Op). part_of q r.action) (H i)) identities) (λ q. if is_pruned H q then f q else 0) identities (λ k q e. row_of q)

  all_shares : sum_by f identities ≡ total amount H + sum_by (λ q. if is_pruned H q then f q else 0) identities
  all_shares =
      sum_by-same f (λ i. sum_by (λ (r : Record Op). amount_of amount r.action) (H i) + sum_by (λ (r : Record Op). part r.action) (H i)) identities
      (λ k i e. share_flat amount H history exact i
      ∙ sum_by-same (λ (r : Record Op). brought_by amount f r.action) (λ (r : Record Op). amount_of amount r.action + part r.action) (H i) (λ m r g. split r.action)
      ∙ sum_add (λ (r : Record Op). amount_of amount r.action) (λ (r : Record Op). part r.action) (H i))
      ∙ sum_add (λ i. sum_by (λ (r : Record Op). amount_of amount r.action) (H i)) (λ i. sum_by (λ (r : Record Op). part r.action) (H i)) identities
      ∙ ap (λ n. n + sum_by (λ i. sum_by (λ (r : Record Op). part r.action) (H i)) identities) (sym total_rows)
      ∙ ap (λ n. total amount H + n) part_rows

  same_before : (all x y z : ℕ) → all ≡ x + z → all ≡ y + z → x ≡ y
  same_before all x y z a b = omega arith

  either : (b : Bool) (n : ℕ) → n ≡ (if b then 0 else n) + (if b then n else 0)
  either true n = omega arith
  either false n = omega arith

  -- the shares of the identities without a prune add up to the total
  pub shares_add_up : sum_by (λ i. if is_pruned H i then 0 else share amount H i) identities ≡ total amount H
  shares_add_up =
      let both : sum_by f identities ≡ sum_by (λ i. if is_pruned H i then 0 else f i) identities + sum_by (λ i. if is_pruned H i then f i else 0) identities =
      sum_by-same f (λ i. (if is_pruned H i then 0 else f i) + (if is_pruned H i then f i else 0)) identities (λ k i e. either (is_pruned H i) (f i))
      ∙ sum_add (λ i. if is_pruned H i then 0 else f i) (λ i. if is_pruned H i then f i else 0) identities in
      same_before (sum_by f identities) (sum_by (λ i. if is_pruned H i then 0 else f i) identities) (total amount H) (sum_by (λ i. if is_pruned H i then f i else 0) identities) both all_shares
