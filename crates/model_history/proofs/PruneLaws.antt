-- Elements of lists and of all records, and when a history has a prune of an identity.
use Rattle.std.proofs.Common.{◌≡◌, ◌≢◌, ℕ, zero, suc, ◌+◌, ◌<◌, ◌≤◌, List, [], ◌∷◌, ◌++◌, refl, sym, ap, subst, ◌∙◌, arith, Bool, true, false, Option, Some, None, ◌⊎◌, inl, inr}
use Rattle.std.specs.Prelude.{if◌then◌else◌, slice_get, find, flat_map, is_some}
use Rattle.std.specs.List.{range_with_len}
use Rattle.std.proofs.lemmas.Bool.Decides.{eqb_tells}
use Rattle.model_history.specs.Table.{identity_limit, identities}
use Rattle.model_history.specs.History.{Action, Record, History, Stamped, stamped_from, all_records, is_prune_of, prune_of, is_pruned, with_record, HasRecord}
use Rattle.model_history.specs.History.Action.{Operation, Prune}
use Rattle.model_history.proofs.HistoryLaws.{has_with_record}

-- SEARCHES

pub found : {X : Type 0} (p : X → Bool) (xs : List X) (x : X) → find p xs ≡ Some x → p x ≡ true
found p [] x e = absurd (cc e)
found p (y ∷ xs) x e = go (p y) refl (λ e'. found p xs x e')
  where
    go : (b : Bool) → p y ≡ b → (find p xs ≡ Some x → p x ≡ true) → p x ≡ true
    go true is later = let same : y ≡ x = (let e' = rw is at e in cc e') in rw (← same) is
    go false is later = later (rw is at e)

pub range_at : (first n i : ℕ) → i < n → slice_get (range_with_len first n) i ≡ Some (first + i)
range_at first zero i h = absurd (omega arith)
range_at first (suc n) zero h = let e : first ≡ first + 0 = omega arith in ap Some e
range_at first (suc n) (suc i) h = let e : first + 1 + i ≡ first + suc i = omega arith in range_at (first + 1) n i (omega arith) ∙ ap Some e

-- ELEMENTS OF LISTS

-- the list has this element
abbrev pub IsIn : {X : Type 0} → List X → X → Type 0
IsIn xs x = (k : ℕ) × (slice_get xs k ≡ Some x)

pub in_tail : {X : Type 0} (y : X) (xs : List X) (x : X) → IsIn xs x → IsIn (y ∷ xs) x
in_tail y xs x h = (suc h.0, h.1)

pub in_append : {X : Type 0} (xs ys : List X) (x : X) → IsIn (xs ++ ys) x → IsIn xs x ⊎ IsIn ys x
in_append [] ys x h = inr h
in_append (y ∷ xs) ys x (zero, e) = inl (zero, e)
in_append (y ∷ xs) ys x (suc k, e) = elim (in_append xs ys x (k, e)) [ inl h ↦ inl (suc h.0, h.1) | inr h ↦ inr h ]

pub in_left : {X : Type 0} (xs ys : List X) (x : X) → IsIn xs x → IsIn (xs ++ ys) x
in_left [] ys x h = absurd (cc h.1)
in_left (y ∷ xs) ys x (zero, e) = (zero, e)
in_left (y ∷ xs) ys x (suc k, e) = let h = in_left xs ys x (k, e) in (suc h.0, h.1)

pub in_right : {X : Type 0} (xs ys : List X) (x : X) → IsIn ys x → IsIn (xs ++ ys) x
in_right [] ys x h = h
in_right (y ∷ xs) ys x h = in_tail y (xs ++ ys) x (in_right xs ys x h)

pub in_flat_map : {X Y : Type 0} (f : X → List Y) (xs : List X) (y : Y) → IsIn (flat_map f xs) y → (x : X) × IsIn xs x × IsIn (f x) y
in_flat_map f [] y h = absurd (cc h.1)
in_flat_map f (x ∷ xs) y h = elim (in_append (f x) (flat_map f xs) y h) [
  | inl here ↦ (x, (zero, refl), here)
  | inr later ↦ let r = in_flat_map f xs y later in (r.0, in_tail x xs r.0 r.1, r.2)
]

pub to_flat_map : {X Y : Type 0} (f : X → List Y) (xs : List X) (x : X) (y : Y) → IsIn xs x → IsIn (f x) y → IsIn (flat_map f xs) y
to_flat_map f [] x y h g = absurd (cc h.1)
to_flat_map f (z ∷ xs) x y (zero, e) g = let same : z ≡ x = cc e in in_left (f z) (flat_map f xs) y (subst (λ w. IsIn (f w) y) (sym same) g)
to_flat_map f (z ∷ xs) x y (suc k, e) g = in_right (f z) (flat_map f xs) y (to_flat_map f xs x y (k, e) g)

pub in_range : (first n i : ℕ) → IsIn (range_with_len first n) i → (first ≤ i) × (i < first + n)
in_range first zero i h = absurd (cc h.1)
in_range first (suc n) i (zero, e) = let same : first ≡ i = cc e in (omega arith, omega arith)
in_range first (suc n) i (suc k, e) = let r = in_range (first + 1) n i (k, e) in (omega (arith, r.0), omega (arith, r.1))

found_in : {X : Type 0} (p : X → Bool) (xs : List X) (x : X) → find p xs ≡ Some x → IsIn xs x
found_in p [] x e = absurd (cc e)
found_in p (y ∷ xs) x e = go (p y) refl (λ e'. found_in p xs x e')
  where
    go : (b : Bool) → p y ≡ b → (find p xs ≡ Some x → IsIn xs x) → IsIn (y ∷ xs) x
    go true is later = let same : y ≡ x = (let e' = rw is at e in cc e') in (zero, ap Some same)
    go false is later = in_tail y xs x (later (rw is at e))

find_is_some : {X : Type 0} (p : X → Bool) (xs : List X) (x : X) → IsIn xs x → p x ≡ true → is_some (find p xs) ≡ true
find_is_some p [] x h passes = absurd (cc h.1)
find_is_some p (y ∷ xs) x (zero, e) passes = let same : y ≡ x = cc e in rw (same, passes) refl
find_is_some p (y ∷ xs) x (suc k, e) passes = go (p y) (find_is_some p xs x (k, e) passes)
  where
    go : (b : Bool) → is_some (find p xs) ≡ true → is_some (if b then Some y else find p xs) ≡ true
    go true later = refl
    go false later = later

-- PRUNES

pub at_identities : (i : ℕ) → i < identity_limit → IsIn identities i
at_identities i h = (i, (let z : 0 + i ≡ i = omega arith in range_at 0 identity_limit i h ∙ ap Some z))

pub prune_passes : (Op : Type 0) (q : ℕ) → is_prune_of {Op = Op} q (Prune q) ≡ true
prune_passes Op q = elim (eqb_tells q q) [ inl is ↦ is.0 | inr isnt ↦ absurd (isnt.1 refl) ]

module _ {Op : Type 0} where
  pub in_stamped : (i n : ℕ) (rs : List (Record Op)) (x : Stamped Op) → IsIn (stamped_from i n rs) x → (k : ℕ) × (slice_get rs k ≡ Some (record { action = x.action; past = x.past })) × (x.origin ≡ i)
  in_stamped i n [] x h = absurd (cc h.1)
  in_stamped i n (r ∷ rs) x (zero, e) =
      let same : record { origin = i; number = n; action = r.action; past = r.past } ≡ x = cc e in
      (zero, ap (λ (y : Stamped Op). Some (record { action = y.action; past = y.past })) same, sym (ap (λ (y : Stamped Op). y.origin) same))
  in_stamped i n (r ∷ rs) x (suc k, e) = let h = in_stamped i (suc n) rs x (k, e) in (suc h.0, h.1, h.2)

  pub to_stamped : (i n : ℕ) (rs : List (Record Op)) (k : ℕ) (r : Record Op) → slice_get rs k ≡ Some r → (x : Stamped Op) × IsIn (stamped_from i n rs) x × (x.action ≡ r.action)
  to_stamped i n [] k r e = absurd (cc e)
  to_stamped i n (s ∷ rs) zero r e = let same : s ≡ r = cc e in (record { origin = i; number = n; action = s.action; past = s.past }, (zero, refl), ap (λ (y : Record Op). y.action) same)
  to_stamped i n (s ∷ rs) (suc k) r e = let h = to_stamped i (suc n) rs k r e in (h.0, in_tail _ (stamped_from i (suc n) rs) h.0 h.1, h.2)

  pub prune_tells : (q : ℕ) (action : Action Op) → is_prune_of q action ≡ true → action ≡ Prune q
  prune_tells q (Operation op) e = absurd (cc e)
  prune_tells q (Prune r) e = elim (eqb_tells r q) [ inl is ↦ ap Prune is.1 | inr isnt ↦ absurd (let f = sym e ∙ isnt.0 in cc f) ]

  -- a history that is pruned of q has a prune of it
  pub pruned_has : (H : History Op) (q : ℕ) → is_pruned H q ≡ true → (i : ℕ) × (k : ℕ) × (x : Record Op) × (i < identity_limit) × HasRecord H i k x × (x.action ≡ Prune q)
  pruned_has H q e = go (prune_of H q) refl e
    where
      go : (o : Option (Stamped Op)) → prune_of H q ≡ o → is_some o ≡ true → (i : ℕ) × (k : ℕ) × (x : Record Op) × (i < identity_limit) × HasRecord H i k x × (x.action ≡ Prune q)
      go None is e' = absurd (cc e')
      go (Some x) is e' =
          let member = in_flat_map (λ i. stamped_from i 1 (H i)) identities x (found_in (λ (x : Stamped Op). is_prune_of q x.action) (all_records H) x is) in
          let here = in_stamped member.0 1 (H member.0) x member.2 in (
            member.0,
            here.0,
            record { action = x.action; past = x.past },
            (let r = in_range 0 identity_limit member.0 member.1 in omega (arith, r.1)),
            here.1,
            prune_tells q x.action (found (λ (x : Stamped Op). is_prune_of q x.action) (all_records H) x is),
          )

  pub has_pruned : (H : History Op) (q i k : ℕ) (x : Record Op) → IsIn identities i → HasRecord H i k x → x.action ≡ Prune q → is_pruned H q ≡ true
  has_pruned H q i k x small has e =
      let s = to_stamped i 1 (H i) k x has in
      find_is_some (λ (x : Stamped Op). is_prune_of q x.action) (all_records H) s.0 (to_flat_map (λ i. stamped_from i 1 (H i)) identities i s.0 small s.1)
      (ap (is_prune_of q) (s.2 ∙ e) ∙ prune_passes Op q)

  -- a new record prunes what it says and nothing else
  pub unpruned-with_record : (H : History Op) (i : ℕ) (r : Record Op) (q : ℕ) → is_pruned H q ≡ false → r.action ≢ Prune q → is_pruned (with_record H i r) q ≡ false
  unpruned-with_record H i r q before other = go (is_pruned (with_record H i r) q) refl
    where
      go : (b : Bool) → is_pruned (with_record H i r) q ≡ b → b ≡ false
      go false e = refl
      go true e = absurd (
          let p = pruned_has (with_record H i r) q e in
          elim (has_with_record H i r p.0 p.1 p.2 p.4) [
            | inl old ↦ let f = sym before ∙ has_pruned H q p.0 p.1 p.2 (at_identities p.0 p.3) old p.5 in cc f
            | inr new ↦ other (ap (λ (x : Record Op). x.action) new.2 ∙ p.5)
          ])
