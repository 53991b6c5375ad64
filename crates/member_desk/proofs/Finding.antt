-- What is found in a list in order after an edit.
use Rattle.std.proofs.Common.{◌≡◌, ◌≢◌, List, [], ◌∷◌, ◌++◌, Bool, Option, Some, None, refl, ap, sym, ◌∙◌, subst, map}
use Rattle.std.specs.declared.cmp.Ordering.{Ordering}
use Rattle.std.specs.declared.cmp.Ordering.TheVariants.{Less, Equal, Greater}
use Rattle.std.specs.Ordering.{match_ordering}
use Rattle.member_desk.specs.Places.{sought, edited, IsBelowAll, IsRising}
use Rattle.member_desk.proofs.Orders.{IsOrder, IsOneAt, below_more}

module _ {X K : Type 0} (lt : K → K → Bool) (R : K → K → Ordering) (laws : IsOrder lt R) (key : X → K) where
  abbrev by : K → X → Ordering
  by k x = R (key x) k

  -- nothing is found of a key that comes before all
  pub sought_below : (k : K) (xs : List X) → IsBelowAll lt k (map key xs) → sought (by k) xs ≡ None
  sought_below k [] below = refl
  sought_below k (x ∷ xs) below = ap (λ o. match_ordering o (sought (by k) xs) (Some x) None) (laws.is_greater (key x) k below.0)

  -- what is found has the key
  pub sought_has : (k : K) (xs : List X) (x : X) → sought (by k) xs ≡ Some x → key x ≡ k
  sought_has k [] x e = absurd (cc e)
  sought_has k (y ∷ ys) x e = go (by k y) refl e (λ e'. sought_has k ys x e')
    where
      go : (o : Ordering) → by k y ≡ o → match_ordering o (sought (by k) ys) (Some y) None ≡ Some x → (sought (by k) ys ≡ Some x → key x ≡ k) → key x ≡ k
      go Less is e' later = later e'
      go Equal is e' later = let same : y ≡ x = cc e' in ap key (sym same) ∙ laws.equal (key y) k is
      go Greater is e' later = absurd (cc e')

  module _ (instead : X → List X) (absent : List X) where
    -- THE KEY OF THE EDIT

    abbrev in_place : K → Option X → Option X
    in_place k found = elim found [ None ↦ sought (by k) absent | Some x ↦ sought (by k) (instead x) ]

    module _ (k : K) (one_instead : (x : X) → key x ≡ k → IsOneAt key k (instead x)) (one_absent : IsOneAt key k absent) where
      -- at most one item of the key in front of items after it
      in_front : (ys zs : List X) → IsOneAt key k ys → sought (by k) zs ≡ None → sought (by k) (ys ++ zs) ≡ sought (by k) ys
      in_front [] zs one none = none
      in_front (y ∷ []) zs one none = ap (λ r. match_ordering (by k y) r (Some y) None) none
      in_front (y ∷ z ∷ ys) zs one none = absurd one

      pub sought_edited : (xs : List X) → IsRising lt (map key xs) → sought (by k) (edited (by k) instead absent xs) ≡ in_place k (sought (by k) xs)
      sought_edited [] h = refl
      sought_edited (x ∷ xs) h = go (by k x) refl (sought_edited xs h.1)
        where
          go : (o : Ordering) → by k x ≡ o → sought (by k) (edited (by k) instead absent xs) ≡ in_place k (sought (by k) xs) → sought (by k) (match_ordering o (x ∷ edited (by k) instead absent xs) (instead x ++ xs) (absent ++ x ∷ xs)) ≡ in_place k (match_ordering o (sought (by k) xs) (Some x) None)
          go Less is rest = ap (λ o. match_ordering o (sought (by k) (edited (by k) instead absent xs)) (Some x) None) is ∙ rest
          go Equal is rest = let here = laws.equal (key x) k is in in_front (instead x) xs (one_instead x here) (sought_below k xs (subst (λ (c : K). IsBelowAll lt c (map key xs)) here h.0))
          go Greater is rest = in_front absent (x ∷ xs) one_absent (ap (λ o. match_ordering o (sought (by k) xs) (Some x) None) is)

      -- ANOTHER KEY

      module _ (j : K) (other : k ≢ j) where
        -- at most one item of the key in front of items, of which those after it hide nothing
        passed : (ys zs : List X) → IsOneAt key k ys → (R k j ≡ Greater → sought (by j) zs ≡ None) → sought (by j) (ys ++ zs) ≡ sought (by j) zs
        passed [] zs one hidden = refl
        passed (y ∷ []) zs one hidden = go (R k j) refl
          where
            there : by j y ≡ R k j
            there = ap (λ c. R c j) one

            go : (o : Ordering) → R k j ≡ o → match_ordering (by j y) (sought (by j) zs) (Some y) None ≡ sought (by j) zs
            go Less is = ap (λ o. match_ordering o (sought (by j) zs) (Some y) None) (there ∙ is)
            go Equal is = absurd (other (laws.equal k j is))
            go Greater is = ap (λ o. match_ordering o (sought (by j) zs) (Some y) None) (there ∙ is) ∙ sym (hidden is)
        passed (y ∷ z ∷ ys) zs one hidden = absurd one

        -- and an item of the key itself
        skipped : (x : X) (xs : List X) → key x ≡ k → IsBelowAll lt (key x) (map key xs) → sought (by j) xs ≡ sought (by j) (x ∷ xs)
        skipped x xs here below = go (by j x) refl
          where
            go : (o : Ordering) → by j x ≡ o → sought (by j) xs ≡ match_ordering o (sought (by j) xs) (Some x) None
            go Less is = refl
            go Equal is = absurd (other (sym here ∙ laws.equal (key x) j is))
            go Greater is = sought_below j xs (below_more lt R laws key k j (key x) (map key xs) (laws.greater (key x) j is) below)

        pub sought_other : (xs : List X) → IsRising lt (map key xs) → sought (by j) (edited (by k) instead absent xs) ≡ sought (by j) xs
        sought_other [] h = go absent one_absent
          where
            go : (ys : List X) → IsOneAt key k ys → sought (by j) ys ≡ None
            go [] one = refl
            go (y ∷ []) one = passed (y ∷ []) [] one (λ e. refl)
            go (y ∷ z ∷ ys) one = absurd one
        sought_other (x ∷ xs) h = go (by k x) refl (sought_other xs h.1)
          where
            go : (o : Ordering) → by k x ≡ o → sought (by j) (edited (by k) instead absent xs) ≡ sought (by j) xs → sought (by j) (match_ordering o (x ∷ edited (by k) instead absent xs) (instead x ++ xs) (absent ++ x ∷ xs)) ≡ sought (by j) (x ∷ xs)
            go Less is rest = ap (λ r. match_ordering (by j x) r (Some x) None) rest
            go Equal is rest =
                let here = laws.equal (key x) k is in
                let below = subst (λ (c : K). IsBelowAll lt c (map key xs)) here h.0 in
                passed (instead x) xs (one_instead x here) (λ after. sought_below j xs (below_more lt R laws key k j k (map key xs) (laws.greater k j after) below)) ∙ skipped x xs here h.0
            go Greater is rest =
                let less = laws.greater (key x) k is in
                passed absent (x ∷ xs) one_absent (λ after.
                let first = laws.greater k j after in
                let before = laws.trans j k (key x) first less in
                sought_below j (x ∷ xs) (before, below_more lt R laws key k j (key x) (map key xs) before h.0))
