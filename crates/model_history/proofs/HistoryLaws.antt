-- Laws of histories.
use Rattle.std.proofs.Common.{◌≡◌, ◌≢◌, ℕ, zero, suc, ◌<◌, max, List, [], ◌∷◌, ◌++◌, length, take, drop, refl, sym, ap, ◌∙◌, arith, cond, Some, ◌⊎◌, inl, inr, length-append, length-drop}
use Rattle.std.specs.Prelude.{slice_get}
use Rattle.std.proofs.lemmas.Bool.Decides.{eqb_tells}
use Rattle.model_history.specs.Table.{with_at}
use Rattle.model_history.specs.History.{Record, History, at, versions, continued, union, cut, with_record, Agree, IsPartOf, HasRecord}

-- TABLES

module _ {X : Type 0} (table : ℕ → X) (i : ℕ) (x : X) where
  pub with_at_same : with_at table i x i ≡ x
  with_at_same = elim (eqb_tells i i) as (λ _. with_at table i x i ≡ x) [ inl e ↦ ap (λ b. cond b x (table i)) e.0 | inr e ↦ absurd (e.1 refl) ]

  pub with_at_other : (j : ℕ) → j ≢ i → with_at table i x j ≡ table j
  with_at_other j h = elim (eqb_tells j i) as (λ _. with_at table i x j ≡ table j) [ inl e ↦ absurd (h e.1) | inr e ↦ ap (λ b. cond b x (table j)) e.0 ]

-- LISTS

module _ {X : Type 0} where
  pub append_nothing : (xs : List X) → xs ++ [] ≡ xs
  append_nothing [] = refl
  append_nothing (x ∷ xs) = ap (λ ys. x ∷ ys) (append_nothing xs)

  drop_all : (xs : List X) → drop (length xs) xs ≡ []
  drop_all [] = refl
  drop_all (x ∷ xs) = drop_all xs

  pub slice_get-push : (xs : List X) (x y : X) (k : ℕ) → slice_get (xs ++ x ∷ []) k ≡ Some y → (slice_get xs k ≡ Some y) ⊎ ((k ≡ length xs) × (x ≡ y))
  slice_get-push [] x y zero e = inr (refl, cc e)
  slice_get-push [] x y (suc k) e = absurd (cc e)
  slice_get-push (z ∷ xs) x y zero e = inl e
  slice_get-push (z ∷ xs) x y (suc k) e = elim (slice_get-push xs x y k e) [ inl h ↦ inl h | inr h ↦ inr (ap suc h.0, h.1) ]

  pub slice_get-below : (xs : List X) (x : X) (k : ℕ) → slice_get xs k ≡ Some x → k < length xs
  slice_get-below [] x k e = absurd (cc e)
  slice_get-below (y ∷ xs) x zero e = omega arith
  slice_get-below (y ∷ xs) x (suc k) e = let h = slice_get-below xs x k e in omega arith

  pub slice_get-take : (xs : List X) (n k : ℕ) (x : X) → slice_get (take n xs) k ≡ Some x → (k < n) × (slice_get xs k ≡ Some x)
  slice_get-take [] zero k x e = absurd (cc e)
  slice_get-take [] (suc n) k x e = absurd (cc e)
  slice_get-take (y ∷ xs) zero k x e = absurd (cc e)
  slice_get-take (y ∷ xs) (suc n) zero x e = (omega arith, e)
  slice_get-take (y ∷ xs) (suc n) (suc k) x e = let h = slice_get-take xs n k x e in (omega (arith, h.0), h.1)

pub drop_none : {X : Type 0} (n : ℕ) → ◌≡◌ {A = List X} (drop n []) []
drop_none zero = refl
drop_none (suc n) = refl

-- HISTORIES

module _ {Op : Type 0} where
  continued_nothing : (xs : List (Record Op)) → continued xs [] ≡ xs
  continued_nothing xs = ap (λ ys. xs ++ ys) (drop_none (length xs)) ∙ append_nothing xs

  continued_same : (xs : List (Record Op)) → continued xs xs ≡ xs
  continued_same xs = ap (λ ys. xs ++ ys) (drop_all xs) ∙ append_nothing xs

  continued_assoc : (xs ys zs : List (Record Op)) → continued (continued xs ys) zs ≡ continued xs (continued ys zs)
  continued_assoc [] ys zs = refl
  continued_assoc (x ∷ xs) [] zs = ap (λ us. continued us zs) (continued_nothing (x ∷ xs))
  continued_assoc (x ∷ xs) (y ∷ ys) [] = continued_nothing _ ∙ ap (continued (x ∷ xs)) (sym (continued_nothing (y ∷ ys)))
  continued_assoc (x ∷ xs) (y ∷ ys) (z ∷ zs) = ap (λ us. x ∷ us) (continued_assoc xs ys zs)

  -- lists that agree, as far as both go
  agreeing_continued : (xs ys : List (Record Op)) → take (length ys) xs ≡ take (length xs) ys → continued xs ys ≡ continued ys xs
  agreeing_continued [] ys e = sym (continued_nothing ys)
  agreeing_continued (x ∷ xs) [] e = continued_nothing (x ∷ xs)
  agreeing_continued (x ∷ xs) (y ∷ ys) e =
      let first : x ≡ y = cc e in
      let rest : take (length ys) xs ≡ take (length xs) ys = cc e in
      λ i. first i ∷ agreeing_continued xs ys rest i

  length-continued : (xs ys : List (Record Op)) → length (continued xs ys) ≡ max (length xs) (length ys)
  length-continued xs ys = simp (length-append, length-drop) (omega arith)

  pub at-union : (H J : History Op) (i : ℕ) → at (union H J) i ≡ max (at H i) (at J i)
  at-union H J i = length-continued (H i) (J i)

  -- a union is idempotent, associative, and commutative where the two agree
  pub union_same : (H : History Op) → union H H ≡ H
  union_same H = λ k i. continued_same (H i) k

  pub union_assoc : (H J K : History Op) → union (union H J) K ≡ union H (union J K)
  union_assoc H J K = λ k i. continued_assoc (H i) (J i) (K i) k

  pub union_comm : (H J : History Op) → Agree H J → union H J ≡ union J H
  union_comm H J agree = λ k i. agreeing_continued (H i) (J i) (agree i) k

  -- PARTS OF ONE HISTORY

  take_all : (xs : List (Record Op)) → take (length xs) xs ≡ xs
  take_all [] = refl
  take_all (x ∷ xs) = ap (λ ys. x ∷ ys) (take_all xs)

  pub cut_versions : (H : History Op) → cut H (versions H) ≡ H
  cut_versions H = λ k i. take_all (H i) k

  -- a part is determined by its version vector
  pub same_part : (G H J : History Op) → IsPartOf H G → IsPartOf J G → ((i : ℕ) → at H i ≡ at J i) → H ≡ J
  same_part G H J h j same = λ k i. (h i ∙ ap (λ n. take n (G i)) (same i) ∙ sym (j i)) k

  -- ONE MORE RECORD

  pub has_with_record : (H : History Op) (i : ℕ) (r : Record Op) (j k : ℕ) (x : Record Op) → HasRecord (with_record H i r) j k x → HasRecord H j k x ⊎ ((j ≡ i) × (k ≡ at H i) × (r ≡ x))
  has_with_record H i r j k x has = elim (eqb_tells j i) [
    | inl e ↦ elim (slice_get-push (H i) r x k (rw (e.1, with_at_same H i (H i ++ r ∷ [])) at has)) [ inl h ↦ inl (rw e.1 h) | inr h ↦ inr (e.1, h.0, h.1) ]
    | inr e ↦ inl (rw (with_at_other H i (H i ++ r ∷ []) j e.1) at has)
  ]
