-- Parts of one log: growth of the log, unions, new records and groups.
use Rattle.std.proofs.Common.{◌≡◌, ℕ, zero, suc, ◌+◌, ◌<◌, ◌≤◌, max, List, [], ◌∷◌, ◌++◌, length, take, drop, refl, sym, ap, subst, ◌∙◌, arith, ◌⊎◌, inl, inr, length-take, length-append}
use Rattle.std.proofs.lemmas.Bool.{cases_lt}
use Rattle.std.proofs.lemmas.Bool.Decides.{eqb_tells}
use Rattle.std.specs.Prelude.{slice_get}
use Rattle.model_history.specs.Table.{identity_limit}
use Rattle.model_history.specs.Vector.{VersionVector, Covers}
use Rattle.model_history.specs.History.{Action, Record, History, at, versions, continued, union, cut, with_record, HasRecord, IsPartOf, IsHistory}
use Rattle.model_history.specs.Log.{IsTakenFrom}
use Rattle.model_history.proofs.HistoryLaws.{with_at_same, with_at_other, at-union, has_with_record, slice_get-below, append_nothing, drop_none}

-- LISTS

module _ {X : Type 0} where
  pub take-take : (xs : List X) (n m : ℕ) → n ≤ m → take n (take m xs) ≡ take n xs
  take-take xs zero m h = refl
  take-take xs (suc n) zero h = absurd (omega arith)
  take-take [] (suc n) (suc m) h = refl
  take-take (x ∷ xs) (suc n) (suc m) h = ap (λ ys. x ∷ ys) (take-take xs n m (omega arith))

  pub slice_get-taken : (xs : List X) (n k : ℕ) → k < n → slice_get (take n xs) k ≡ slice_get xs k
  slice_get-taken xs zero k h = absurd (omega arith)
  slice_get-taken [] (suc n) k h = refl
  slice_get-taken (x ∷ xs) (suc n) zero h = refl
  slice_get-taken (x ∷ xs) (suc n) (suc k) h = slice_get-taken xs n k (omega arith)

  pub take_none : (n : ℕ) → ◌≡◌ {A = List X} (take n []) []
  take_none zero = refl
  take_none (suc n) = refl

  pub slice_get-dropped : (xs : List X) (a k : ℕ) → slice_get (drop a xs) k ≡ slice_get xs (a + k)
  slice_get-dropped xs zero k = ap (slice_get xs) (omega arith)
  slice_get-dropped [] (suc a) k = refl
  slice_get-dropped (x ∷ xs) (suc a) k = let e : suc a + k ≡ suc (a + k) = omega arith in slice_get-dropped xs a k ∙ rw e refl

  pub take_and_drop : (xs : List X) (a : ℕ) → take a xs ++ drop a xs ≡ xs
  take_and_drop xs zero = refl
  take_and_drop [] (suc a) = refl
  take_and_drop (x ∷ xs) (suc a) = ap (λ ys. x ∷ ys) (take_and_drop xs a)

  pub take_whole : (xs : List X) → take (length xs) xs ≡ xs
  take_whole [] = refl
  take_whole (x ∷ xs) = ap (λ ys. x ∷ ys) (take_whole xs)

  pub take_front : (xs ys : List X) → take (length xs) (xs ++ ys) ≡ xs
  take_front [] ys = refl
  take_front (x ∷ xs) ys = ap (λ zs. x ∷ zs) (take_front xs ys)

  -- two first parts of one list
  pub continued-taken : (xs : List X) (a b : ℕ) → take a xs ++ drop (length (take a xs)) (take b xs) ≡ take (max a b) xs
  continued-taken xs zero b = ap (λ n. take n xs) (omega arith)
  continued-taken xs (suc a) zero =
      let same : suc a ≡ max (suc a) 0 = omega arith in
      ap (λ ys. take (suc a) xs ++ ys) (drop_none (length (take (suc a) xs))) ∙ append_nothing (take (suc a) xs) ∙ ap (λ n. take n xs) same
  continued-taken [] (suc a) (suc b) = sym (take_none (max (suc a) (suc b)))
  continued-taken (x ∷ xs) (suc a) (suc b) =
      let more : suc (max a b) ≡ max (suc a) (suc b) = omega arith in
      ap (λ ys. x ∷ ys) (continued-taken xs a b) ∙ ap (λ n. take n (x ∷ xs)) more

module _ {Op : Type 0} where
  -- a part has no more records
  pub part-le : (H G : History Op) → IsPartOf H G → (i : ℕ) → at H i ≤ at G i
  part-le H G part i = let e = ap length (part i) in omega (arith, length-take (at H i) (G i), e)

  -- what the log has at a number that the part has, the part has too
  pub in_part : (H G : History Op) → IsPartOf H G → (i k : ℕ) (r : Record Op) → k < at H i → HasRecord G i k r → HasRecord H i k r
  in_part H G part i k r h has = ap (λ xs. slice_get xs k) (part i) ∙ slice_get-taken (G i) (at H i) k h ∙ has

  pub in_whole : (H G : History Op) → IsPartOf H G → (i k : ℕ) (r : Record Op) → HasRecord H i k r → HasRecord G i k r
  in_whole H G part i k r has = sym (slice_get-taken (G i) (at H i) k (slice_get-below (H i) r k has)) ∙ ap (λ xs. slice_get xs k) (sym (part i)) ∙ has

  pub part_trans : (H G G' : History Op) → IsPartOf H G → IsPartOf G G' → IsPartOf H G'
  part_trans H G G' part grown i =
      part i ∙ ap (take (at H i)) (grown i) ∙ take-take (G' i) (at H i) (at G i) (part-le H G part i)

  -- the past of a record of a past, in that past and in the whole
  pub cut_cut : (H : History Op) (v w : VersionVector) → Covers v w → cut (cut H v) w ≡ cut H w
  cut_cut H v w covers = λ k i. take-take (H i) (w i) (v i) (covers i) k

  -- the log grows
  pub taken_grown : (H G G' : History Op) → IsTakenFrom G H → IsPartOf G G' → IsTakenFrom G' H
  taken_grown H G G' taken grown = record { part = part_trans H G G' taken.part grown; closed = taken.closed }

  -- one record more
  pub part_with_record : (H : History Op) (i : ℕ) (r : Record Op) → IsPartOf H (with_record H i r)
  part_with_record H i r j = elim (eqb_tells j i) [
    | inl is ↦ rw is.1 (sym (ap (take (at H i)) (with_at_same H i (H i ++ r ∷ [])) ∙ take_front (H i) (r ∷ [])))
    | inr isnt ↦ sym (ap (take (at H j)) (with_at_other H i (H i ++ r ∷ []) j isnt.1) ∙ take_whole (H j))
  ]

  -- a union of parts
  pub part_union : (H J G : History Op) → IsPartOf H G → IsPartOf J G → IsPartOf (union H J) G
  part_union H J G h j i =
      ap (λ xs. continued xs (J i)) (h i) ∙ ap (continued (take (at H i) (G i))) (j i) ∙ continued-taken (G i) (at H i) (at J i) ∙ ap (λ n. take n (G i)) (sym (at-union H J i))

  pub taken_union : (H J G : History Op) → IsTakenFrom G H → IsTakenFrom G J → IsTakenFrom G (union H J)
  taken_union H J G h j =
      record {
        part = part_union H J G h.part j.part;
        closed = λ i k r has l.
            let bound = slice_get-below (union H J i) r k has in
            let whole = in_whole (union H J) G (part_union H J G h.part j.part) i k r has in
            elim (cases_lt k (at H i)) [
              | inl below ↦ let p = h.closed i k r (in_part H G h.part i k r below whole) l in omega (arith, at-union H J l)
              | inr above ↦ let p = j.closed i k r (in_part J G j.part i k r (omega (arith, at-union H J i)) whole) l in omega (arith, at-union H J l)
            ];
      }

-- ONE MORE RECORD OF A LOG

module _ {Op : Type 0} (L H : History Op) (i : ℕ) (action : Action Op) (history : IsHistory L) (taken : IsTakenFrom L H) (same : L i ≡ H i) (small : i < identity_limit) where
  -- the new record, whose past is all that its origin has
  abbrev next : Record Op
  next = record { action = action; past = versions H }

  at-with_record-same : (K : History Op) → at (with_record K i next) i ≡ at K i + 1
  at-with_record-same K = ap length (with_at_same K i (K i ++ next ∷ [])) ∙ length-append (K i) (next ∷ [])

  at-with_record-le : (K : History Op) (l : ℕ) → at K l ≤ at (with_record K i next) l
  at-with_record-le K l = elim (eqb_tells l i) [
    | inl is ↦ let e = at-with_record-same K in rw is.1 (omega (arith, e))
    | inr isnt ↦ let e = ap length (with_at_other K i (K i ++ next ∷ []) l isnt.1) in omega (arith, e)
  ]

  as_many : at L i ≡ at H i
  as_many = ap length same

  pub history-with_record : IsHistory (with_record L i next)
  history-with_record =
      record {
        within = λ j h. with_at_other L i (L i ++ next ∷ []) j (λ e. absurd (omega arith)) ∙ history.within j h;
        closed = λ j k x has l. elim (has_with_record L i next j k x has) [
          | inl old ↦ let a = history.closed j k x old l in let b = at-with_record-le L l in omega arith
          | inr new ↦ let a = part-le H L taken.part l in let b = at-with_record-le L l in rw (← new.2) (omega arith)
        ];
        numbered = λ j k x has. elim (has_with_record L i next j k x has) [
          | inl old ↦ history.numbered j k x old
          | inr new ↦ rw (← new.2, new.0) (sym as_many ∙ sym new.1)
        ];
        transitive = λ j k l m x y has has' before. both j k l m x y (has_with_record L i next j k x has) (has_with_record L i next l m y has') before;
      }
    where
      both : (j k l m : ℕ) (x y : Record Op) → HasRecord L j k x ⊎ ((j ≡ i) × (k ≡ at L i) × (next ≡ x)) → HasRecord L l m y ⊎ ((l ≡ i) × (m ≡ at L i) × (next ≡ y)) → m < x.past l → Covers x.past y.past
      both j k l m x y (inl old) (inl old') before = history.transitive j k l m x y old old' before
      both j k l m x y (inl old) (inr new) before = let a = history.closed j k x old i in absurd (let b : m < x.past i = subst (λ n. m < x.past n) new.0 before in omega (arith, new.1))
      both j k l m x y (inr new) (inl old') before =
          let in_past : m < at H l = subst (λ (z : Record Op). m < z.past l) (sym new.2) before in
          subst (λ (z : Record Op). Covers z.past y.past) new.2 (taken.closed l m y (in_part H L taken.part l m y in_past old'))
      both j k l m x y (inr new) (inr new') before =
          absurd (let in_past : m < at H l = subst (λ (z : Record Op). m < z.past l) (sym new.2) before in let b : m < at H i = subst (λ n. m < at H n) new'.0 in_past in omega (arith, new'.1, as_many))

  pub taken-with_record : IsTakenFrom (with_record L i next) (with_record H i next)
  taken-with_record =
      record {
        part = λ j. elim (eqb_tells j i) [
          | inl is ↦ rw is.1 (whole i (with_at_same H i (H i ++ next ∷ []) ∙ ap (λ xs. xs ++ next ∷ []) (sym same) ∙ sym (with_at_same L i (L i ++ next ∷ []))))
          | inr isnt ↦ rest j (with_at_other H i (H i ++ next ∷ []) j isnt.1) (with_at_other L i (L i ++ next ∷ []) j isnt.1)
        ];
        closed = λ j k x has l. elim (has_with_record H i next j k x has) [
          | inl old ↦ let a = taken.closed j k x old l in let b = at-with_record-le H l in omega arith
          | inr new ↦ let b = at-with_record-le H l in rw (← new.2) b
        ];
      }
    where
      whole : (j : ℕ) → with_record H i next j ≡ with_record L i next j → with_record H i next j ≡ take (at (with_record H i next) j) (with_record L i next j)
      whole j e = sym (ap (take (at (with_record H i next) j)) (sym e) ∙ take_whole (with_record H i next j))

      rest : (j : ℕ) → with_record H i next j ≡ H j → with_record L i next j ≡ L j → with_record H i next j ≡ take (at (with_record H i next) j) (with_record L i next j)
      rest j e f = e ∙ taken.part j ∙ ap (λ n. take n (L j)) (ap length (sym e)) ∙ ap (take (at (with_record H i next) j)) (sym f)
