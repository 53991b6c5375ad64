-- Rising numbers: one more at the end, and the last that is counted, found by halves.
use Rattle.std.proofs.Common.{◌≡◌, ℕ, zero, suc, ◌-◌, ◌<◌, ◌≤◌, List, [], ◌∷◌, ◌++◌, length, set, get_or, refl, sym, ap, subst, ◌∙◌, arith, Bool, true, false, Option, inl, inr}
use Rattle.std.specs.Prelude.{nat_le, ◌==◌, if◌then◌else◌, fold, unwrap_or, slice_get}
use Rattle.std.specs.List.Sorted.{IsPartitionedBy, IsPartitionPoint}
use Rattle.std.proofs.lemmas.Bool.{cases_lt, leb-true, le-leb}
use Rattle.std.proofs.lemmas.Bool.Decides.{eqb_tells, nat_tests}
use Rattle.std.proofs.lemmas.List.{get_or_default}
use Rattle.std.proofs.lemmas.Option.{unwrap_or-slice_get}
use Rattle.trace_values.specs.Rows.{row_of}
use Rattle.trace_values.specs.Touches.{AreRising, IsPushedIf, passing, last_counted}
use Rattle.trace_values.proofs.Firsts.{length_push, set_here, set_there}

front : (ns : List ℕ) (n i : ℕ) → i < length ns → get_or (ns ++ n ∷ []) i 0 ≡ get_or ns i 0
front [] n i h = absurd (omega (arith, h))
front (m ∷ ns) n zero h = refl
front (m ∷ ns) n (suc i) h = front ns n i (omega (arith, h))

last_pushed : (ns : List ℕ) (n : ℕ) → get_or (ns ++ n ∷ []) (length ns) 0 ≡ n
last_pushed [] n = refl
last_pushed (m ∷ ns) n = last_pushed ns n

pub rising_push : (ns : List ℕ) (n : ℕ) → AreRising ns → ((i : ℕ) → i < length ns → get_or ns i 0 ≤ n) → AreRising (ns ++ n ∷ [])
rising_push ns n rise above i j order within = elim (cases_lt j (length ns)) [
  | inl before ↦ (let a = front ns n i (omega (arith, order, before)) in let b = front ns n j before in let r = rise i j order before in omega (arith, a, b, r))
  | inr past ↦
      (let long = length_push ns n in
      let last : j ≡ length ns = omega (arith, within, past, long) in
      let b = ap (λ k. get_or (ns ++ n ∷ []) k 0) last ∙ last_pushed ns n in
      elim (cases_lt i (length ns)) [
        | inl near ↦ (let a = front ns n i near in let r = above i near in omega (arith, a, b, r))
        | inr far ↦ (let same : i ≡ length ns = omega (arith, far, order, last) in let a = ap (λ k. get_or (ns ++ n ∷ []) k 0) same ∙ last_pushed ns n in omega (arith, a, b))
      ])
]

-- NUMBERS THAT PASS A TEST

passing_both : (test : ℕ → Bool) (m : ℕ) → AreRising (passing test m) × ((i : ℕ) → i < length (passing test m) → get_or (passing test m) i 0 ≤ m)
passing_both test zero = ((λ i j order within. absurd (omega (arith, within))), (λ i within. absurd (omega (arith, within))))
passing_both test (suc m) = go (test m) (passing_both test m)
  where
    go : (b : Bool) → AreRising (passing test m) × ((i : ℕ) → i < length (passing test m) → get_or (passing test m) i 0 ≤ m)
        → AreRising (if b then passing test m ++ suc m ∷ [] else passing test m) × ((i : ℕ) → i < length (if b then passing test m ++ suc m ∷ [] else passing test m) → get_or (if b then passing test m ++ suc m ∷ [] else passing test m) i 0 ≤ suc m)
    go true both = (
      rising_push (passing test m) (suc m) both.0 (λ i h. let r = both.1 i h in omega (arith, r)),
      (λ i h. elim (cases_lt i (length (passing test m))) [
        | inl near ↦ (let a = front (passing test m) (suc m) i near in let r = both.1 i near in omega (arith, a, r))
        | inr far ↦
            (let long = length_push (passing test m) (suc m) in
            let same : i ≡ length (passing test m) = omega (arith, far, h, long) in
            let a = ap (λ k. get_or (passing test m ++ suc m ∷ []) k 0) same ∙ last_pushed (passing test m) (suc m) in omega (arith, a))
      ]),
    )
    go false both = (both.0, λ i h. let r = both.1 i h in omega (arith, r))

pub passing_rises : (test : ℕ → Bool) (m : ℕ) → AreRising (passing test m ++ suc m ∷ [])
passing_rises test m = let both = passing_both test m in rising_push (passing test m) (suc m) both.0 (λ i h. let r = both.1 i h in omega (arith, r))

-- THE LAST THAT IS COUNTED

pub parted : (ns : List ℕ) (count : ℕ) → AreRising ns → IsPartitionedBy (λ n. nat_le n count) ns
parted ns count rise i j d order within passes =
    let a = get_or_default ns i d 0 (omega (arith, order, within)) in
    let b = get_or_default ns j d 0 within in
    let r = rise i j order within in
    let c = leb-true (get_or ns j d) count passes in
    le-leb (get_or ns i d) count (omega (arith, a, b, r, c))

none_more : (ns : List ℕ) (count last : ℕ) → ((k : ℕ) → k < length ns → nat_le (get_or ns k 0) count ≡ false) → fold (λ last n. if nat_le n count then n else last) last ns ≡ last
none_more [] count last none = refl
none_more (n ∷ ns) count last none = ap (λ b. fold (λ last n. if nat_le n count then n else last) (if b then n else last) ns) (none 0 (omega arith)) ∙ none_more ns count last (λ k h. none (suc k) (omega (arith, h)))

last_before : (ns : List ℕ) (count place last : ℕ) → place ≤ length ns → ((k : ℕ) → k < place → nat_le (get_or ns k 0) count ≡ true) → ((k : ℕ) → place ≤ k → k < length ns → nat_le (get_or ns k 0) count ≡ false)
    → fold (λ last n. if nat_le n count then n else last) last ns ≡ (if place == 0 then last else get_or ns (place - 1) 0)
last_before ns count zero last few before after = none_more ns count last (λ k h. after k (omega arith) h)
last_before [] count (suc place) last few before after = absurd (omega (arith, few))
last_before (n ∷ ns) count (suc place) last few before after =
    ap (λ b. fold (λ last n. if nat_le n count then n else last) (if b then n else last) ns) (before 0 (omega arith))
    ∙ last_before ns count place n (omega (arith, few)) (λ k h. before (suc k) (omega (arith, h))) (λ k far h. after (suc k) (omega (arith, far)) (omega (arith, h))) ∙ shift place ∙ ending place
  where
    not_none : (p : ℕ) → (suc p == 0) ≡ false
    not_none p = grind (arith, nat_tests)

    one_less : (p : ℕ) → suc p - 1 ≡ p
    one_less p = omega arith

    shift : (p : ℕ) → (if p == 0 then n else get_or ns (p - 1) 0) ≡ get_or (n ∷ ns) p 0
    shift zero = refl
    shift (suc p) = ap (λ b. if b then n else get_or ns (suc p - 1) 0) (not_none p) ∙ ap (λ k. get_or ns k 0) (one_less p)

    ending : (p : ℕ) → get_or (n ∷ ns) p 0 ≡ (if suc p == 0 then last else get_or (n ∷ ns) (suc p - 1) 0)
    ending p = sym (ap (λ b. if b then last else get_or (n ∷ ns) (suc p - 1) 0) (not_none p) ∙ ap (λ k. get_or (n ∷ ns) k 0) (one_less p))

module _ (ns : List ℕ) (count place : ℕ) (few : place ≤ length ns) (parts : IsPartitionPoint (λ n. nat_le n count ≡ true) (λ n. nat_le n count ≡ false) ns place) where
  at_point : last_counted ns count ≡ (if place == 0 then 0 else get_or ns (place - 1) 0)
  at_point = last_before ns count place 0 few (λ k h. parts.0 k 0 (omega arith) h) (λ k far h. parts.1 k 0 far h)

  pub last_none : place ≡ 0 → 0 ≡ last_counted ns count
  last_none none = sym (at_point ∙ ap (λ p. if p == 0 then 0 else get_or ns (p - 1) 0) none)

  pub last_some : (place ≡ 0 → ⊥) → get_or ns (place - 1) 0 ≡ last_counted ns count
  last_some some = elim (eqb_tells place 0) [
    | inl none ↦ absurd (some none.1)
    | inr other ↦ sym (at_point ∙ ap (λ b. if b then 0 else get_or ns (place - 1) 0) other.0)
  ]

-- ROWS

pub pushed_row : (old long : List (List ℕ)) (index id n : ℕ) (row now : List ℕ) → index ≡ id → ((i : ℕ) → row_of long i ≡ row_of old i) → index < length long → row ≡ get_or long index row → (AreRising (row ++ n ∷ []) → now ≡ row ++ n ∷ [])
    → IsPushedIf true old (set long index now) id n
pushed_row old long index id n row now index_is same within row_is push rise j = elim (eqb_tells j id) [
  | inl here ↦
      (let at : j ≡ index = here.1 ∙ sym index_is in
      ap (λ (k : ℕ). unwrap_or (slice_get (set long index now) k) []) at ∙ ap (λ (o : Option (List ℕ)). unwrap_or o []) (set_here long index now within) ∙ now_is ∙ ap (λ (ns : List ℕ). ns ++ n ∷ []) (ap (row_of old) (sym here.1))
      ∙ sym (ap (λ b. if b then row_of old j ++ n ∷ [] else row_of old j) here.0))
  | inr other ↦
      ap (λ (o : Option (List ℕ)). unwrap_or o []) (set_there long index j now (λ e. other.1 (e ∙ index_is))) ∙ same j ∙ sym (ap (λ b. if b then row_of old j ++ n ∷ [] else row_of old j) other.0)
]
  where
    old_is : row ≡ row_of old id
    old_is = row_is ∙ get_or_default long index row [] within ∙ sym (unwrap_or-slice_get long index []) ∙ same index ∙ ap (row_of old) index_is

    now_is : now ≡ row_of old id ++ n ∷ []
    now_is = push (subst (λ (ns : List ℕ). AreRising (ns ++ n ∷ [])) (sym old_is) rise) ∙ ap (λ (ns : List ℕ). ns ++ n ∷ []) old_is
