-- The winner of a register is the last write of an identity.
use Rattle.std.proofs.Common.{◌≡◌, ℕ, zero, suc, ◌+◌, ◌-◌, ◌<◌, ◌≤◌, max, List, [], ◌∷◌, ◌++◌, map, refl, sym, ap, subst, ◌∙◌, arith, Bool, true, false, Option, Some, None, inl, inr}
use Rattle.std.specs.Prelude.{◌&&◌, not, ◌==◌, if◌then◌else◌, slice_get, is_some, find, fold, flat_map, option_map}
use Rattle.std.proofs.lemmas.Bool.{eq-eqb, eqb-true, cases_lt}
use Rattle.std.proofs.lemmas.Bool.Decides.{nat_tests}
use Rattle.model_history.specs.Table.{identity_limit, identities}
use Rattle.model_history.specs.Vector.{VersionVector}
use Rattle.model_history.specs.Cuts.{record_at, past_of}
use Rattle.model_history.specs.History.{Record, History, Stamped, at, versions, cut, stamped_from, all_records, IsHistory}
use Rattle.model_history.proofs.Bridge.{record_at_is, has_record_at, own_cut, past_cut, taken_cut}
use Rattle.model_history.proofs.HistoryLaws.{slice_get-below}
use Rattle.model_history.proofs.PartLaws.{slice_get-taken}
use Rattle.model_history.proofs.PruneLaws.{IsIn, in_tail, in_range, at_identities, found as found_passes}
use Rattle.model_meanings.specs.Growing.{Assignment, greatest, timestamp_after, found, timestamp, newest, winner}
use Rattle.model_meanings.proofs.EquationsOfMeanings.{timestamp_equation}
use Rattle.model_traces.proofs.Tests.{is_stamped, stamped, first_true, second_true, both_true}
use Rattle.theorem_latest.specs.Writes.{record_of, writes_at, last_write, last_write_of, last_timestamp, last_newest, last_winner}
use Rattle.theorem_latest.proofs.Staying.{timestamps_stay}
use Rattle.theorem_latest.proofs.Touching.{not_zero, some_zero}

-- GREATEST NUMBERS

fold_grows : (ns : List ℕ) (a : ℕ) → a ≤ fold max a ns
fold_grows [] a = omega arith
fold_grows (n ∷ ns) a = let h = fold_grows ns (max a n) in omega (arith, h)

in_fold : (ns : List ℕ) (a n : ℕ) → IsIn ns n → n ≤ fold max a ns
in_fold [] a n h = absurd (cc h.1)
in_fold (m ∷ ns) a n (zero, e) = let same : m ≡ n = cc e in let h = fold_grows ns (max a m) in omega (arith, h, same)
in_fold (m ∷ ns) a n (suc k, e) = in_fold ns (max a m) n (k, e)

fold_within : (ns : List ℕ) (a b : ℕ) → a ≤ b → ((n : ℕ) → IsIn ns n → n ≤ b) → fold max a ns ≤ b
fold_within [] a b h all = h
fold_within (n ∷ ns) a b h all = fold_within ns (max a n) b (let m = all n (0, refl) in omega (arith, h, m)) (λ k m. all k (in_tail n ns k m))

to_map : {X : Type 0} (f : X → ℕ) (xs : List X) (x : X) → IsIn xs x → IsIn (map f xs) (f x)
to_map f [] x h = absurd (cc h.1)
to_map f (y ∷ xs) x (zero, e) = let same : y ≡ x = cc e in (0, ap (λ z. Some (f z)) same)
to_map f (y ∷ xs) x (suc k, e) = in_tail (f y) (map f xs) (f x) (to_map f xs x (k, e))

from_map : {X : Type 0} (f : X → ℕ) (xs : List X) (n : ℕ) → IsIn (map f xs) n → (x : X) × IsIn xs x × (f x ≡ n)
from_map f [] n h = absurd (cc h.1)
from_map f (x ∷ xs) n (zero, e) = (x, (0, refl), (let same : f x ≡ n = cc e in same))
from_map f (x ∷ xs) n (suc k, e) = let h = from_map f xs n (k, e) in (h.0, in_tail x xs h.0 h.1, h.2)

-- SEARCHES

found_in : {X : Type 0} (p : X → Bool) (xs : List X) (x : X) → find p xs ≡ Some x → IsIn xs x
found_in p [] x e = absurd (cc e)
found_in p (y ∷ xs) x e = go (p y) refl e (found_in p xs x)
  where
    go : (b : Bool) → p y ≡ b → (if b then Some y else find p xs) ≡ Some x → (find p xs ≡ Some x → IsIn xs x) → IsIn (y ∷ xs) x
    go true is e' later = (0, e')
    go false is e' later = in_tail y xs x (later e')

-- none passes
finds_none : {X : Type 0} (p : X → Bool) (xs : List X) → ((x : X) → IsIn xs x → p x ≡ true → ⊥) → find p xs ≡ None
finds_none p [] none = refl
finds_none p (y ∷ xs) none = go (p y) refl (finds_none p xs (λ x h. none x (in_tail y xs x h)))
  where
    go : (b : Bool) → p y ≡ b → find p xs ≡ None → (if b then Some y else find p xs) ≡ None
    go true is e = absurd (none y (0, refl) is)
    go false is e = e

not_none : {X : Type 0} (p : X → Bool) (xs : List X) → find p xs ≡ None → (y : X) → IsIn xs y → p y ≡ true → ⊥
not_none p [] e y h passes = cc h.1
not_none p (x ∷ xs) e y h passes = go (p x) refl e h (not_none p xs)
  where
    go : (b : Bool) → p x ≡ b → (if b then Some x else find p xs) ≡ None → IsIn (x ∷ xs) y → (find p xs ≡ None → (z : _) → IsIn xs z → p z ≡ true → ⊥) → ⊥
    go true is e' m later = cc e'
    go false is e' (zero, m) later = let same : x ≡ y = cc m in let f = sym is ∙ ap p same ∙ passes in cc f
    go false is e' (suc k, m) later = later e' y (k, m) passes

-- one alone passes
finds_one : {X : Type 0} (p : X → Bool) (xs : List X) (y : X) → IsIn xs y → p y ≡ true → ((x : X) → IsIn xs x → p x ≡ true → x ≡ y) → find p xs ≡ Some y
finds_one {X} p xs y h passes only = go (find p xs) refl
  where
    go : (o : Option X) → find p xs ≡ o → o ≡ Some y
    go None e = absurd (not_none p xs e y h passes)
    go (Some x) e = ap Some (only x (found_in p xs x e) (found_passes p xs x e))

find_both : {X : Type 0} (p : X → Bool) (xs ys : List X) → find p (xs ++ ys) ≡ (elim (find p xs) [ None ↦ find p ys | Some x ↦ Some x ])
find_both p [] ys = refl
find_both {X} p (x ∷ xs) ys = go (p x) (find_both p xs ys)
  where
    go : (b : Bool) → find p (xs ++ ys) ≡ (elim (find p xs) [ None ↦ find p ys | Some x ↦ Some x ])
        → (if b then Some x else find p (xs ++ ys)) ≡ (elim (if b then Some x else find p xs) [ None ↦ find p ys | Some x ↦ Some x ])
    go true e = refl
    go false e = e

-- a search through lists of which each has one to find, or none
find_each : {X Y : Type 0} (p : Y → Bool) (q : X → Bool) (f : X → List Y) (g : X → Y) (xs : List X) → ((x : X) → IsIn xs x → find p (f x) ≡ (if q x then Some (g x) else None)) → find p (flat_map f xs) ≡ option_map g (find q xs)
find_each p q f g [] each = refl
find_each {X} {Y} p q f g (x ∷ xs) each =
    find_both p (f x) (flat_map f xs) ∙ ap (λ (o : Option Y). elim o [ None ↦ find p (flat_map f xs) | Some y ↦ Some y ]) (each x (0, refl))
    ∙ go (q x) (find_each p q f g xs (λ y h. each y (in_tail x xs y h)))
  where
    go : (b : Bool) → find p (flat_map f xs) ≡ option_map g (find q xs) → (elim (if b then Some (g x) else None) [ None ↦ find p (flat_map f xs) | Some y ↦ Some y ]) ≡ option_map g (if b then Some x else find q xs)
    go true e = refl
    go false e = e

row_at : {Op : Type 0} (i n : ℕ) (rs : List (Record Op)) (x : Stamped Op) → IsIn (stamped_from i n rs) x → (k : ℕ) × (slice_get rs k ≡ Some (record { action = x.action; past = x.past })) × (x.origin ≡ i) × (x.number ≡ n + k)
row_at i n [] x h = absurd (cc h.1)
row_at {Op} i n (r ∷ rs) x (zero, e) =
    let same : record { origin = i; number = n; action = r.action; past = r.past } ≡ x = cc e in
    (zero, ap (λ (y : Stamped Op). Some (record { action = y.action; past = y.past })) same, sym (ap (λ (y : Stamped Op). y.origin) same), (let e' : n ≡ x.number = ap (λ (y : Stamped Op). y.number) same in omega (arith, e')))
row_at i n (r ∷ rs) x (suc k, e) = let h = row_at i (suc n) rs x (k, e) in (suc h.0, h.1, h.2, (let e' = h.3 in omega (arith, e')))

to_row : {Op : Type 0} (i n : ℕ) (rs : List (Record Op)) (k : ℕ) (r : Record Op) → slice_get rs k ≡ Some r → IsIn (stamped_from i n rs) (record { origin = i; number = n + k; action = r.action; past = r.past })
to_row i n [] k r e = absurd (cc e)
to_row {Op} i n (s ∷ rs) zero r e =
    let same : s ≡ r = cc e in
    let here : n ≡ n + 0 = omega arith in
    (0, ap (λ (y : Record Op). Some (record { origin = i; number = n; action = y.action; past = y.past })) same ∙ ap (λ m. Some (record { origin = i; number = m; action = r.action; past = r.past })) here)
to_row {Op} i n (s ∷ rs) (suc k) r e =
    let h = to_row i (suc n) rs k r e in
    let there : suc n + k ≡ n + suc k = omega arith in
    (suc h.0, h.1 ∙ ap (λ m. Some (record { origin = i; number = m; action = r.action; past = r.past })) there)

small_of : (i : ℕ) → IsIn identities i → i < identity_limit
small_of i h = let r = in_range 0 identity_limit i h in omega (arith, r.1)

positive : (n : ℕ) → (n == 0) ≡ false → 0 < n
positive n e = grind (arith, nat_tests)

-- NUMBERS: what follows from steps between them. The numbers that these are used at are greatest ones over all identities, which arithmetic is not to look into

none_below : (n : ℕ) → 0 ≤ n
none_below n = omega arith

both_ways : (a b : ℕ) → a ≤ b → b ≤ a → a ≡ b
both_ways a b h k = omega (arith, h, k)

by_step : (n b top : ℕ) → b ≤ top → b ≡ n → n ≤ top
by_step n b top h e = omega (arith, h, e)

by_steps : (n t r b top : ℕ) → r ≤ b → b ≤ top → r ≡ t → t ≡ n → n ≤ top
by_steps n t r b top h k e f = omega (arith, h, k, e, f)

module _ {Op : Type 0} (assigned : Op → Option Assignment) (H : History Op) (history : IsHistory H) where
  abbrev W : ℕ → ℕ → Bool
  W i k = writes_at assigned H i k

  abbrev R : ℕ → ℕ → Stamped Op
  R i k = record_of assigned H i k

  abbrev last : ℕ → ℕ → ℕ
  last i n = last_write assigned H i n

  abbrev L : ℕ → ℕ
  L i = last i (at H i)

  abbrev ts : Stamped Op → ℕ
  ts x = timestamp assigned H x

  last_within : (i n : ℕ) → last i n ≤ n
  last_within i zero = omega arith
  last_within i (suc n) = go (W i n) (last_within i n)
    where
      go : (b : Bool) → last i n ≤ n → (if b then suc n else last i n) ≤ suc n
      go true h = omega arith
      go false h = omega (arith, h)

  last_most : (i n k : ℕ) → k < n → W i k ≡ true → suc k ≤ last i n
  last_most i zero k h t = absurd (omega (arith, h))
  last_most i (suc n) k h t = go (W i n) refl (λ below. last_most i n k below t)
    where
      go : (b : Bool) → W i n ≡ b → (k < n → suc k ≤ last i n) → suc k ≤ (if b then suc n else last i n)
      go true is later = omega (arith, h)
      go false is later = elim (cases_lt k n) [
        | inl below ↦ later below
        | inr there ↦ absurd (let same : k ≡ n = omega (arith, h, there) in let f = sym t ∙ ap (W i) same ∙ is in cc f)
      ]

  last_writes : (i n : ℕ) → 0 < last i n → W i (last i n - 1) ≡ true
  last_writes i zero h = absurd (omega (arith, h))
  last_writes i (suc n) h = go (W i n) refl h (last_writes i n)
    where
      go : (b : Bool) → W i n ≡ b → 0 < (if b then suc n else last i n) → (0 < last i n → W i (last i n - 1) ≡ true) → W i ((if b then suc n else last i n) - 1) ≡ true
      go true is h later = let same : suc n - 1 ≡ n = omega arith in ap (W i) same ∙ is
      go false is h later = later h

  in_all : (i k : ℕ) → i < identity_limit → k < at H i → IsIn (all_records H) (R i k)
  in_all i k small h = stamped H i k (record_at H i k) small (has_record_at H i k h)

  -- TIMESTAMPS

  -- what is no write has timestamp 0
  no_write : (i k : ℕ) → i < identity_limit → k < at H i → 0 < ts (R i k) → W i k ≡ true
  no_write i k small h some = go (found assigned (R i k).action) refl
    where
      go : (o : Option Assignment) → found assigned (R i k).action ≡ o → W i k ≡ true
      go (Some a) is = ap is_some is
      go None is = absurd (let e = timestamp_equation assigned H history (R i k) (in_all i k small h)
          ∙ ap (timestamp_after (greatest (map (timestamp assigned (cut H (R i k).past)) (all_records (cut H (R i k).past))))) is in omega (arith, e, some))

  -- a later write of an identity has a greater timestamp
  later_greater : (i k m : ℕ) → i < identity_limit → k < m → m < at H i → W i m ≡ true → ts (R i k) < ts (R i m)
  later_greater i k m small earlier below writes = go (found assigned (R i m).action) refl writes
    where
      past : VersionVector
      past = past_of H i m

      counted : k < past_of H i m i
      counted = let n = history.numbered i m (record_at H i m) (has_record_at H i m below) in omega (arith, n, earlier)

      in_past : IsIn (all_records (cut H (past_of H i m))) (R i k)
      in_past = stamped (cut H (past_of H i m)) i k (record_at H i k) small (slice_get-taken (H i) (past_of H i m i) k counted ∙ has_record_at H i k (omega (arith, earlier, below)))

      same : timestamp assigned (cut H (past_of H i m)) (R i k) ≡ ts (R i k)
      same = timestamps_stay H (cut H (past_of H i m)) history (taken_cut H (past_of H i m) (past_cut H (versions H) i m (own_cut H history) below)) (R i k) in_past assigned

      go : (o : Option Assignment) → found assigned (R i m).action ≡ o → is_some o ≡ true → ts (R i k) < ts (R i m)
      go None is e = absurd (cc e)
      go (Some a) is e =
          let before = greatest (map (timestamp assigned (cut H (past_of H i m))) (all_records (cut H (past_of H i m)))) in
          let whole : ts (R i m) ≡ max a.now (before + 1) = timestamp_equation assigned H history (R i m) (in_all i m small below) ∙ ap (timestamp_after before) is in
          let least : timestamp assigned (cut H (past_of H i m)) (R i k) ≤ before = in_fold (map (timestamp assigned (cut H (past_of H i m))) (all_records (cut H (past_of H i m)))) 0 _ (to_map (timestamp assigned (cut H (past_of H i m))) (all_records (cut H (past_of H i m))) (R i k) in_past) in
          omega (arith, whole, least, same)

  -- no record of an identity has a greater timestamp than its last write
  abbrev best : ℕ → ℕ
  best i = last_timestamp assigned H i

  below_best : (i k : ℕ) → i < identity_limit → k < at H i → ts (R i k) ≤ best i
  below_best i k small h = go (L i == 0) refl
    where
      go : (b : Bool) → (L i == 0) ≡ b → ts (R i k) ≤ (if b then 0 else ts (R i (L i - 1)))
      go true e = elim (cases_lt 0 (ts (R i k))) [
        | inl some ↦ absurd (let most = last_most i (at H i) k h (no_write i k small h some) in let z = eqb-true (L i) 0 e in omega (arith, most, z))
        | inr none ↦ none
      ]
      go false e = elim (cases_lt 0 (ts (R i k))) [
        | inl some ↦
            let most = last_most i (at H i) k h (no_write i k small h some) in
            let bound = last_within i (at H i) in
            elim (cases_lt k (L i - 1)) [
              | inl earlier ↦ let g = later_greater i k (L i - 1) small earlier (omega (arith, most, bound)) (last_writes i (at H i) (omega (arith, most))) in omega (arith, g)
              | inr there ↦ let same : k ≡ L i - 1 = omega (arith, most, there) in let f = ap (λ n. ts (R i n)) same in omega (arith, f)
            ]
        | inr none ↦ omega (arith, none)
      ]

  -- THE GREATEST OF ALL

  record Place (x : Stamped Op) : Type 0 where
    index : ℕ
    small : x.origin < identity_limit
    below : index < at H x.origin
    is : R x.origin index ≡ x

  placed : (x : Stamped Op) → IsIn (all_records H) x → Place x
  placed x h =
      let s = is_stamped H x h in
      let same = record_at_is H x.origin s.index _ s.has in
      record {
        index = s.index;
        small = s.small;
        below = slice_get-below (H x.origin) _ s.index s.has;
        is = ap (λ (r : Record Op). record { origin = x.origin; number = suc s.index; action = r.action; past = r.past }) same ∙ ap (λ n. record { origin = x.origin; number = n; action = x.action; past = x.past }) (sym s.numbered);
      }

  abbrev top : ℕ
  top = newest assigned H

  below_top : (x : Stamped Op) → IsIn (all_records H) x → ts x ≤ top
  below_top x h = in_fold (map (timestamp assigned H) (all_records H)) 0 (ts x) (to_map (timestamp assigned H) (all_records H) x h)

  best_is : (i : ℕ) → i < identity_limit → best i ≤ top
  best_is i small = go (L i == 0) refl
    where
      go : (b : Bool) → (L i == 0) ≡ b → (if b then 0 else ts (R i (L i - 1))) ≤ top
      go true e = omega arith
      go false e = let some = positive (L i) e in let bound = last_within i (at H i) in below_top (R i (L i - 1)) (in_all i (L i - 1) small (omega (arith, some, bound)))

  abbrev last_top : ℕ
  last_top = last_newest assigned H

  pub same_top : top ≡ last_top
  same_top =
      let up : top ≤ last_top = fold_within (map (timestamp assigned H) (all_records H)) 0 last_top (none_below last_top) (λ n m.
      let f = from_map (timestamp assigned H) (all_records H) n m in
      let p = placed f.0 f.1 in
      let here = below_best f.0.origin p.index p.small p.below in
      let there = in_fold (map (last_timestamp assigned H) identities) 0 (best f.0.origin) (to_map (last_timestamp assigned H) identities f.0.origin (at_identities f.0.origin p.small)) in
      let same = ap ts p.is in
      by_steps n (ts f.0) (ts (R f.0.origin p.index)) (best f.0.origin) last_top here there same f.2) in
      let down : last_top ≤ top = fold_within (map (last_timestamp assigned H) identities) 0 top (none_below top) (λ n m.
      let f = from_map (last_timestamp assigned H) identities n m in
      let h = best_is f.0 (small_of f.0 f.1) in
      by_step n (best f.0) top h f.2) in
      both_ways top last_top up down

  -- the last write's timestamp, where there is one
  best_at : (i : ℕ) → 0 < L i → best i ≡ ts (R i (L i - 1))
  best_at i some = go (L i == 0) refl
    where
      go : (b : Bool) → (L i == 0) ≡ b → (if b then 0 else ts (R i (L i - 1))) ≡ ts (R i (L i - 1))
      go true e = absurd (let z = eqb-true (L i) 0 e in omega (arith, z, some))
      go false e = refl

  best_some : (i : ℕ) → 0 < best i → 0 < L i
  best_some i h = go (L i == 0) refl h
    where
      go : (b : Bool) → (L i == 0) ≡ b → 0 < (if b then 0 else ts (R i (L i - 1))) → 0 < L i
      go true e h = absurd (omega (arith, h))
      go false e h = positive (L i) e

  -- THE WINNER, where t is the greatest timestamp

  abbrev wins_by : ℕ → Stamped Op → Bool
  wins_by t x = not (t == 0) && (ts x == t)

  abbrev wins_last : ℕ → ℕ → Bool
  wins_last t i = not (t == 0) && (best i == t)

  -- it has this timestamp, which is not 0
  record Wins (t : ℕ) (x : Stamped Op) : Type 0 where
    some : 0 < t
    is_top : ts x ≡ t

  tells_wins : (t : ℕ) (x : Stamped Op) → wins_by t x ≡ true → Wins t x
  tells_wins t x e =
      let some = first_true (not (t == 0)) (ts x == t) e in
      let same = eqb-true (ts x) t (second_true (not (t == 0)) (ts x == t) e) in
      record { some = not_zero t some; is_top = same }

  -- in a row of records, of which no timestamp is greater
  module _ (t : ℕ) (i : ℕ) (small : i < identity_limit) (row : List (Stamped Op)) (of_row : (x : Stamped Op) → IsIn row x → (k : ℕ) × (k < at H i) × (R i k ≡ x)) (in_it : (k : ℕ) → k < at H i → IsIn row (R i k)) (most_is : (k : ℕ) → k < at H i → ts (R i k) ≤ t) where
    -- the last write alone may win
    wins_at : (x : Stamped Op) → IsIn row x → Wins t x → (0 < L i) × (x ≡ R i (L i - 1))
    wins_at x h w =
        let p = of_row x h in
        let value = ap ts p.2 in
        let some = w.some in
        let is_top = w.is_top in
        let most = last_most i (at H i) p.0 p.1 (no_write i p.0 small p.1 (omega (arith, value, some, is_top))) in
        let bound = last_within i (at H i) in
        let at_last : p.0 ≡ L i - 1 = elim (cases_lt p.0 (L i - 1)) [
          | inl earlier ↦
              let g = later_greater i p.0 (L i - 1) small earlier (omega (arith, most, bound)) (last_writes i (at H i) (omega (arith, most))) in
              let b = most_is (L i - 1) (omega (arith, most, bound)) in
              absurd (omega (arith, g, b, value, is_top))
          | inr there ↦ omega (arith, most, there)
        ] in
        (omega (arith, most), sym p.2 ∙ ap (R i) at_last)

    row_wins : wins_last t i ≡ true → find (wins_by t) row ≡ Some (R i (L i - 1))
    row_wins e =
        let some_top = not_zero t (first_true (not (t == 0)) (best i == t) e) in
        let same = eqb-true (best i) t (second_true (not (t == 0)) (best i == t) e) in
        let some = best_some i (omega (arith, some_top, same)) in
        let bound = last_within i (at H i) in
        let value = best_at i some in
        finds_one (wins_by t) row (R i (L i - 1)) (in_it (L i - 1) (omega (arith, some, bound)))
        (both_true (not (t == 0)) (ts (R i (L i - 1)) == t) (some_zero t some_top) (eq-eqb (ts (R i (L i - 1))) t (omega (arith, value, same))))
        (λ x h w. (wins_at x h (tells_wins t x w)).1)

    row_loses : wins_last t i ≡ false → find (wins_by t) row ≡ None
    row_loses e = finds_none (wins_by t) row (λ x h w.
        let tells = tells_wins t x w in
        let one = wins_at x h tells in
        let value = best_at i one.0 in
        let same = ap ts one.1 in
        let some = tells.some in
        let is_top = tells.is_top in
        let yes : wins_last t i ≡ true = both_true (not (t == 0)) (best i == t) (some_zero t some) (eq-eqb (best i) t (omega (arith, value, same, is_top))) in
        (let f = sym e ∙ yes in cc f))

    row_found : find (wins_by t) row ≡ (if wins_last t i then Some (R i (L i - 1)) else None)
    row_found = go (wins_last t i) refl
      where
        go : (b : Bool) → wins_last t i ≡ b → find (wins_by t) row ≡ (if b then Some (R i (L i - 1)) else None)
        go true e = row_wins e
        go false e = row_loses e

  -- the records of an identity
  of_row : (i : ℕ) (x : Stamped Op) → IsIn (stamped_from i 1 (H i)) x → (k : ℕ) × (k < at H i) × (R i k ≡ x)
  of_row i x h =
      let s = row_at i 1 (H i) x h in
      let same = record_at_is H i s.0 _ s.1 in
      let number : suc s.0 ≡ x.number = (let e = s.3 in omega (arith, e)) in (
        s.0,
        slice_get-below (H i) _ s.0 s.1,
        ap (λ (r : Record Op). record { origin = i; number = suc s.0; action = r.action; past = r.past }) same
            ∙ ap (λ n. record { origin = i; number = n; action = x.action; past = x.past }) number ∙ ap (λ j. record { origin = j; number = x.number; action = x.action; past = x.past }) (sym s.2),
      )

  in_row : (i k : ℕ) → k < at H i → IsIn (stamped_from i 1 (H i)) (R i k)
  in_row i k below =
      let back : 1 + k ≡ suc k = omega arith in
      subst (λ n. IsIn (stamped_from i 1 (H i)) (record { origin = i; number = n; action = (record_at H i k).action; past = (record_at H i k).past })) back (to_row i 1 (H i) k (record_at H i k) (has_record_at H i k below))

  find_last : (t : ℕ) → ((x : Stamped Op) → IsIn (all_records H) x → ts x ≤ t) → find (wins_by t) (all_records H) ≡ option_map (last_write_of assigned H) (find (wins_last t) identities)
  find_last t most_is = find_each (wins_by t) (wins_last t) (λ i. stamped_from i 1 (H i)) (last_write_of assigned H) identities
      (λ i m. row_found t i (small_of i m) (stamped_from i 1 (H i)) (of_row i) (in_row i) (λ k below. most_is (R i k) (in_all i k (small_of i m) below)))

  pub winner_is_last : winner assigned H ≡ last_winner assigned H
  winner_is_last = find_last (newest assigned H) below_top ∙ ap (λ t. option_map (last_write_of assigned H) (find (wins_last t) identities)) same_top
