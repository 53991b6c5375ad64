-- What the tests of a trace's rules say, one way and the other.
use Rattle.std.proofs.Common.{◌≡◌, ◌↔◌, ℕ, zero, suc, ◌+◌, ◌-◌, ◌<◌, ◌≤◌, take, List, [], ◌∷◌, refl, sym, ap, subst, ◌∙◌, arith, Bool, true, false, Some, inl, inr}
use Rattle.std.specs.Prelude.{◌&&◌, ◌||◌, not, ◌==◌, nat_le, if◌then◌else◌, slice_get}
use Rattle.std.specs.List.{list_all}
use Rattle.std.proofs.lemmas.Bool.{le-leb, leb-true, eq-eqb, eqb-true, cases_lt}
use Rattle.std.proofs.lemmas.Bool.Decides.{nat_tests}
use Rattle.model_history.specs.Table.{identity_limit, identities}
use Rattle.model_history.specs.Vector.{VersionVector, Covers, none_counted}
use Rattle.model_history.specs.Cuts.{record_at, past_of}
use Rattle.model_history.specs.History.{Action, Record, History, Stamped, at, versions, cut, stamped_from, all_records, is_prune_of, HasRecord, IsHistory, IsExactlyPruned}
use Rattle.model_history.specs.History.Action.{Operation, Prune}
use Rattle.model_history.proofs.PruneLaws.{IsIn, in_tail, in_flat_map, to_flat_map, in_range, at_identities, prune_tells, prune_passes}
use Rattle.model_history.proofs.Bridge.{has_record_at}
use Rattle.model_history.proofs.HistoryLaws.{slice_get-take}
use Rattle.model_history.proofs.PartLaws.{take_none, slice_get-taken}
use Rattle.model_history.proofs.PastLaws.{at-cut}
use Rattle.model_traces.specs.Meaning as Meaning
use Rattle.model_traces.specs.Meaning.{IsWithin, CoversAt, last_past, covers_last_pasts}
use Rattle.model_traces.specs.Traces.{covers, is_none, is_closed, is_same_record, prunes_exactly, is_exactly_pruned}

-- BOOLS

pub first_true : (a b : Bool) → (a && b) ≡ true → a ≡ true
first_true true b e = refl
first_true false b e = absurd (cc e)

pub second_true : (a b : Bool) → (a && b) ≡ true → b ≡ true
second_true true b e = e
second_true false b e = absurd (cc e)

pub both_true : (a b : Bool) → a ≡ true → b ≡ true → (a && b) ≡ true
both_true true b e f = f
both_true false b e f = absurd (cc e)

pub or_right : (a b : Bool) → b ≡ true → (a || b) ≡ true
or_right true b e = refl
or_right false b e = e

-- ELEMENTS

module _ {X : Type 0} (p : X → Bool) where
  pub all_pass : (xs : List X) → ((x : X) → IsIn xs x → p x ≡ true) → list_all p xs ≡ true
  all_pass [] h = refl
  all_pass (x ∷ xs) h = both_true (p x) (list_all p xs) (h x (0, refl)) (all_pass xs (λ y m. h y (in_tail x xs y m)))

  pub each_passes : (xs : List X) → list_all p xs ≡ true → (x : X) → IsIn xs x → p x ≡ true
  each_passes [] e x h = absurd (cc h.1)
  each_passes (y ∷ xs) e x (zero, h) = let same : y ≡ x = cc h in subst (λ z. p z ≡ true) same (first_true (p y) (list_all p xs) e)
  each_passes (y ∷ xs) e x (suc k, h) = each_passes xs (second_true (p y) (list_all p xs) e) x (k, h)

small_identity : (i : ℕ) → IsIn identities i → i < identity_limit
small_identity i h = let r = in_range 0 identity_limit i h in omega (arith, r.1)

-- RECORDS WITH THEIR NUMBERS

module _ {Op : Type 0} where
  -- a stamped record is the history's record of its origin and number
  pub record IsStamped (H : History Op) (x : Stamped Op) : Type 0 where
    pub small : x.origin < identity_limit
    pub index : ℕ
    pub numbered : x.number ≡ suc index
    pub has : HasRecord H x.origin index (record { action = x.action; past = x.past })

  stamped_at : (i n : ℕ) (rs : List (Record Op)) (x : Stamped Op) → IsIn (stamped_from i n rs) x → (k : ℕ) × (slice_get rs k ≡ Some (record { action = x.action; past = x.past })) × (x.origin ≡ i) × (x.number ≡ n + k)
  stamped_at i n [] x h = absurd (cc h.1)
  stamped_at i n (r ∷ rs) x (zero, e) =
      let same : record { origin = i; number = n; action = r.action; past = r.past } ≡ x = cc e in
      (zero, ap (λ (y : Stamped Op). Some (record { action = y.action; past = y.past })) same, sym (ap (λ (y : Stamped Op). y.origin) same), (let e' : n ≡ x.number = ap (λ (y : Stamped Op). y.number) same in omega (arith, e')))
  stamped_at i n (r ∷ rs) x (suc k, e) = let h = stamped_at i (suc n) rs x (k, e) in (suc h.0, h.1, h.2, (let e' = h.3 in omega (arith, e')))

  pub is_stamped : (H : History Op) (x : Stamped Op) → IsIn (all_records H) x → IsStamped H x
  is_stamped H x h =
      let m = in_flat_map (λ i. stamped_from i 1 (H i)) identities x h in
      let s = stamped_at m.0 1 (H m.0) x m.2 in
      record {
        small = subst (λ i. i < identity_limit) (sym s.2) (small_identity m.0 m.1);
        index = s.0;
        numbered = (let e = s.3 in omega (arith, e));
        has = ap (λ i. slice_get (H i) s.0) s.2 ∙ s.1;
      }

  to_stamped : (i n : ℕ) (rs : List (Record Op)) (k : ℕ) (r : Record Op) → slice_get rs k ≡ Some r → IsIn (stamped_from i n rs) (record { origin = i; number = n + k; action = r.action; past = r.past })
  to_stamped i n [] k r e = absurd (cc e)
  to_stamped i n (s ∷ rs) zero r e =
      let same : s ≡ r = cc e in
      let here : n ≡ n + 0 = omega arith in
      (0, ap (λ (y : Record Op). Some (record { origin = i; number = n; action = y.action; past = y.past })) same ∙ ap (λ m. Some (record { origin = i; number = m; action = r.action; past = r.past })) here)
  to_stamped i n (s ∷ rs) (suc k) r e =
      let h = to_stamped i (suc n) rs k r e in
      let there : suc n + k ≡ n + suc k = omega arith in
      (suc h.0, h.1 ∙ ap (λ m. Some (record { origin = i; number = m; action = r.action; past = r.past })) there)

  pub stamped : (H : History Op) (i k : ℕ) (r : Record Op) → i < identity_limit → HasRecord H i k r → IsIn (all_records H) (record { origin = i; number = suc k; action = r.action; past = r.past })
  stamped H i k r small has =
      let s = to_stamped i 1 (H i) k r has in
      let same : 1 + k ≡ suc k = omega arith in
      to_flat_map (λ i. stamped_from i 1 (H i)) identities i _ (at_identities i small)
      (subst (λ m. IsIn (stamped_from i 1 (H i)) (record { origin = i; number = m; action = r.action; past = r.past })) same s)

-- VECTORS

pub covers_holds : (v w : VersionVector) → ((i : ℕ) → i < identity_limit → w i ≤ v i) → covers v w ≡ true
covers_holds v w h = all_pass (λ i. nat_le (w i) (v i)) identities (λ i m. le-leb (w i) (v i) (h i (small_identity i m)))

pub covers_tells : (v w : VersionVector) → covers v w ≡ true → (i : ℕ) → i < identity_limit → w i ≤ v i
covers_tells v w e i small = leb-true (w i) (v i) (each_passes (λ i. nat_le (w i) (v i)) identities e i (at_identities i small))

-- HISTORIES

module _ {Op : Type 0} (H : History Op) where
  abbrev pub IsClosed : Type 0
  IsClosed = (i k : ℕ) (r : Record Op) → HasRecord H i k r → Covers (versions H) r.past

  pub closed_holds : IsClosed → is_closed H ≡ true
  closed_holds closed = all_pass (λ x. covers (versions H) x.past) (all_records H) (λ x m. let s = is_stamped H x m in covers_holds (versions H) x.past (λ i small. closed x.origin s.index _ s.has i))

  -- a record that makes a history not empty
  pub is_none_not : (i : ℕ) → i < identity_limit → 0 < at H i → is_none H ≡ false
  is_none_not i small some = go (is_none H) refl
    where
      go : (b : Bool) → is_none H ≡ b → b ≡ false
      go true e = absurd (let z = eqb-true (at H i) 0 (each_passes (λ i. at H i == 0) identities e i (at_identities i small)) in omega (arith, z))
      go false e = refl

  module _ (exact : IsExactlyPruned H) where
    alone_passes : (x : Stamped Op) (r : ℕ) → IsStamped H x → x.action ≡ Prune r → (y : Stamped Op) → IsStamped H y → (not (is_prune_of r y.action) || is_same_record x y) ≡ true
    alone_passes x r sx ex y sy = go (is_prune_of r y.action) refl
      where
        go : (b : Bool) → is_prune_of r y.action ≡ b → (not b || is_same_record x y) ≡ true
        go true e =
            let ey = prune_tells r y.action e in
            let one = exact.once x.origin sx.index y.origin sy.index _ _ r sx.has sy.has ex ey in
            both_true (x.origin == y.origin) (x.number == y.number) (eq-eqb x.origin y.origin one.0) (eq-eqb x.number y.number (sx.numbered ∙ ap suc one.1 ∙ sym sy.numbered))
        go false e = refl

    prune_passes_exactly : (x : Stamped Op) (action : Action Op) → IsStamped H x → x.action ≡ action → prunes_exactly H x action ≡ true
    prune_passes_exactly x (Operation op) s e = refl
    prune_passes_exactly x (Prune r) s e =
        both_true (at H r == x.past r) (list_all (λ y. not (is_prune_of r y.action) || is_same_record x y) (all_records H)) (eq-eqb (at H r) (x.past r) (exact.nothing_more x.origin s.index _ r s.has e))
        (all_pass (λ y. not (is_prune_of r y.action) || is_same_record x y) (all_records H) (λ y m. alone_passes x r s e y (is_stamped H y m)))

    pub exactly_pruned_holds : is_exactly_pruned H ≡ true
    exactly_pruned_holds = all_pass (λ x. prunes_exactly H x x.action) (all_records H) (λ x m. prune_passes_exactly x x.action (is_stamped H x m) refl)

  -- and the other way, where records are those of identities
  module _ (within : (i : ℕ) → identity_limit ≤ i → H i ≡ []) where
    pub small_origin : (i k : ℕ) (r : Record Op) → HasRecord H i k r → i < identity_limit
    small_origin i k r has = elim (cases_lt i identity_limit) [
      | inl small ↦ small
      | inr far ↦ absurd (let e : slice_get {X = Record Op} [] k ≡ Some r = sym (ap (λ (xs : List (Record Op)). slice_get xs k) (within i far)) ∙ has in cc e)
    ]

    pub closed_tells : is_closed H ≡ true → (i k : ℕ) (r : Record Op) → HasRecord H i k r → (l : ℕ) → l < identity_limit → r.past l ≤ at H l
    closed_tells e i k r has l small =
        covers_tells (versions H) r.past (each_passes (λ x. covers (versions H) x.past) (all_records H) e (record { origin = i; number = suc k; action = r.action; past = r.past }) (stamped H i k r (small_origin i k r has) has)) l small

    prune_test : is_exactly_pruned H ≡ true → (i k : ℕ) (x : Record Op) (r : ℕ) → HasRecord H i k x → x.action ≡ Prune r
        → prunes_exactly H (record { origin = i; number = suc k; action = x.action; past = x.past }) (Prune r) ≡ true
    prune_test e i k x r has is =
        let y : Stamped Op = record { origin = i; number = suc k; action = x.action; past = x.past } in
        ap (prunes_exactly H y) (sym is) ∙ each_passes (λ x. prunes_exactly H x x.action) (all_records H) e y (stamped H i k x (small_origin i k x has) has)

    pub exactly_pruned_tells : is_exactly_pruned H ≡ true → IsExactlyPruned H
    exactly_pruned_tells e =
        record {
          once = λ i k j m x y r hx hy ex ey.
              let s : Stamped Op = record { origin = i; number = suc k; action = x.action; past = x.past } in
              let t : Stamped Op = record { origin = j; number = suc m; action = y.action; past = y.past } in
              let all = second_true (at H r == x.past r) (list_all (λ y. not (is_prune_of r y.action) || is_same_record s y) (all_records H)) (prune_test e i k x r hx ex) in
              let one = each_passes (λ y. not (is_prune_of r y.action) || is_same_record s y) (all_records H) all t (stamped H j m y (small_origin j m y hy) hy) in
              let same = must (is_prune_of r y.action) (is_same_record s t) (ap (is_prune_of r) ey ∙ prune_passes Op r) one in
              let number : suc k ≡ suc m = eqb-true (suc k) (suc m) (second_true (i == j) (suc k == suc m) same) in
              (eqb-true i j (first_true (i == j) (suc k == suc m) same), omega (arith, number));
          nothing_more = λ i k x r hx ex.
              let s : Stamped Op = record { origin = i; number = suc k; action = x.action; past = x.past } in
              eqb-true (at H r) (x.past r) (first_true (at H r == x.past r) (list_all (λ y. not (is_prune_of r y.action) || is_same_record s y) (all_records H)) (prune_test e i k x r hx ex));
        }
      where
        must : (a b : Bool) → a ≡ true → (not a || b) ≡ true → b ≡ true
        must true b e f = f
        must false b e f = absurd (cc e)

-- AT THE LAST RECORDS

-- what the law says of the tests, both ways
pub closed_says : {Op : Type 0} (H : History Op) → IsWithin H → (is_closed H ≡ true) ↔ Meaning.IsClosed H
closed_says H within = (
  λ e i k r has l small. closed_tells H within e i k r has l small,
  λ closed. all_pass (λ x. covers (versions H) x.past) (all_records H) (λ x m. let s = is_stamped H x m in covers_holds (versions H) x.past (λ i small. closed x.origin s.index _ s.has i small)),
)

pub none_says : {Op : Type 0} (H : History Op) → (is_none H ≡ true) ↔ ((i : ℕ) → i < identity_limit → at H i ≡ 0)
none_says H = (
  λ e i small. eqb-true (at H i) 0 (each_passes (λ i. at H i == 0) identities e i (at_identities i small)),
  λ none. all_pass (λ i. at H i == 0) identities (λ i m. eq-eqb (at H i) 0 (none i (small_identity i m))),
)

pub exactly_says : {Op : Type 0} (H : History Op) → IsWithin H → (is_exactly_pruned H ≡ true) ↔ IsExactlyPruned H
exactly_says H within = (exactly_pruned_tells H within, exactly_pruned_holds H)

pub covers_says : (v w : VersionVector) → (covers v w ≡ true) ↔ CoversAt v w
covers_says v w = (covers_tells v w, covers_holds v w)

bool_same : (a b : Bool) → (a ≡ true → b ≡ true) → (b ≡ true → a ≡ true) → a ≡ b
bool_same true true f g = refl
bool_same false false f g = refl
bool_same true false f g = sym (f refl)
bool_same false true f g = g refl

module _ {Op : Type 0} (made : History Op) (history : IsHistory made) (known : VersionVector) (few : Covers (versions made) known) where
  -- how many of each identity the cut has
  cut_at : (i : ℕ) → at (cut made known) i ≡ known i
  cut_at i = let e = at-cut made known i in let h = few i in omega (arith, e, h)

  cut_within : IsWithin (cut made known)
  cut_within i far = ap (take (known i)) (history.within i far) ∙ take_none (known i)

  -- a record of the cut is no later than the last, and so is its past
  before_last : (i k : ℕ) (r : Record Op) → HasRecord (cut made known) i k r → (l : ℕ) → r.past l ≤ last_past made known i l
  before_last i k r has l =
      let here = slice_get-take (made i) (known i) k r has in
      go (known i == 0) refl here.0 here.1
    where
      last : k < known i → HasRecord made i (known i - 1) (record_at made i (known i - 1))
      last h = has_record_at made i (known i - 1) (let a = few i in omega (arith, a, h))

      earlier : (h : k < known i) → HasRecord made i k r → r.past l ≤ (record_at made i (known i - 1)).past l
      earlier h there = elim (cases_lt k (known i - 1)) [
        | inl below ↦ let number = history.numbered i (known i - 1) (record_at made i (known i - 1)) (last h) in history.transitive i (known i - 1) i k (record_at made i (known i - 1)) r (last h) there (omega (arith, below, number)) l
        | inr at_last ↦
            let same : k ≡ known i - 1 = omega (arith, h, at_last) in
            let it : Some r ≡ Some (record_at made i (known i - 1)) = sym there ∙ ap (slice_get (made i)) same ∙ last h in
            let it' : r ≡ record_at made i (known i - 1) = cc it in
            let e = ap (λ (x : Record Op). x.past l) it' in omega (arith, e)
      ]

      go : (b : Bool) → (known i == 0) ≡ b → k < known i → HasRecord made i k r → r.past l ≤ (if b then none_counted else past_of made i (known i - 1)) l
      go true e h there = absurd (let z = eqb-true (known i) 0 e in omega (arith, z, h))
      go false e h there = earlier h there

  -- the cut holds the past of the last record that it has of an identity
  last_covered : is_closed (cut made known) ≡ true → (i : ℕ) → i < identity_limit → covers known (last_past made known i) ≡ true
  last_covered closed i small = go (known i == 0) refl
    where
      positive : (n : ℕ) → (n == 0) ≡ false → 0 < n
      positive n e = grind (arith, nat_tests)

      go : (b : Bool) → (known i == 0) ≡ b → covers known (if b then none_counted else past_of made i (known i - 1)) ≡ true
      go true e = covers_holds known none_counted (λ l s. omega arith)
      go false e =
          let some : 0 < known i = positive (known i) e in
          let r = record_at made i (known i - 1) in
          let has : HasRecord (cut made known) i (known i - 1) r = slice_get-taken (made i) (known i) (known i - 1) (omega (arith, some)) ∙ has_record_at made i (known i - 1) (let a = few i in omega (arith, a, some)) in
          covers_holds known r.past (λ l s. let a = closed_tells (cut made known) cut_within closed i (known i - 1) r has l s in let b = cut_at l in omega (arith, a, b))

  -- looking at the last records is enough
  pub last_pasts_are_enough : covers_last_pasts made known ≡ is_closed (cut made known)
  last_pasts_are_enough =
      bool_same (covers_last_pasts made known) (is_closed (cut made known))
      (λ e. (closed_says (cut made known) cut_within).1
      (λ i k r has l small.
      let a = before_last i k r has l in
      let b = covers_tells known (last_past made known i) (each_passes (λ i. covers known (last_past made known i)) identities e i (at_identities i (small_origin (cut made known) cut_within i k r has))) l small in
      let c = cut_at l in
      omega (arith, a, b, c)))
      (λ closed. all_pass (λ i. covers known (last_past made known i)) identities (λ i m. last_covered closed i (small_identity i m)))
