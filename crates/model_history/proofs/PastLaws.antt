-- A definition by recursion on pasts meets its own equation.
use Rattle.std.proofs.Common.{◌≡◌, ℕ, zero, suc, ◌+◌, ◌<◌, ◌≤◌, min, List, [], take, refl, ap, subst, ◌∙◌, arith, Some, inl, inr, length-take}
use Rattle.std.proofs.lemmas.Bool.{cases_lt}
use Rattle.std.proofs.lemmas.List.Sums.{sum_by-cons}
use Rattle.std.specs.Prelude.{slice_get, sum_by}
use Rattle.std.specs.List.{range_with_len}
use Rattle.model_history.specs.Table.{identity_limit}
use Rattle.model_history.specs.Vector.{VersionVector}
use Rattle.model_history.specs.History.{Record, History, at, size, cut, HasRecord, IsHistory, by_past, by_past_within}
use Rattle.model_history.proofs.HistoryLaws.{slice_get-below, slice_get-take}

-- SUMS OVER IDENTITIES

sum_le : (f g : ℕ → ℕ) (first n : ℕ) → ((i : ℕ) → f i ≤ g i) → sum_by f (range_with_len first n) ≤ sum_by g (range_with_len first n)
sum_le f g first zero h = omega arith
sum_le f g first (suc n) h =
    let head = h first in
    let rest = sum_le f g (first + 1) n h in
    omega (arith, sum_by-cons f first (range_with_len (first + 1) n), sum_by-cons g first (range_with_len (first + 1) n))

at_first : (f g : ℕ → ℕ) (first n i : ℕ) → i ≡ first → ((j : ℕ) → f j ≤ g j) → f i < g i → sum_by f (range_with_len first (suc n)) < sum_by g (range_with_len first (suc n))
at_first f g first n i e h less =
    let here : f first < g first = subst (λ k. f k < g k) e less in
    let rest = sum_le f g (first + 1) n h in
    omega (arith, sum_by-cons f first (range_with_len (first + 1) n), sum_by-cons g first (range_with_len (first + 1) n))

sum_lt : (f g : ℕ → ℕ) (first n i : ℕ) → first ≤ i → i < first + n → ((j : ℕ) → f j ≤ g j) → f i < g i → sum_by f (range_with_len first n) < sum_by g (range_with_len first n)
sum_lt f g first zero i low high h less = absurd (omega arith)
sum_lt f g first (suc n) i low high h less = elim (cases_lt first i) [
  | inl later ↦
      let head = h first in
      let rest = sum_lt f g (first + 1) n i (omega arith) (omega arith) h less in
      omega (arith, sum_by-cons f first (range_with_len (first + 1) n), sum_by-cons g first (range_with_len (first + 1) n))
  | inr here ↦ at_first f g first n i (omega arith) h less
]

module _ {Op : Type 0} where
  -- THE PAST OF A RECORD IS A SHORTER HISTORY

  take_nothing : (n : ℕ) → ◌≡◌ {A = List (Record Op)} (take n []) []
  take_nothing zero = refl
  take_nothing (suc n) = refl

  pub at-cut : (H : History Op) (past : VersionVector) (i : ℕ) → at (cut H past) i ≡ min (past i) (at H i)
  at-cut H past i = length-take (past i) (H i)

  pub past_is_history : (H : History Op) → IsHistory H → (i k : ℕ) (r : Record Op) → HasRecord H i k r → IsHistory (cut H r.past)
  past_is_history H history i k r has =
      record {
        within = λ j h. ap (take (r.past j)) (history.within j h) ∙ take_nothing (r.past j);
        closed = λ j m s in_cut l.
            let in_past = slice_get-take (H j) (r.past j) m s in_cut in
            let below = history.closed j m s in_past.1 l in
            let inside = history.transitive i k j m r s has in_past.1 in_past.0 l in
            rw (at-cut H r.past l) (omega arith);
        numbered = λ j m s in_cut. history.numbered j m s (slice_get-take (H j) (r.past j) m s in_cut).1;
        transitive = λ j m l n s t in_cut in_cut' before.
            history.transitive j m l n s t (slice_get-take (H j) (r.past j) m s in_cut).1 (slice_get-take (H l) (r.past l) n t in_cut').1 before;
      }

  -- who has a record is an identity
  pub identity_of_record : (H : History Op) → IsHistory H → (i k : ℕ) (r : Record Op) → HasRecord H i k r → i < identity_limit
  identity_of_record H history i k r has = elim (cases_lt i identity_limit) [
    | inl h ↦ h
    | inr h ↦ let none : slice_get {X = Record Op} [] k ≡ Some r = rw (history.within i h) at has in absurd (nothing_there k none)
  ]
    where
      nothing_there : (k : ℕ) → slice_get {X = Record Op} [] k ≡ Some r → ⊥
      nothing_there k e = cc e

  pub past_is_shorter : (H : History Op) → IsHistory H → (i k : ℕ) (r : Record Op) → HasRecord H i k r → size (cut H r.past) < size H
  past_is_shorter H history i k r has =
      sum_lt (at (cut H r.past)) (at H) 0 identity_limit i (omega arith) (let h = identity_of_record H history i k r has in omega arith)
      (λ j. rw (at-cut H r.past j) (omega arith))
      (let own = history.numbered i k r has in let below = slice_get-below (H i) r k has in rw (at-cut H r.past i) (omega arith))
  -- THE EQUATION OF A DEFINITION BY RECURSION ON PASTS

-- what is below something that is below the number after d is below d
below_it : (n m d : ℕ) → n < m → m < suc d → n < d
below_it n m d less few = omega arith

below_next : (n : ℕ) → n < suc n
below_next n = omega arith

module _ {Op X A : Type 0} where
  -- what the step says of x depends on the pasts of the history's records alone
  abbrev pub LooksAtPasts : (History Op → X → Type 0) → ((History Op → X → A) → History Op → X → A) → Type 0
  LooksAtPasts Belongs step =
      (f g : History Op → X → A) (H : History Op) (x : X) → Belongs H x
      → ((i k : ℕ) (r : Record Op) → HasRecord H i k r → (y : X) → Belongs (cut H r.past) y → f (cut H r.past) y ≡ g (cut H r.past) y)
      → step f H x ≡ step g H x

  module _ (Belongs : History Op → X → Type 0) (otherwise : A) (step : (History Op → X → A) → History Op → X → A) (looks : LooksAtPasts Belongs step) where
    -- any two depths above the size give the same
    enough : (d e : ℕ) (H : History Op) → IsHistory H → size H < d → size H < e → (x : X) → Belongs H x → by_past_within otherwise step d H x ≡ by_past_within otherwise step e H x
    enough zero e H history h h' x belongs = absurd (omega arith)
    enough (suc d) zero H history h h' x belongs = absurd (omega arith)
    enough (suc d) (suc e) H history h h' x belongs =
        looks (by_past_within otherwise step d) (by_past_within otherwise step e) H x belongs (λ i k r has y belongs_there.
        let shorter = past_is_shorter H history i k r has in
        enough d e (cut H r.past) (past_is_history H history i k r has) (below_it (size (cut H r.past)) (size H) d shorter h) (below_it (size (cut H r.past)) (size H) e shorter h') y belongs_there)

    pub by_past_equation : (H : History Op) → IsHistory H → (x : X) → Belongs H x → by_past otherwise step H x ≡ step (by_past otherwise step) H x
    by_past_equation H history x belongs =
        looks (by_past_within otherwise step (size H)) (by_past otherwise step) H x belongs (λ i k r has y belongs_there.
        let shorter = past_is_shorter H history i k r has in
        enough (size H) (suc (size (cut H r.past))) (cut H r.past) (past_is_history H history i k r has) shorter (below_next (size (cut H r.past))) y belongs_there)
