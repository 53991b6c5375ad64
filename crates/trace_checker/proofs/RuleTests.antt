-- The rules' tests over what the checker keeps, and those of the model.
use Rattle.std.proofs.Common.{◌≡◌, ◌≢◌, ◌↔◌, ℕ, ◌+◌, ◌-◌, ◌<◌, ◌≤◌, List, [], length, refl, sym, ap, subst, ◌∙◌, arith, Bool, true, false, Option, None, Some, ◌⊎◌, inl, inr}
use Rattle.std.specs.Prelude.{◌&&◌, ◌||◌, not, ◌==◌, if◌then◌else◌, slice_get, IsTrue}
use Rattle.std.proofs.lemmas.Bool.{cases_lt}
use Rattle.std.proofs.lemmas.Bool.Decides.{nat_tests}
use Rattle.model_history.specs.Table.{identity_limit, identities}
use Rattle.model_history.specs.Vector.{VersionVector, Covers, none_counted}
use Rattle.model_history.specs.Cuts.{past_of, record_at}
use Rattle.model_history.specs.Log.{IsTakenFrom}
use Rattle.model_history.specs.History.{Action, Record as Meant, History, at, versions, cut, with_record, HasRecord, IsHistory, is_pruned, IsExactlyPruned}
use Rattle.model_history.specs.History.Action.{Prune}
use Rattle.model_history.proofs.HistoryLaws.{with_at_same, with_at_other, has_with_record}
use Rattle.model_history.proofs.PartLaws.{in_whole, part_with_record}
use Rattle.model_history.proofs.PruneLaws.{IsIn, in_range, at_identities, pruned_has, has_pruned}
use Rattle.model_history.proofs.Bridge.{versions-with_record, record_at_is, has_record_at}
use Rattle.model_meanings.specs.Growing.{has_operation}
use Rattle.model_meanings.proofs.Operations.{same_bits}
use Rattle.model_kinds.specs.SixKinds.{six_kinds, is_delete, values}
use Rattle.model_kinds.specs.ShownText.{shown_text}
use Rattle.model_kinds.specs.declared.kind.Kind.{Kind}
use Rattle.model_kinds.specs.declared.operation.Op.{Op}
use Rattle.model_kinds.specs.declared.shown.Shown.TheVariants.{Deleted}
use Rattle.model_members.specs.DataType.{meaning, IsDeleted, Shows}
use Rattle.base_vectors.specs.Vectors.{Numbers, number_at}
use Rattle.data_meaning.specs.declared.record.Record.{Record}
use Rattle.model_traces.specs.Traces.{recorded, covers, is_closed, is_exactly_pruned, meaning_text, may_hold}
use Rattle.model_traces.specs.Traces.Act.{Holds}
use Rattle.model_traces.specs.Meaning.{IsWithin, last_past}
use Rattle.model_traces.proofs.Consistency.{within_part}
use Rattle.model_traces.proofs.Tests.{all_pass, each_passes, covers_holds, covers_tells, exactly_pruned_holds, exactly_pruned_tells}
use Rattle.theorem_latest.specs.Risen.{covers_risen_pasts}
use Rattle.theorem_latest.proofs.Rising.{risen_pasts_are_enough}
use Rattle.trace_checker.specs.Holds.{HoldsLast}
use Rattle.trace_values.specs.Rows.{row_of, AreRows}
use Rattle.trace_values.proofs.RowLaws.{row_length, row_has, has_row, IsAt}

-- RULE 3 AFTER A RECORD

module _ (H : History Op) (within : IsWithin H) (exact : IsExactlyPruned H) (i : ℕ) (small : i < identity_limit) (action : Action Op)
    (other : (q : ℕ) → action ≡ Prune q → (q ≢ i) × (is_pruned H q ≡ false)) where
  abbrev r : Meant Op
  r = record { action = action; past = versions H }

  abbrev J : History Op
  J = with_record H i r

  J_within : IsWithin J
  J_within j far = with_at_other H i _ j (λ e. absurd (omega (arith, small, far, e))) ∙ within j far

  at_own : at J i ≡ at H i + 1
  at_own = ap (λ (v : VersionVector). v i) (versions-with_record H i r) ∙ with_at_same (versions H) i (at H i + 1)

  at_others : (j : ℕ) → j ≢ i → at J j ≡ at H j
  at_others j isnt = ap length (with_at_other H i _ j isnt)

  both_ways : (b : Bool) → b ≡ true → b ≡ false → ⊥
  both_ways b e f = let clash : true ≡ false = sym e ∙ f in cc clash

  identity_of : (j k : ℕ) (x : Meant Op) → HasRecord H j k x → j < identity_limit
  identity_of j k x has = elim (cases_lt j identity_limit) [
    | inl near ↦ near
    | inr far ↦ absurd (let e : slice_get {X = Meant Op} [] k ≡ Some x = sym (ap (λ (xs : List (Meant Op)). slice_get xs k) (within j far)) ∙ has in cc e)
  ]

  prunes_there : (q j k : ℕ) (x : Meant Op) → HasRecord H j k x → x.action ≡ Prune q → is_pruned H q ≡ true
  prunes_there q j k x has is = has_pruned H q j k x (at_identities j (identity_of j k x has)) has is

  -- a member that is pruned records no more
  not_pruned : IsExactlyPruned J → is_pruned H i ≡ false
  not_pruned then_exact = go (is_pruned H i) refl
    where
      go : (b : Bool) → is_pruned H i ≡ b → b ≡ false
      go false e = refl
      go true e = absurd (
          let p = pruned_has H i e in
          let before = exact.nothing_more p.0 p.1 p.2 i p.4 p.5 in
          let after = then_exact.nothing_more p.0 p.1 p.2 i (in_whole H J (part_with_record H i r) p.0 p.1 p.2 p.4) p.5 in
          let more = at_own in
          omega (arith, before, after, more))

  still_exact : is_pruned H i ≡ false → IsExactlyPruned J
  still_exact free =
      record {
        once = λ j k l m x y q hx hy ex ey. elim (has_with_record H i r j k x hx) [
          | inl old ↦ elim (has_with_record H i r l m y hy) [
            | inl also ↦ exact.once j k l m x y q old also ex ey
            | inr new ↦ absurd (let act : action ≡ Prune q = ap (λ (z : Meant Op). z.action) new.2 ∙ ey in both_ways (is_pruned H q) (prunes_there q j k x old ex) (other q act).1)
          ]
          | inr new ↦ elim (has_with_record H i r l m y hy) [
            | inl also ↦ absurd (let act : action ≡ Prune q = ap (λ (z : Meant Op). z.action) new.2 ∙ ex in both_ways (is_pruned H q) (prunes_there q l m y also ey) (other q act).1)
            | inr again ↦ (new.0 ∙ sym again.0, new.1 ∙ sym again.1)
          ]
        ];
        nothing_more = λ j k x q hx ex. elim (has_with_record H i r j k x hx) [
          | inl old ↦ at_others q (λ same. both_ways (is_pruned H i) (ap (is_pruned H) (sym same) ∙ prunes_there q j k x old ex) free) ∙ exact.nothing_more j k x q old ex
          | inr new ↦ at_others q (other q (ap (λ (z : Meant Op). z.action) new.2 ∙ ex)).0 ∙ ap (λ (z : Meant Op). z.past q) new.2
        ];
      }

  pub after_record : is_exactly_pruned (recorded H i H action) ≡ not (is_pruned H i)
  after_record = go (is_pruned H i) refl
    where
      go : (b : Bool) → is_pruned H i ≡ b → is_exactly_pruned J ≡ not b
      go false e = exactly_pruned_holds J (still_exact e)
      go true e = never (is_exactly_pruned J) refl
        where
          never : (c : Bool) → is_exactly_pruned J ≡ c → c ≡ false
          never false f = refl
          never true f = absurd (both_ways (is_pruned H i) e (not_pruned (exactly_pruned_tells J J_within f)))

-- RULE 2

-- numbers alone: what a vector counts is in no reach of these
last_below : (made mine known : ℕ) → known ≤ made → mine < known → known - 1 < made
last_below made mine known few more = omega (arith, few, more)

unequal : (m k : ℕ) → m < k → (k == m) ≡ false
unequal m k more = grind (arith, nat_tests)

rises : (m k : ℕ) → m ≤ k → (k == m) ≡ false → m < k
rises m k low other = grind (arith, nat_tests)

positive : (k : ℕ) → 0 < k → (k == 0) ≡ false
positive k some = grind (arith, nat_tests)

some_of : (m k : ℕ) → m < k → 0 < k
some_of m k more = omega (arith, more)

up_to : (k m n : ℕ) → n ≡ m → k ≤ m → k ≤ n
up_to k m n e h = omega (arith, e, h)

down_to : (k m n : ℕ) → n ≡ m → k ≤ n → k ≤ m
down_to k m n e h = omega (arith, e, h)

none_below : (k m : ℕ) → k ≡ 0 → k ≤ m
none_below k m e = omega (arith, e)

none_covered : (k m n : ℕ) → k ≤ m → m ≡ 0 → k ≤ n
none_covered k m n h e = omega (arith, h, e)

must : (p q : Bool) → p ≡ false → (p || q) ≡ true → q ≡ true
must false q e f = f
must true q e f = absurd (cc e)

small_of : (j : ℕ) → IsIn identities j → j < identity_limit
small_of j m = let r = in_range 0 identity_limit j m in omega (arith, r.1)

-- the last record that is counted of an identity, as it was looked up
pub told_last : (rows : List (List Record)) (known : Numbers) (id count : ℕ) (row : List Record) (o : Option Record) → row ≡ row_of rows id → count ≡ number_at known id → o ≡ slice_get row (count - 1) → slice_get (row_of rows id) (number_at known id - 1) ≡ o
told_last rows known id count row o row_is count_is is = sym (is ∙ ap (λ xs. slice_get xs (count - 1)) row_is ∙ ap (λ n. slice_get (row_of rows id) (n - 1)) count_is)

-- there is one
pub is_last : (rows : List (List Record)) (known : Numbers) (id : ℕ) (r : Record) → slice_get (row_of rows id) (number_at known id - 1) ≡ Some r → HoldsLast rows known id → Covers (number_at known) (number_at r.past)
is_last rows known id r there holds =
    let same : holds.0 ≡ r = (let e : Some holds.0 ≡ Some r = sym holds.1 ∙ there in cc e) in
    subst (λ (x : Record). Covers (number_at known) (number_at x.past)) same holds.2

-- or none
pub no_last : (rows : List (List Record)) (known : Numbers) (id : ℕ) → slice_get (row_of rows id) (number_at known id - 1) ≡ None → HoldsLast rows known id → ⊥
no_last rows known id there holds = let e : None ≡ Some holds.0 = sym there ∙ holds.1 in cc e

module _ (rows : List (List Record)) (made : History Op) (are : AreRows rows made) (history : IsHistory made) (H : History Op) (taken : IsTakenFrom made H) (known mine : Numbers) (mine_is : number_at mine ≡ versions H)
    (beyond : (j : ℕ) → identity_limit ≤ j → number_at known j ≡ 0) (a b c : Bool)
    (first : IsTrue a ↔ Covers (number_at known) (number_at mine))
    (second : IsTrue b ↔ ((j : ℕ) → j < identity_limit → number_at known j ≤ length (row_of rows j)))
    (third : IsTrue c ↔ ((j : ℕ) → j < identity_limit → number_at mine j < number_at known j → HoldsLast rows known j)) where
  abbrev K : VersionVector
  K = number_at known

  empty_beyond : (G : History Op) → IsWithin G → (j : ℕ) → identity_limit ≤ j → at G j ≡ 0
  empty_beyond G inside j far = ap length (inside j far)

  covers_mine : covers K (versions H) ≡ a
  covers_mine = same_bits (covers K (versions H)) a
      (λ e. first.1 (λ j. subst (λ (v : VersionVector). v j ≤ K j) (sym mine_is) (each j (cases_lt j identity_limit) e)))
      (λ e. covers_holds K (versions H) (λ j near. subst (λ (v : VersionVector). v j ≤ K j) mine_is (first.0 e j)))
    where
      each : (j : ℕ) → (j < identity_limit) ⊎ (identity_limit ≤ j) → covers K (versions H) ≡ true → at H j ≤ K j
      each j (inl near) e = covers_tells K (versions H) e j near
      each j (inr far) e = none_below (at H j) (K j) (empty_beyond H (within_part made H history taken.part) j far)

  covers_made : covers (versions made) K ≡ b
  covers_made = same_bits (covers (versions made) K) b
      (λ e. second.1 (λ j near. up_to (K j) (at made j) (length (row_of rows j)) (row_length rows made are j) (covers_tells (versions made) K e j near)))
      (λ e. covers_holds (versions made) K (λ j near. down_to (K j) (at made j) (length (row_of rows j)) (row_length rows made are j) (second.0 e j near)))

  few : b ≡ true → Covers (versions made) K
  few e j = elim (cases_lt j identity_limit) [
    | inl near ↦ down_to (K j) (at made j) (length (row_of rows j)) (row_length rows made are j) (second.0 e j near)
    | inr far ↦ none_below (K j) (at made j) (beyond j far)
  ]

  -- the last records, where both tests before it hold
  last_is : b ≡ true → (j : ℕ) → j < identity_limit → at H j < K j → (r : Record) → slice_get (row_of rows j) (K j - 1) ≡ Some r → last_past made K j ≡ number_at r.past
  last_is e j near risen r here =
      let x = row_has rows made are j (K j - 1) r here in
      let some : (K j == 0) ≡ false = positive (K j) (some_of (at H j) (K j) risen) in
      ap (λ (t : Bool). if t then none_counted else past_of made j (K j - 1)) some
      ∙ ap (λ (z : Meant Op). z.past) (record_at_is made j (K j - 1) x.0 x.1.has) ∙ sym x.1.past

  has_at_place : (j : ℕ) → K j - 1 < at made j → HasRecord made j (K j - 1) (record_at made j (K j - 1))
  has_at_place j last = has_record_at made j (K j - 1) last

  more_of : (j : ℕ) → number_at mine j < number_at known j → at H j < K j
  more_of j risen = subst (λ (v : VersionVector). v j < K j) mine_is risen

  -- beyond the identities a past has nothing
  past_beyond : (j k : ℕ) (x : Meant Op) → HasRecord made j k x → (l : ℕ) → identity_limit ≤ l → x.past l ≤ K l
  past_beyond j k x has l far = none_covered (x.past l) (at made l) (K l) (history.closed j k x has l) (empty_beyond made history.within l far)

  -- the last record is there, and its past is counted
  past_held : b ≡ true → (j : ℕ) → j < identity_limit → at H j < K j → covers K (last_past made K j) ≡ true → HoldsLast rows known j
  past_held f j near more covered = (
    found_last.0,
    found_last.1,
    λ l. elim (cases_lt l identity_limit) [
      | inl small ↦ subst (λ (v : VersionVector). v l ≤ K l) told (covers_tells K (last_past made K j) covered l small)
      | inr far ↦ subst (λ (v : VersionVector). v l ≤ K l) (sym found_last.2.past) (past_beyond j (K j - 1) (record_at made j (K j - 1)) found_last.2.has l far)
    ],
  )
    where
      found_last : (r : Record) × (slice_get (row_of rows j) (K j - 1) ≡ Some r) × IsAt rows made are j (K j - 1) r (record_at made j (K j - 1))
      found_last = has_row rows made are j (K j - 1) (record_at made j (K j - 1)) (has_at_place j (last_below (at made j) (at H j) (K j) (few f j) more))

      told : last_past made K j ≡ number_at found_last.0.past
      told = last_is f j near more found_last.0 found_last.1

  -- where no identity's number rose less, the past of its last record is counted
  past_covered : a ≡ true → b ≡ true → c ≡ true → (j : ℕ) → j < identity_limit → (t : Bool) → (K j == at H j) ≡ t → (t || covers K (last_past made K j)) ≡ true
  past_covered e f g j near true same = refl
  past_covered e f g j near false other =
      let more = rises (at H j) (K j) (subst (λ (v : VersionVector). v j ≤ K j) mine_is (first.0 e j)) other in
      let r = third.0 g j near (subst (λ (v : VersionVector). v j < K j) (sym mine_is) more) in
      covers_holds K (last_past made K j) (λ l s. subst (λ (v : VersionVector). v l ≤ K l) (sym (last_is f j near more r.0 r.1)) (r.2 l))

  pasts_covered : a ≡ true → b ≡ true → covers_risen_pasts made (versions H) K ≡ c
  pasts_covered e f = same_bits (covers_risen_pasts made (versions H) K) c
      (λ g. third.1 (λ j near risen. past_held f j near (more_of j risen)
      (must (K j == at H j) (covers K (last_past made K j)) (unequal (at H j) (K j) (more_of j risen)) (each_passes (λ i. (K i == at H i) || covers K (last_past made K i)) identities g j (at_identities j near)))))
      (λ g. all_pass (λ i. (K i == at H i) || covers K (last_past made K i)) identities (λ j m. past_covered e f g j (small_of j m) (K j == at H j) refl))

  -- the three tests are those of the rule
  pub hold_test : (a && b && c) ≡ may_hold six_kinds shown_text made H (Holds K)
  hold_test = sym (ap (λ p. p && is_closed (cut made K)) (ap (λ p. p && covers (versions made) K) covers_mine ∙ ap (λ p. a && p) covers_made) ∙ go a b refl refl)
    where
      go : (p q : Bool) → a ≡ p → b ≡ q → (a && b && is_closed (cut made K)) ≡ (a && b && c)
      go true true e f =
          ap (λ t. a && b && t)
          (sym (risen_pasts_are_enough made H K history (few f) taken (λ j. subst (λ (v : VersionVector). v j ≤ K j) mine_is (first.0 e j))) ∙ pasts_covered e f)
      go false q e f = ap (λ t. t && b && is_closed (cut made K)) e ∙ sym (ap (λ t. t && b && c) e)
      go true false e f = ap (λ t. t && is_closed (cut made K)) none ∙ sym (ap (λ t. t && c) none)
        where
          none : (a && b) ≡ false
          none = ap (λ t. a && t) f ∙ ap (λ t. t && false) e

-- RULE 4

-- what is shown of a deleted key is the word that its meaning is told by
pub shown_meant : (kind : Kind) (H : History Op) → meaning_text shown_text (meaning six_kinds kind H) ≡ shown_text (six_kinds.shown kind H)
shown_meant kind H = go (has_operation is_delete H)
  where
    go : (b : Bool) → meaning_text shown_text (if b then IsDeleted else Shows (if b then Deleted else values.shown kind H)) ≡ shown_text (if b then Deleted else values.shown kind H)
    go true = refl
    go false = refl
