-- Which records touch an element is settled when they are made; the last of them that a vector counts say whether it is shown.
use Rattle.std.proofs.Common.{◌≡◌, ℕ, zero, suc, ◌-◌, ◌<◌, ◌≤◌, List, [], ◌∷◌, ◌++◌, length, refl, sym, ap, ap₂, subst, ◌∙◌, arith, Bool, true, false, Option, Some, None, inl, inr}
use Rattle.std.specs.Prelude.{◌&&◌, not, ◌==◌, nat_le, if◌then◌else◌, slice_get}
use Rattle.std.specs.List.{list_any}
use Rattle.std.proofs.lemmas.Bool.{cases_lt, le-leb}
use Rattle.std.proofs.lemmas.Bool.Decides.{eqb_tells, nat_tests}
use Rattle.std.proofs.lemmas.List.Sums.{fold_push}
use Rattle.model_history.specs.Table.{identity_limit, identities}
use Rattle.model_history.specs.Texts.{Text}
use Rattle.model_history.specs.Vector.{VersionVector}
use Rattle.model_history.specs.Cuts.{record_at}
use Rattle.model_history.specs.Log.{IsTakenFrom}
use Rattle.model_history.specs.History.{Action, Record as Meant, Stamped, History, at, versions, with_record, all_records, IsHistory}
use Rattle.model_history.specs.History.Action.{Operation, Prune}
use Rattle.model_history.proofs.Bridge.{record_at_is, has_record_at, record_at_part, taken_is_history}
use Rattle.model_history.proofs.HistoryLaws.{with_at_same, with_at_other}
use Rattle.model_history.proofs.PartLaws.{part-le, in_whole}
use Rattle.model_history.proofs.PruneLaws.{IsIn, in_range}
use Rattle.model_meanings.specs.Growing.{is_operation}
use Rattle.model_meanings.specs.ObservedRemove.{is_adding_by, is_live_by, touches_by, touches}
use Rattle.model_meanings.proofs.EquationsOfMeanings.{touches_equation, list_any-same}
use Rattle.model_traces.proofs.Tests.{stamped}
use Rattle.model_kinds.specs.SixKinds.{set_operations, adds}
use Rattle.model_kinds.specs.declared.operation.Op.{Op}
use Rattle.theorem_latest.specs.Latest as latest
use Rattle.theorem_latest.specs.Latest.{stamped_at, touches_at, last_touch, last_of}
use Rattle.theorem_latest.proofs.Staying.{touches_stay}
use Rattle.theorem_latest.proofs.Touching.{last_touches_of_identities}
use Rattle.base_vectors.specs.Vectors.{number_at}
use Rattle.data_meaning.specs.declared.record.Record.{Record}
use Rattle.data_meaning.specs.Records.{action_of}
use Rattle.trace_values.specs.Rows.{row_of, AreRows}
use Rattle.trace_values.specs.Elements.{adds_at as add_at, AreAdds}
use Rattle.trace_values.specs.Touches.{AreRising, IsPushedIf, passing, last_counted, last_at, past_at, sees, is_seen, is_adding, adds_at, is_last_live, is_live as code_live, AreTouches}
use Rattle.trace_values.proofs.Firsts.{positive}
use Rattle.trace_values.proofs.RisingLaws.{passing_rises}
use Rattle.trace_values.proofs.RowLaws.{has_row, IsAt}
use Rattle.trace_values.proofs.WriteLaws.{then_history, made_taken, next_at, in_all, past_is}

-- THE LAST THAT PASSES A TEST

abbrev pub last_passing : (ℕ → Bool) → ℕ → ℕ
last_passing test zero = 0
last_passing test (suc k) = if test k then suc k else last_passing test k

greater_isnt : (k n : ℕ) → n < k → nat_le k n ≡ false
greater_isnt k n h = grind (arith, nat_tests)

-- all are counted
counted_all : (test : ℕ → Bool) (m n : ℕ) → m ≤ n → last_counted (passing test m) n ≡ last_passing test m
counted_all test zero n h = refl
counted_all test (suc m) n h = go (test m) (counted_all test m n (omega (arith, h)))
  where
    go : (b : Bool) → last_counted (passing test m) n ≡ last_passing test m → last_counted (if b then passing test m ++ suc m ∷ [] else passing test m) n ≡ (if b then suc m else last_passing test m)
    go true later = fold_push (λ last k. if nat_le k n then k else last) 0 (passing test m) (suc m) ∙ ap (λ b. if b then suc m else last_counted (passing test m) n) (le-leb (suc m) n h)
    go false later = later

pub counted_last : (test : ℕ → Bool) (m n : ℕ) → n ≤ m → last_counted (passing test m) n ≡ last_passing test n
counted_last test zero n h = let none : n ≡ 0 = omega (arith, h) in ap (last_passing test) (sym none)
counted_last test (suc m) n h = elim (cases_lt m n) [
  | inl whole ↦ let all : n ≡ suc m = omega (arith, whole, h) in counted_all test (suc m) n (omega (arith, all)) ∙ ap (last_passing test) (sym all)
  | inr before ↦ go (test m) before (counted_last test m n)
]
  where
    go : (b : Bool) → n ≤ m → (n ≤ m → last_counted (passing test m) n ≡ last_passing test n) → last_counted (if b then passing test m ++ suc m ∷ [] else passing test m) n ≡ last_passing test n
    go true few later =
        fold_push (λ last k. if nat_le k n then k else last) 0 (passing test m) (suc m) ∙ ap (λ b. if b then suc m else last_counted (passing test m) n) (greater_isnt (suc m) n (omega (arith, few)))
        ∙ later few
    go false few later = later few

passing_same : (p q : ℕ → Bool) (m : ℕ) → ((k : ℕ) → k < m → p k ≡ q k) → passing p m ≡ passing q m
passing_same p q zero same = refl
passing_same p q (suc m) same =
    ap₂ (λ (b : Bool) (ns : List ℕ). if b then ns ++ suc m ∷ [] else ns) (same m (omega arith)) (passing_same p q m (λ k h. same k (omega (arith, h))))

-- WHAT TOUCHES IS SETTLED

module _ (e : Text) (J H : History Op) (history : IsHistory J) (taken : IsTakenFrom J H) where
  abbrev T : History Op → ℕ → ℕ → Bool
  T K i k = touches_at set_operations e K i k

  abbrev L : ℕ → ℕ
  L i = last_of set_operations e H i

  stamp_same : (i k : ℕ) → k < at H i → stamped_at set_operations e H i k ≡ stamped_at set_operations e J i k
  stamp_same i k h = ap (λ (r : Meant Op). record { origin = i; number = suc k; action = r.action; past = r.past }) (record_at_is H i k (record_at J i k) (record_at_part J H taken.part i k h))

  pub touch_same : (i k : ℕ) → i < identity_limit → k < at H i → T H i k ≡ T J i k
  touch_same i k small h =
      touches_stay J H history taken (stamped_at set_operations e H i k) (stamped H i k (record_at H i k) small (has_record_at H i k h)) set_operations e ∙ ap (touches set_operations e J) (stamp_same i k h)

  last_same : (i n : ℕ) → i < identity_limit → n ≤ at H i → last_touch set_operations e H i n ≡ last_passing (T J i) n
  last_same i zero small few = refl
  last_same i (suc n) small few = ap₂ (λ (b : Bool) (m : ℕ). if b then suc n else m) (touch_same i n small (omega (arith, few))) (last_same i n small (omega (arith, few)))

  last_within : (i n : ℕ) → last_touch set_operations e H i n ≤ n
  last_within i zero = omega arith
  last_within i (suc n) = go (T H i n) (last_within i n)
    where
      go : (b : Bool) → last_touch set_operations e H i n ≤ n → (if b then suc n else last_touch set_operations e H i n) ≤ suc n
      go true h = omega arith
      go false h = omega (arith, h)

  last_touches : (i n : ℕ) → 0 < last_touch set_operations e H i n → T H i (last_touch set_operations e H i n - 1) ≡ true
  last_touches i zero h = absurd (omega (arith, h))
  last_touches i (suc n) h = go (T H i n) refl h (last_touches i n)
    where
      go : (b : Bool) → T H i n ≡ b → 0 < (if b then suc n else last_touch set_operations e H i n) → (0 < last_touch set_operations e H i n → T H i (last_touch set_operations e H i n - 1) ≡ true)
          → T H i ((if b then suc n else last_touch set_operations e H i n) - 1) ≡ true
      go true is h later = let same : suc n - 1 ≡ n = omega arith in ap (T H i) same ∙ is
      go false is h later = later h

  -- WHAT IS SHOWN

  module _ (rows : List (List Record)) (rows_are : AreRows rows J) (touching : List (List ℕ)) (touch_are : AreTouches e touching J) (known : VersionVector) (known_is : known ≡ versions H) where
    last_is : (i : ℕ) → i < identity_limit → last_at touching known i ≡ L i
    last_is i small =
        ap (λ (v : VersionVector). last_counted (row_of touching i) (v i)) known_is ∙ ap (λ ns. last_counted ns (at H i)) (touch_are i)
        ∙ counted_last (T J i) (at J i) (at H i) (part-le H J taken.part i) ∙ sym (last_same i (at H i) small (omega arith))

    place : (i : ℕ) → 0 < L i → L i - 1 < at H i
    place i some = let bound = last_within i (at H i) in omega (arith, some, bound)

    there : (i : ℕ) → 0 < L i → (r : Record) × (slice_get (row_of rows i) (L i - 1) ≡ Some r) × IsAt rows J rows_are i (L i - 1) r (record_at J i (L i - 1))
    there i some = has_row rows J rows_are i (L i - 1) (record_at J i (L i - 1)) (in_whole H J taken.part i _ _ (record_at_part J H taken.part i _ (place i some)))

    sees_is : (i j : ℕ) → j < identity_limit → sees rows touching known i (L i) j ≡ latest.sees set_operations e H j i
    sees_is i j small = ap (λ m. not (m == 0) && nat_le (L i) (past_at rows j m i)) (last_is j small) ∙ go (L j == 0) refl
      where
        go : (b : Bool) → (L j == 0) ≡ b → (not b && nat_le (L i) (past_at rows j (L j) i)) ≡ (not b && nat_le (L i) ((stamped_at set_operations e H j (L j - 1)).past i))
        go true f = refl
        go false f =
            let some = positive (L j) f in
            let r = there j some in
            ap (nat_le (L i)) (ap (λ (o : Option Record). elim o [ None ↦ 0 | Some r ↦ number_at r.past i ]) r.1 ∙ ap (λ (v : VersionVector). v i) r.2.past
            ∙ sym (ap (λ (x : Stamped Op). x.past i) (stamp_same j (L j - 1) (place j some))))

    adds_is : (i : ℕ) → 0 < L i → adds_at rows i (L i) e ≡ is_adding_by set_operations (touches set_operations e) e H (stamped_at set_operations e H i (L i - 1)) (stamped_at set_operations e H i (L i - 1)).action
    adds_is i some =
        let r = there i some in
        ap (λ (o : Option Record). elim o [ None ↦ false | Some r ↦ is_adding e (action_of r.action) ]) r.1
        ∙ ap (is_adding e) (r.2.action ∙ sym (ap (λ (x : Stamped Op). x.action) (stamp_same i (L i - 1) (place i some)))) ∙ by_action (stamped_at set_operations e H i (L i - 1)).action
      where
        by_action : (action : Action Op) → is_adding e action ≡ is_adding_by set_operations (touches set_operations e) e H (stamped_at set_operations e H i (L i - 1)) action
        by_action (Operation op) = refl
        by_action (Prune r) = sym (last_touches i (at H i) some)

    small_of : (i : ℕ) → IsIn identities i → i < identity_limit
    small_of i h = let r = in_range 0 identity_limit i h in omega (arith, r.1)

    pub live_is : (i : ℕ) → i < identity_limit → is_last_live rows touching e known i ≡ latest.is_last_live set_operations e H i
    unfolding is_seen
    live_is i small = ap (λ m. (not (m == 0) && adds_at rows i m e) && not (is_seen rows touching known i m)) (last_is i small) ∙ go (L i == 0) refl
      where
        go : (b : Bool) → (L i == 0) ≡ b → ((not b && adds_at rows i (L i) e) && not (list_any (sees rows touching known i (L i)) identities))
            ≡ ((not b && is_adding_by set_operations (touches set_operations e) e H (stamped_at set_operations e H i (L i - 1)) (stamped_at set_operations e H i (L i - 1)).action) && not (list_any (λ j. latest.sees set_operations e H j i) identities))
        go true f = refl
        go false f =
            ap₂ (λ a s. a && not s) (adds_is i (positive (L i) f))
            (list_any-same (sees rows touching known i (L i)) (λ j. latest.sees set_operations e H j i) identities (λ k j m. sees_is i j (small_of j (k, m))))

    pub live_any : code_live rows touching e known ≡ latest.has_last_live set_operations e H
    unfolding code_live
    live_any = list_any-same (is_last_live rows touching e known) (latest.is_last_live set_operations e H) identities (λ k i m. live_is i (small_of i (k, m)))

-- ONE RECORD MORE

module _ (e : Text) (made H : History Op) (history : IsHistory made) (taken : IsTakenFrom made H) (i : ℕ) (small : i < identity_limit) (own : H i ≡ made i) (action : Action Op) where
  abbrev next : Meant Op
  next = record { action = action; past = versions H }

  abbrev J : History Op
  J = with_record made i next

  abbrev x : Stamped Op
  x = record { origin = i; number = suc (at made i); action = action; past = versions H }

  -- what the record touches
  pub touch_next : touches_at set_operations e J i (at made i) ≡ touches_by set_operations (touches set_operations e) e J (versions H) action
  touch_next =
      ap (λ (r : Meant Op). touches set_operations e J (record { origin = i; number = suc (at made i); action = r.action; past = r.past })) (next_at made H history taken i small own action)
      ∙ touches_equation set_operations e J (then_history made H history taken i small own action) x (in_all made H history taken i small own action)

  -- a prune touches the element where the pruned identity's last record that touches it is live
  pub prune_next : (r : ℕ) → r < identity_limit → action ≡ Prune r → touches_at set_operations e J i (at made i) ≡ latest.is_last_live set_operations e H r
  prune_next r near is =
      touch_next ∙ ap (touches_by set_operations (touches set_operations e) e J (versions H)) is
      ∙ ap (λ (K : History Op). list_any (λ (y : Stamped Op). (y.origin == r) && is_live_by set_operations (touches set_operations e) e K y) (all_records K)) (past_is made H history taken i small own action)
      ∙ last_touches_of_identities set_operations e H (taken_is_history made H history taken) r near

  length_push : (xs : List (Meant Op)) → length (xs ++ next ∷ []) ≡ suc (length xs)
  length_push [] = refl
  length_push (y ∷ xs) = ap suc (length_push xs)

  -- the numbers of those that pass a test, where it says the same of the records before
  passing_then : (p q : ℕ → ℕ → Bool) (old new : List (List ℕ)) (b : Bool) → ((j k : ℕ) → j < identity_limit → k < at made j → p j k ≡ q j k) → q i (at made i) ≡ b
      → ((j : ℕ) → row_of old j ≡ passing (p j) (at made j)) → IsPushedIf b old new i (suc (at made i)) → (j : ℕ) → row_of new j ≡ passing (q j) (at J j)
  passing_then p q old new b same is are push j = elim (eqb_tells j i) [
    | inl here ↦
        (let at_j : at J j ≡ suc (at made j) = ap (at J) here.1 ∙ ap length (with_at_same made i (made i ++ next ∷ [])) ∙ length_push (made i) ∙ ap (λ k. suc (at made k)) (sym here.1) in
        rows j ∙ ap (λ c. if b then (if c then row_of old j ++ suc (at made i) ∷ [] else row_of old j) else row_of old j) here.0
        ∙ ap₂ (λ (ns : List ℕ) (n : ℕ). if b then ns ++ suc n ∷ [] else ns) (before j) (ap (at made) (sym here.1))
        ∙ ap (λ c. if c then passing (q j) (at made j) ++ suc (at made j) ∷ [] else passing (q j) (at made j)) (sym is ∙ ap (λ k. q k (at made k)) (sym here.1))
        ∙ ap (passing (q j)) (sym at_j))
    | inr other ↦
        rows j ∙ ap (λ c. if b then (if c then row_of old j ++ suc (at made i) ∷ [] else row_of old j) else row_of old j) other.0 ∙ either b (row_of old j) ∙ before j
        ∙ ap (passing (q j)) (sym (ap length (with_at_other made i (made i ++ next ∷ []) j other.1)))
  ]
    where
      rows : (k : ℕ) → row_of new k ≡ (if b then (if k == i then row_of old k ++ suc (at made i) ∷ [] else row_of old k) else row_of old k)
      rows = push (subst (λ (ns : List ℕ). AreRising (ns ++ suc (at made i) ∷ [])) (sym (are i)) (passing_rises (p i) (at made i)))

      either : (c : Bool) (ns : List ℕ) → (if c then ns else ns) ≡ ns
      either true ns = refl
      either false ns = refl

      before : (j : ℕ) → row_of old j ≡ passing (q j) (at made j)
      before j = are j ∙ passing_same (p j) (q j) (at made j) (λ k h. elim (cases_lt j identity_limit) [
        | inl near ↦ same j k near h
        | inr far ↦ absurd (let none = ap length (history.within j far) in omega (arith, h, none))
      ])

  pub touches_then : (old new : List (List ℕ)) (b : Bool) → AreTouches e old made → touches_at set_operations e J i (at made i) ≡ b → IsPushedIf b old new i (suc (at made i)) → AreTouches e new J
  touches_then old new b are is = passing_then (touches_at set_operations e made) (touches_at set_operations e J) old new b
      (λ j k near h. touch_same e J made (then_history made H history taken i small own action) (made_taken made H history taken i small own action) j k near h) is are

  pub adds_then : (old new : List (List ℕ)) (b : Bool) → AreAdds e old made → is_operation (λ op. adds op e) action ≡ b → IsPushedIf b old new i (suc (at made i)) → AreAdds e new J
  adds_then old new b are is = passing_then (add_at e made) (add_at e J) old new b
      (λ j k near h. ap (λ (r : Meant Op). is_operation (λ op. adds op e) r.action) (record_at_is made j k (record_at J j k) (record_at_part J made (made_taken made H history taken i small own action).part j k h)))
      (ap (λ (r : Meant Op). is_operation (λ op. adds op e) r.action) (next_at made H history taken i small own action) ∙ is) are
