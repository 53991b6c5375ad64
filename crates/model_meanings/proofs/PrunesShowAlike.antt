-- A prune changes nothing that is shown at its moment.
use Rattle.std.proofs.Common.{◌≡◌, ◌≢◌, ℕ, zero, suc, ◌+◌, ◌<◌, ◌≤◌, max, List, [], ◌∷◌, ◌++◌, length, map, take, refl, sym, ap, subst, ◌∙◌, append_assoc, arith, Bool, true, false, not, ◌&&◌, ◌||◌, Option, Some, None, inl, inr}
use Rattle.std.proofs.lemmas.Bool.{cases_eq, and_parts, and_right, or_right, eq-eqb, ne_eqb, lt-leb, le-leb}
use Rattle.std.proofs.lemmas.List.{map-append, take-append-le}
use Rattle.std.proofs.lemmas.List.Elements.{filter_map-append}
use Rattle.std.proofs.lemmas.List.Folds.{list_any-append}
use Rattle.std.proofs.lemmas.List.Sums.{sum_by-append, sum_by-cons}
use Rattle.std.specs.Prelude.{if◌then◌else◌, ◌==◌, sum_by, fold, find, filter, filter_map, flat_map, option_map, unwrap_or}
use Rattle.std.specs.List.{list_any, range_with_len}
use mathlib.Core.Bool.{and-true}
use Rattle.model_history.specs.Table.{identity_limit, identities}
use Rattle.model_history.specs.Texts.{Text, text_set}
use Rattle.model_history.specs.Vector.{VersionVector, Covers}
use Rattle.model_history.specs.History.{Action, Record, History, Stamped, at, versions, cut, stamped_from, all_records, precedes, IsHistory}
use Rattle.model_history.specs.History.Action.{Operation, Prune}
use Rattle.model_history.proofs.HistoryLaws.{with_at_same, with_at_other, cut_versions}
use Rattle.model_history.proofs.PartLaws.{take_whole, history-with_record}
use Rattle.model_history.proofs.PruneLaws.{IsIn, in_append, in_left, in_right, in_flat_map}
use Rattle.model_history.proofs.CutLaws.{with_at_is}
use Rattle.model_meanings.specs.Counter.{amount_of, total}
use Rattle.model_meanings.specs.Growing.{Assignment, greatest, timestamp_after, found, added_elements, timestamp, newest, winner, winning_text}
use Rattle.model_meanings.specs.ObservedRemove.{SetOperations, is_adding_by, is_live_by, touches_by, touches, is_live, live_elements}
use Rattle.model_meanings.specs.Prunes.{after_prune}
use Rattle.model_meanings.proofs.EquationsOfMeanings.{list_any-same, map-same, record_of, timestamp_equation, touches_equation}

-- LISTS WITH ONE ELEMENT MORE

module _ {X : Type 0} where
  -- a row that got one more at its end
  rows_after : (f g : ℕ → List X) (i first n : ℕ) → i < first → ((j : ℕ) → j ≢ i → g j ≡ f j) → flat_map g (range_with_len first n) ≡ flat_map f (range_with_len first n)
  rows_after f g i first zero before others = refl
  rows_after f g i first (suc n) before others =
      ap (λ xs. xs ++ flat_map g (range_with_len (first + 1) n)) (others first (λ e. absurd (omega arith)))
      ∙ ap (λ xs. f first ++ xs) (rows_after f g i (first + 1) n (omega arith) others)

  rows_split : (f g : ℕ → List X) (z : X) (i first n : ℕ) → first ≤ i → i < first + n → g i ≡ f i ++ z ∷ [] → ((j : ℕ) → j ≢ i → g j ≡ f j)
      → (before : List X) × (after : List X) × (flat_map f (range_with_len first n) ≡ before ++ after) × (flat_map g (range_with_len first n) ≡ before ++ z ∷ after)
  rows_split f g z i first zero low high here others = absurd (omega arith)
  rows_split f g z i first (suc n) low high here others = elim (cases_eq first i) [
    | inl same ↦ (
      f first,
      flat_map f (range_with_len (first + 1) n),
      refl,
      ap (λ xs. xs ++ flat_map g (range_with_len (first + 1) n)) (ap g same ∙ here ∙ ap (λ j. f j ++ z ∷ []) (sym same))
          ∙ append_assoc (f first) (z ∷ []) (flat_map g (range_with_len (first + 1) n))
          ∙ ap (λ xs. f first ++ z ∷ xs) (rows_after f g i (first + 1) n (omega arith) others),
    )
    | inr other ↦
        let s = rows_split f g z i (first + 1) n (omega arith) (omega arith) here others in (
          f first ++ s.0,
          s.1,
          ap (λ xs. f first ++ xs) s.2 ∙ sym (append_assoc (f first) s.0 s.1),
          ap (λ xs. xs ++ flat_map g (range_with_len (first + 1) n)) (others first other) ∙ ap (λ xs. f first ++ xs) s.3 ∙ sym (append_assoc (f first) s.0 (z ∷ s.1)),
        )
  ]

  find_past : (p : X → Bool) (xs : List X) (z : X) (ys : List X) → p z ≡ false → find p (xs ++ z ∷ ys) ≡ find p (xs ++ ys)
  find_past p [] z ys never = ap (λ b. if b then Some z else find p ys) never
  find_past p (x ∷ xs) z ys never = ap (λ o. if p x then Some x else o) (find_past p xs z ys never)

  find-same : (p q : X → Bool) (xs : List X) → ((x : X) → IsIn xs x → p x ≡ q x) → find p xs ≡ find q xs
  find-same p q [] same = refl
  find-same p q (x ∷ xs) same = ap (λ b. if b then Some x else find p xs) (same x (0, refl)) ∙ ap (λ o. if q x then Some x else o) (find-same p q xs (λ y h. same y (suc h.0, h.1)))

  any_none : (p : X → Bool) (xs : List X) → ((x : X) → IsIn xs x → p x ≡ false) → list_any p xs ≡ false
  any_none p [] none = refl
  any_none p (x ∷ xs) none = ap (λ b. b || list_any p xs) (none x (0, refl)) ∙ any_none p xs (λ y h. none y (suc h.0, h.1))

  any_weaker : (p q : X → Bool) (xs : List X) → ((x : X) → p x ≡ true → q x ≡ true) → list_any p xs ≡ true → list_any q xs ≡ true
  any_weaker p q [] weaker e = absurd (cc e)
  any_weaker p q (x ∷ xs) weaker e = go (p x) refl (any_weaker p q xs weaker) e
    where
      go : (b : Bool) → p x ≡ b → (list_any p xs ≡ true → list_any q xs ≡ true) → (b || list_any p xs) ≡ true → (q x || list_any q xs) ≡ true
      go true is later e' = ap (λ b. b || list_any q xs) (weaker x is)
      go false is later e' = or_right (q x) (list_any q xs) (later e')

greatest_past : (most : ℕ) (ns ms : List ℕ) → fold max most (ns ++ 0 ∷ ms) ≡ fold max most (ns ++ ms)
greatest_past most [] ms = let same : max most 0 ≡ most = omega arith in ap (λ n. fold max n ms) same
greatest_past most (n ∷ ns) ms = greatest_past (max most n) ns ms

never_newest : (n : ℕ) → (not (n == 0) && (0 == n)) ≡ false
never_newest n = elim (cases_eq n 0) [
  | inl none ↦ ap (λ b. not b && (0 == n)) (eq-eqb n 0 none)
  | inr some ↦ and_right (not (n == 0)) (0 == n) (ne_eqb 0 n (λ e. some (sym e)))
]

-- seen by no record before, and by none after
unseen_since : (adding before later new : Bool) → (adding && not (before || (new || later))) ≡ ((adding && not (before || later)) && not new)
unseen_since false before later new = refl
unseen_since true true later new = refl
unseen_since true false true true = refl
unseen_since true false true false = refl
unseen_since true false false true = refl
unseen_since true false false false = refl

module _ {Op : Type 0} where
  stamped_push : (i n : ℕ) (rs : List (Record Op)) (r : Record Op) → stamped_from i n (rs ++ r ∷ []) ≡ stamped_from i n rs ++ record { origin = i; number = n + length rs; action = r.action; past = r.past } ∷ []
  stamped_push i n [] r = let here : n ≡ n + 0 = omega arith in λ j. record { origin = i; number = here j; action = r.action; past = r.past } ∷ []
  stamped_push i n (s ∷ rs) r =
      let later : suc n + length rs ≡ n + suc (length rs) = omega arith in
      ap (λ xs. record { origin = i; number = n; action = s.action; past = s.past } ∷ xs) (stamped_push i (suc n) rs r)
      ∙ λ j. record { origin = i; number = n; action = s.action; past = s.past } ∷ (stamped_from i (suc n) rs ++ record { origin = i; number = later j; action = r.action; past = r.past } ∷ [])

  -- a record's number is at most how many its origin has
  stamped_number : (i n : ℕ) (rs : List (Record Op)) (x : Stamped Op) → IsIn (stamped_from i n rs) x → (x.origin ≡ i) × (x.number < n + length rs)
  stamped_number i n [] x h = absurd (cc h.1)
  stamped_number i n (r ∷ rs) x (zero, e) =
      let same : record { origin = i; number = n; action = r.action; past = r.past } ≡ x = cc e in
      let number : n ≡ x.number = ap (λ (y : Stamped Op). y.number) same in
      (sym (ap (λ (y : Stamped Op). y.origin) same), omega arith)
  stamped_number i n (r ∷ rs) x (suc k, e) = let h = stamped_number i (suc n) rs x (k, e) in (h.0, omega (arith, h.1))

  number_of_record : (H : History Op) (x : Stamped Op) → IsIn (all_records H) x → x.number ≤ at H x.origin
  number_of_record H x there =
      let row = in_flat_map (λ i. stamped_from i 1 (H i)) identities x there in
      let here = stamped_number row.0 1 (H row.0) x row.2 in
      let same : at H x.origin ≡ at H row.0 = ap (at H) here.0 in
      omega (arith, here.1, same)

-- THE HISTORY WITH A PRUNE

module _ {Op : Type 0} (H : History Op) (owner r : ℕ) (small : owner < identity_limit) where
  abbrev new : Record Op
  new = record { action = Prune r; past = versions H }

  abbrev K : History Op
  K = after_prune H owner r

  -- the prune among all records
  abbrev z : Stamped Op
  z = record { origin = owner; number = 1 + at H owner; action = Prune r; past = versions H }

  split : (before : List (Stamped Op)) × (after : List (Stamped Op)) × (all_records H ≡ before ++ after) × (all_records K ≡ before ++ z ∷ after)
  split =
      rows_split (λ i. stamped_from i 1 (H i)) (λ i. stamped_from i 1 (K i)) z owner 0 identity_limit (omega arith) (omega arith)
      (ap (stamped_from owner 1) (with_at_same H owner (H owner ++ new ∷ [])) ∙ stamped_push owner 1 (H owner) new)
      (λ j other. ap (stamped_from j 1) (with_at_other H owner (H owner ++ new ∷ []) j other))

  abbrev before : List (Stamped Op)
  before = split.0

  abbrev after : List (Stamped Op)
  after = split.1

  in_before : (x : Stamped Op) → IsIn before x → IsIn (all_records H) x
  in_before x h = subst (λ xs. IsIn xs x) (sym split.2) (in_left before after x h)

  in_after : (x : Stamped Op) → IsIn after x → IsIn (all_records H) x
  in_after x h = subst (λ xs. IsIn xs x) (sym split.2) (in_right before after x h)

  -- COUNTERS, SETS THAT GROW, FLAGS

  pub total_alike : (amount : Op → ℕ) → total amount K ≡ total amount H
  total_alike amount =
      let f : Stamped Op → ℕ = λ x. amount_of amount x.action in
      let nothing : 0 + sum_by f after ≡ sum_by f after = omega arith in
      ap (sum_by f) split.3 ∙ sum_by-append f before (z ∷ after) ∙ ap (λ n. sum_by f before + n) (sum_by-cons f z after ∙ nothing) ∙ sym (sum_by-append f before after) ∙ ap (sum_by f) (sym split.2)

  texts_alike : (added : Op → Option Text) → filter_map (λ (x : Stamped Op). found added x.action) (all_records K) ≡ filter_map (λ (x : Stamped Op). found added x.action) (all_records H)
  texts_alike added =
      let f : Stamped Op → Option Text = λ x. found added x.action in
      ap (filter_map f) split.3 ∙ filter_map-append f before (z ∷ after) ∙ sym (filter_map-append f before after) ∙ ap (filter_map f) (sym split.2)

  pub elements_alike : (added : Op → Option Text) → added_elements added K ≡ added_elements added H
  elements_alike added = ap text_set (texts_alike added)

  -- PASTS STAY

  module _ (history : IsHistory H) where
    still_history : IsHistory K
    still_history = history-with_record H H owner (Prune r) history (record { part = λ i. sym (take_whole (H i)); closed = history.closed }) refl small

    in_new : (x : Stamped Op) → IsIn (all_records H) x → IsIn (all_records K) x
    in_new x h = elim (in_append before after x (subst (λ xs. IsIn xs x) split.2 h)) [
      | inl first ↦ subst (λ xs. IsIn xs x) (sym split.3) (in_left before (z ∷ after) x first)
      | inr later ↦ subst (λ xs. IsIn xs x) (sym split.3) (in_right before (z ∷ after) x (suc later.0, later.1))
    ]

    z_in : IsIn (all_records K) z
    z_in = subst (λ xs. IsIn xs z) (sym split.3) (in_right before (z ∷ after) z (0, refl))

    covered : (x : Stamped Op) → IsIn (all_records H) x → Covers (versions H) x.past
    covered x h = let there = record_of H x h in history.closed there.0 there.1 (record { action = x.action; past = x.past }) there.2

    cut_same : (past : VersionVector) → Covers (versions H) past → cut K past ≡ cut H past
    cut_same past covers = λ j i. row i j
      where
        row : (i : ℕ) → take (past i) (K i) ≡ take (past i) (H i)
        row i = elim (cases_eq i owner) [
          | inl is ↦ ap (take (past i)) (with_at_is H owner (H owner ++ new ∷ []) i is ∙ ap (λ j. H j ++ new ∷ []) (sym is)) ∙ take-append-le (past i) (H i) (new ∷ []) (covers i)
          | inr isnt ↦ ap (take (past i)) (with_at_other H owner (H owner ++ new ∷ []) i isnt)
        ]

    -- REGISTERS

    module _ (assigned : Op → Option Assignment) where
      timestamp_alike : (x : Stamped Op) → IsIn (all_records H) x → timestamp assigned K x ≡ timestamp assigned H x
      timestamp_alike x h =
          timestamp_equation assigned K still_history x (in_new x h)
          ∙ ap (λ J. timestamp_after (greatest (map (timestamp assigned J) (all_records J))) (found assigned x.action)) (cut_same x.past (covered x h))
          ∙ sym (timestamp_equation assigned H history x h)

      abbrev t : Stamped Op → ℕ
      t = timestamp assigned H

      abbrev u : Stamped Op → ℕ
      u = timestamp assigned K

      newest_alike : newest assigned K ≡ newest assigned H
      newest_alike =
          ap (λ xs. greatest (map u xs)) split.3 ∙ ap greatest (map-append u before (z ∷ after))
          ∙ greatest_past 0 (map u before) (map u after)
          ∙ ap (λ ns. greatest (ns ++ map u after)) (map-same u t before (λ k x e. timestamp_alike x (in_before x (k, e))))
          ∙ ap (λ ns. greatest (map t before ++ ns)) (map-same u t after (λ k x e. timestamp_alike x (in_after x (k, e))))
          ∙ ap greatest (sym (map-append t before after)) ∙ ap (λ xs. greatest (map t xs)) (sym split.2)

      abbrev wins : Stamped Op → Bool
      wins x = not (newest assigned H == 0) && (timestamp assigned H x == newest assigned H)

      abbrev wins_after : Stamped Op → Bool
      wins_after x = not (newest assigned K == 0) && (timestamp assigned K x == newest assigned K)

      wins_alike : (x : Stamped Op) → IsIn (all_records H) x → wins_after x ≡ wins x
      wins_alike x h = ap (λ n. not (n == 0) && (timestamp assigned K x == n)) newest_alike ∙ ap (λ n. not (newest assigned H == 0) && (n == newest assigned H)) (timestamp_alike x h)

      winner_alike : winner assigned K ≡ winner assigned H
      winner_alike =
          ap (find wins_after) split.3 ∙ find_past wins_after before z after (never_newest (newest assigned K)) ∙ ap (find wins_after) (sym split.2)
          ∙ find-same wins_after wins (all_records H) wins_alike

      pub text_alike : winning_text assigned K ≡ winning_text assigned H
      text_alike = ap (λ o. unwrap_or (option_map (λ (assignment : Assignment). assignment.text) (unwrap_or (option_map (λ (x : Stamped Op). found assigned x.action) o) None)) []) winner_alike

    -- SETS WHERE AN ADD WINS

    module _ (ops : SetOperations Op) where
      module _ (e : Text) where
        -- the removed identity has a live adding record
        abbrev has_live : Bool
        has_live = list_any (λ y. (y.origin == r) && is_live ops e H y) (all_records H)

        touches_alike : (x : Stamped Op) → IsIn (all_records H) x → touches ops e K x ≡ touches ops e H x
        touches_alike x h = touches_equation ops e K still_history x (in_new x h) ∙ by_action x.action ∙ sym (touches_equation ops e H history x h)
          where
            by_action : (action : Action Op) → touches_by ops (touches ops e) e K x.past action ≡ touches_by ops (touches ops e) e H x.past action
            by_action (Operation op) = refl
            by_action (Prune q) = ap (λ J. list_any (λ y. (y.origin == q) && is_live_by ops (touches ops e) e J y) (all_records J)) (cut_same x.past (covered x h))

        touches_new : touches ops e K z ≡ has_live
        touches_new =
            touches_equation ops e K still_history z z_in
            ∙ ap (λ J. list_any (λ y. (y.origin == r) && is_live_by ops (touches ops e) e J y) (all_records J)) (cut_same (versions H) (λ i. omega arith) ∙ cut_versions H)

        adding_alike : (x : Stamped Op) → IsIn (all_records H) x → (action : Action Op) → is_adding_by ops (touches ops e) e K x action ≡ is_adding_by ops (touches ops e) e H x action
        adding_alike x h (Operation op) = refl
        adding_alike x h (Prune q) = touches_alike x h

        -- what touches the element after x
        abbrev later_touch : History Op → Stamped Op → Stamped Op → Bool
        later_touch J x y = precedes x y && touches ops e J y

        later_alike : (x y : Stamped Op) → IsIn (all_records H) y → later_touch K x y ≡ later_touch H x y
        later_alike x y h = ap (λ b. precedes x y && b) (touches_alike y h)

        live_before : (x : Stamped Op) → IsIn (all_records H) x → is_live ops e K x ≡ (is_live ops e H x && not has_live)
        live_before x h =
            let seen : precedes x z ≡ true = le-leb x.number (at H x.origin) (number_of_record H x h) in
            let now : later_touch K x z ≡ has_live = ap (λ b. b && touches ops e K z) seen ∙ touches_new in
            let all_now : list_any (later_touch K x) (all_records K) ≡ (list_any (later_touch H x) before || (has_live || list_any (later_touch H x) after)) =
            ap (list_any (later_touch K x)) split.3 ∙ list_any-append (later_touch K x) before (z ∷ after)
            ∙ ap (λ b. b || (later_touch K x z || list_any (later_touch K x) after)) (list_any-same (later_touch K x) (later_touch H x) before (λ k y e. later_alike x y (in_before y (k, e))))
            ∙ ap (λ b. list_any (later_touch H x) before || (b || list_any (later_touch K x) after)) now
            ∙ ap (λ b. list_any (later_touch H x) before || (has_live || b)) (list_any-same (later_touch K x) (later_touch H x) after (λ k y e. later_alike x y (in_after y (k, e)))) in
            let all_then : list_any (later_touch H x) (all_records H) ≡ (list_any (later_touch H x) before || list_any (later_touch H x) after) =
            ap (list_any (later_touch H x)) split.2 ∙ list_any-append (later_touch H x) before after in
            let adding : Bool = is_adding_by ops (touches ops e) e H x x.action in
            ap (λ b. b && not (list_any (later_touch K x) (all_records K))) (adding_alike x h x.action)
            ∙ ap (λ b. adding && not b) all_now
            ∙ unseen_since adding (list_any (later_touch H x) before) (list_any (later_touch H x) after) has_live
            ∙ ap (λ b. (adding && not b) && not has_live) (sym all_then)

        -- nothing has the prune in its past
        none_later : (y : Stamped Op) → IsIn (all_records K) y → later_touch K z y ≡ false
        none_later y h = ap (λ b. b && touches ops e K y) (lt-leb (1 + at H owner) (y.past owner) (let p = old_past in omega arith))
          where
            in_tail : IsIn (z ∷ after) y → y.past owner ≤ at H owner
            in_tail (zero, is) = let same : z ≡ y = cc is in let p : at H owner ≡ y.past owner = ap (λ (x : Stamped Op). x.past owner) same in omega arith
            in_tail (suc k, is) = covered y (in_after y (k, is)) owner

            old_past : y.past owner ≤ at H owner
            old_past = elim (in_append before (z ∷ after) y (subst (λ xs. IsIn xs y) split.3 h)) [ inl first ↦ covered y (in_before y first) owner | inr rest ↦ in_tail rest ]

        and_not_false : (b : Bool) → (b && not false) ≡ b
        and_not_false b = and-true b

        live_new : is_live ops e K z ≡ has_live
        live_new = ap (λ b. b && not (list_any (later_touch K z) (all_records K))) touches_new ∙ ap (λ b. has_live && not b) (any_none (later_touch K z) (all_records K) none_later) ∙ and_not_false has_live

        abbrev M : Stamped Op → Bool
        M = is_live ops e H

        abbrev L : Stamped Op → Bool
        L = is_live ops e K

        any_alike : list_any (is_live ops e K) (all_records K) ≡ list_any (is_live ops e H) (all_records H)
        any_alike = ap (list_any (is_live ops e K)) split.3 ∙ list_any-append (is_live ops e K) before (z ∷ after) ∙ by_live has_live refl
          where
            still_live : has_live ≡ false → (x : Stamped Op) → IsIn (all_records H) x → L x ≡ M x
            still_live none x h = live_before x h ∙ ap (λ b. M x && not b) none ∙ and_not_false (M x)

            by_live : (b : Bool) → has_live ≡ b → (list_any L before || (L z || list_any L after)) ≡ list_any M (all_records H)
            by_live true some =
                ap (λ b. list_any L before || (b || list_any L after)) (live_new ∙ some) ∙ or_right (list_any L before) true refl
                ∙ sym (any_weaker (λ y. (y.origin == r) && M y) M (all_records H) (λ y t. (and_parts (y.origin == r) (M y) t).1) some)
            by_live false none =
                ap (λ b. list_any L before || (b || list_any L after)) (live_new ∙ none)
                ∙ ap (λ b. b || list_any L after) (list_any-same L M before (λ k x e. still_live none x (in_before x (k, e))))
                ∙ ap (λ b. list_any M before || b) (list_any-same L M after (λ k x e. still_live none x (in_after x (k, e))))
                ∙ sym (list_any-append M before after) ∙ ap (list_any M) (sym split.2)

      pub live_alike : live_elements ops K ≡ live_elements ops H
      live_alike =
          ap (λ xs. filter (λ e. list_any (is_live ops e K) (all_records K)) (text_set xs)) (texts_alike ops.added)
          ∙ λ j. filter (λ e. any_alike e j) (text_set (filter_map (λ (x : Stamped Op). found ops.added x.action) (all_records H)))
