-- An add is live exactly where it is its identity's last record that touches the element, and no identity's last such record has it in its past.
use Rattle.std.proofs.Common.{◌≡◌, ℕ, zero, suc, ◌-◌, ◌<◌, ◌≤◌, List, [], ◌∷◌, refl, sym, ap, subst, ◌∙◌, arith, Bool, true, false, inl, inr}
use Rattle.std.specs.Prelude.{◌&&◌, ◌||◌, not, ◌==◌, nat_le, if◌then◌else◌}
use Rattle.std.specs.List.{list_any}
use Rattle.std.proofs.lemmas.Bool.{le-leb, leb-true, eq-eqb, eqb-true, cases_lt}
use Rattle.std.proofs.lemmas.Bool.Decides.{eqb_tells}
use Rattle.model_history.specs.Table.{identity_limit, identities}
use Rattle.model_history.specs.Texts.{Text}
use Rattle.model_history.specs.Cuts.{record_at}
use Rattle.model_history.specs.History.{Action, Record, History, Stamped, at, all_records, precedes, IsHistory}
use Rattle.model_history.specs.History.Action.{Operation, Prune}
use Rattle.model_history.proofs.Bridge.{record_at_is, has_record_at}
use Rattle.model_history.proofs.HistoryLaws.{slice_get-below}
use Rattle.model_history.proofs.PruneLaws.{IsIn, in_tail, in_range, at_identities}
use Rattle.model_meanings.specs.ObservedRemove.{SetOperations, is_adding_by, touches_by, touches, is_live}
use Rattle.model_meanings.proofs.EquationsOfMeanings.{touches_equation}
use Rattle.model_traces.proofs.Tests.{is_stamped, stamped, first_true, second_true, both_true}
use Rattle.theorem_latest.specs.Latest.{stamped_at, touches_at, last_touch, last_of, sees, is_last_live, has_last_live}

-- LISTS AND TESTS

pub any_tells : {X : Type 0} (p : X → Bool) (xs : List X) → list_any p xs ≡ true → (x : X) × IsIn xs x × (p x ≡ true)
any_tells p [] e = absurd (cc e)
any_tells p (x ∷ xs) e = go (p x) refl e (any_tells p xs)
  where
    go : (b : Bool) → p x ≡ b → (b || list_any p xs) ≡ true → (list_any p xs ≡ true → (y : _) × IsIn xs y × (p y ≡ true)) → (y : _) × IsIn (x ∷ xs) y × (p y ≡ true)
    go true is e' later = (x, (0, refl), is)
    go false is e' later = let h = later e' in (h.0, in_tail x xs h.0 h.1, h.2)

pub any_holds : {X : Type 0} (p : X → Bool) (xs : List X) (x : X) → IsIn xs x → p x ≡ true → list_any p xs ≡ true
any_holds p [] x h e = absurd (cc h.1)
any_holds p (y ∷ xs) x (zero, h) e = let same : y ≡ x = cc h in ap (λ z. p z || list_any p xs) same ∙ ap (λ b. b || list_any p xs) e
any_holds p (y ∷ xs) x (suc k, h) e = go (p y) (any_holds p xs x (k, h) e)
  where
    go : (b : Bool) → list_any p xs ≡ true → (b || list_any p xs) ≡ true
    go true later = refl
    go false later = later

never : (b : Bool) → (b ≡ true → ⊥) → not b ≡ true
never true h = absurd (h refl)
never false h = refl

not_both : (b : Bool) → not b ≡ true → b ≡ true → ⊥
not_both true e f = cc e
not_both false e f = cc f

pub bool_same : (a b : Bool) → (a ≡ true → b ≡ true) → (b ≡ true → a ≡ true) → a ≡ b
bool_same true true f g = refl
bool_same false false f g = refl
bool_same true false f g = sym (f refl)
bool_same false true f g = g refl

pub not_zero : (n : ℕ) → not (n == 0) ≡ true → 0 < n
not_zero n e = elim (cases_lt 0 n) [ inl some ↦ some | inr none ↦ absurd (let z : n ≡ 0 = omega (arith, none) in let f : not (n == 0) ≡ false = ap (λ m. not (m == 0)) z in let g = sym e ∙ f in cc g) ]

pub some_zero : (n : ℕ) → 0 < n → not (n == 0) ≡ true
some_zero n h = elim (eqb_tells n 0) [ inl is ↦ absurd (let z = is.1 in omega (arith, z, h)) | inr isnt ↦ ap not isnt.0 ]

module _ {Op : Type 0} (ops : SetOperations Op) (e : Text) (H : History Op) (history : IsHistory H)
    (equation : (x : Stamped Op) → IsIn (all_records H) x → touches ops e H x ≡ touches_by ops (touches ops e) e H x.past x.action) where
  abbrev T : ℕ → ℕ → Bool
  T i k = touches_at ops e H i k

  abbrev last : ℕ → ℕ → ℕ
  last i n = last_touch ops e H i n

  -- THE LAST TOUCH

  last_within : (i n : ℕ) → last i n ≤ n
  last_within i zero = omega arith
  last_within i (suc n) = go (T i n) (last_within i n)
    where
      go : (b : Bool) → last i n ≤ n → (if b then suc n else last i n) ≤ suc n
      go true h = omega arith
      go false h = omega (arith, h)

  last_touches : (i n : ℕ) → 0 < last i n → T i (last i n - 1) ≡ true
  last_touches i zero h = absurd (omega (arith, h))
  last_touches i (suc n) h = go (T i n) refl h (last_touches i n)
    where
      go : (b : Bool) → T i n ≡ b → 0 < (if b then suc n else last i n) → (0 < last i n → T i (last i n - 1) ≡ true) → T i ((if b then suc n else last i n) - 1) ≡ true
      go true is h later = let same : suc n - 1 ≡ n = omega arith in ap (T i) same ∙ is
      go false is h later = later h

  last_most : (i n k : ℕ) → k < n → T i k ≡ true → suc k ≤ last i n
  last_most i zero k h t = absurd (omega (arith, h))
  last_most i (suc n) k h t = go (T i n) refl (λ below. last_most i n k below t)
    where
      go : (b : Bool) → T i n ≡ b → (k < n → suc k ≤ last i n) → suc k ≤ (if b then suc n else last i n)
      go true is later = omega (arith, h)
      go false is later = elim (cases_lt k n) [
        | inl below ↦ later below
        | inr there ↦ absurd (let same : k ≡ n = omega (arith, h, there) in let f = sym t ∙ ap (T i) same ∙ is in cc f)
      ]

  -- RECORDS

  abbrev S : ℕ → ℕ → Stamped Op
  S i k = stamped_at ops e H i k

  in_all : (i k : ℕ) → i < identity_limit → k < at H i → IsIn (all_records H) (S i k)
  in_all i k small h = stamped H i k (record_at H i k) small (has_record_at H i k h)

  small_of : (i : ℕ) → IsIn identities i → i < identity_limit
  small_of i h = let r = in_range 0 identity_limit i h in omega (arith, r.1)

  -- a record stands at its index
  record IsPlaced (x : Stamped Op) : Type 0 where
    index : ℕ
    small : x.origin < identity_limit
    below : index < at H x.origin
    numbered : x.number ≡ suc index
    is : S x.origin index ≡ x

  placed : (x : Stamped Op) → IsIn (all_records H) x → IsPlaced x
  placed x h =
      let s = is_stamped H x h in
      let same = record_at_is H x.origin s.index _ s.has in
      record {
        index = s.index;
        small = s.small;
        below = slice_get-below (H x.origin) _ s.index s.has;
        numbered = s.numbered;
        is = ap (λ (r : Record Op). record { origin = x.origin; number = suc s.index; action = r.action; past = r.past }) same ∙ ap (λ n. record { origin = x.origin; number = n; action = x.action; past = x.past }) (sym s.numbered);
      }

  -- an adding record touches
  adding_touches : (x : Stamped Op) → IsIn (all_records H) x → is_adding_by ops (touches ops e) e H x x.action ≡ true → touches ops e H x ≡ true
  adding_touches x h adding = go x.action refl adding
    where
      go : (action : Action Op) → x.action ≡ action → is_adding_by ops (touches ops e) e H x action ≡ true → touches ops e H x ≡ true
      go (Operation op) is t = equation x h ∙ ap (touches_by ops (touches ops e) e H x.past) is ∙ ap (λ b. b || ops.removes op e) t
      go (Prune r) is t = t

  -- pasts grow along an identity's records
  later_past : (j k m : ℕ) → k ≤ m → m < at H j → (i : ℕ) → (record_at H j k).past i ≤ (record_at H j m).past i
  later_past j k m h below i = elim (cases_lt k m) [
    | inl earlier ↦
        let here = has_record_at H j m below in
        let number = history.numbered j m (record_at H j m) here in
        history.transitive j m j k (record_at H j m) (record_at H j k) here (has_record_at H j k (omega (arith, earlier, below))) (omega (arith, number, earlier)) i
    | inr same ↦ let it : k ≡ m = omega (arith, h, same) in let f = ap (λ n. (record_at H j n).past i) it in omega (arith, f)
  ]

  abbrev L : ℕ → ℕ
  L i = last_of ops e H i

  -- FROM A LIVE ADD TO THE LAST RECORDS

  live_is_last : (x : Stamped Op) → IsIn (all_records H) x → is_live ops e H x ≡ true → is_last_live ops e H x.origin ≡ true
  live_is_last x h live =
      one x h (first_true (is_adding_by ops (touches ops e) e H x x.action) (not (list_any (λ y. precedes x y && touches ops e H y) (all_records H))) live)
      (second_true (is_adding_by ops (touches ops e) e H x x.action) (not (list_any (λ y. precedes x y && touches ops e H y) (all_records H))) live)
    where
      one : (x : Stamped Op) → IsIn (all_records H) x → is_adding_by ops (touches ops e) e H x x.action ≡ true → not (list_any (λ y. precedes x y && touches ops e H y) (all_records H)) ≡ true → is_last_live ops e H x.origin ≡ true
      one x h adding alone =
          let p = placed x h in
          let i = x.origin in
          let touch : T i p.index ≡ true = ap (touches ops e H) p.is ∙ adding_touches x h adding in
          let most = last_most i (at H i) p.index p.below touch in
          let within = last_within i (at H i) in
          let unseen : (y : Stamped Op) → IsIn (all_records H) y → precedes x y ≡ true → touches ops e H y ≡ true → ⊥ =
          (λ y m before t. not_both (list_any (λ y. precedes x y && touches ops e H y) (all_records H)) alone (any_holds (λ y. precedes x y && touches ops e H y) (all_records H) y m (both_true (precedes x y) (touches ops e H y) before t))) in
          let is_last : L i ≡ suc p.index = elim (cases_lt (suc p.index) (L i)) [
            | inl more ↦
                let k = L i - 1 in
                let below : k < at H i = omega (arith, within, more) in
                let number = history.numbered i k (record_at H i k) (has_record_at H i k below) in
                absurd (unseen (S i k) (in_all i k p.small below) (le-leb x.number ((record_at H i k).past i) (let n = p.numbered in omega (arith, n, number, more))) (last_touches i (at H i) (omega (arith, more))))
            | inr no_more ↦ omega (arith, most, no_more)
          ] in
          let at_last : L i - 1 ≡ p.index = omega (arith, is_last) in
          let same : S i (L i - 1) ≡ x = ap (S i) at_last ∙ p.is in
          (both_true (not (L i == 0) && is_adding_by ops (touches ops e) e H (S i (L i - 1)) (S i (L i - 1)).action) (not (list_any (λ j. sees ops e H j i) identities))
          (both_true (not (L i == 0)) (is_adding_by ops (touches ops e) e H (S i (L i - 1)) (S i (L i - 1)).action) (some_zero (L i) (omega (arith, is_last))) (ap (λ (y : Stamped Op). is_adding_by ops (touches ops e) e H y y.action) same ∙ adding))
          (never (list_any (λ j. sees ops e H j i) identities) (λ seen.
          let s = any_tells (λ j. sees ops e H j i) identities seen in
          let j = s.0 in
          let some = not_zero (L j) (first_true (not (L j == 0)) (nat_le (L i) ((S j (L j - 1)).past i)) s.2) in
          let before = leb-true (L i) ((S j (L j - 1)).past i) (second_true (not (L j == 0)) (nat_le (L i) ((S j (L j - 1)).past i)) s.2) in
          let bound = last_within j (at H j) in
          unseen (S j (L j - 1)) (in_all j (L j - 1) (small_of j s.1) (omega (arith, some, bound))) (le-leb x.number ((S j (L j - 1)).past i) (let n = p.numbered in omega (arith, n, is_last, before))) (last_touches j (at H j) some))))

  from_live : list_any (is_live ops e H) (all_records H) ≡ true → has_last_live ops e H ≡ true
  from_live any =
      let found = any_tells (is_live ops e H) (all_records H) any in
      any_holds (is_last_live ops e H) identities found.0.origin (at_identities found.0.origin (placed found.0 found.1).small) (live_is_last found.0 found.1 found.2)

  -- FROM THE LAST RECORDS TO A LIVE ADD

  -- a last record that is live is a live one
  last_is_live : (i : ℕ) → i < identity_limit → is_last_live ops e H i ≡ true → IsIn (all_records H) (S i (L i - 1)) × (is_live ops e H (S i (L i - 1)) ≡ true)
  last_is_live i small live =
      let tests = first_true (not (L i == 0) && is_adding_by ops (touches ops e) e H (S i (L i - 1)) (S i (L i - 1)).action) (not (list_any (λ j. sees ops e H j i) identities)) live in
      one i small (not_zero (L i) (first_true (not (L i == 0)) (is_adding_by ops (touches ops e) e H (S i (L i - 1)) (S i (L i - 1)).action) tests))
      (second_true (not (L i == 0)) (is_adding_by ops (touches ops e) e H (S i (L i - 1)) (S i (L i - 1)).action) tests)
      (second_true (not (L i == 0) && is_adding_by ops (touches ops e) e H (S i (L i - 1)) (S i (L i - 1)).action) (not (list_any (λ j. sees ops e H j i) identities)) live)
    where
      one : (i : ℕ) → i < identity_limit → 0 < L i → is_adding_by ops (touches ops e) e H (S i (L i - 1)) (S i (L i - 1)).action ≡ true → not (list_any (λ j. sees ops e H j i) identities) ≡ true → IsIn (all_records H) (S i (L i - 1)) × (is_live ops e H (S i (L i - 1)) ≡ true)
      one i small some adding alone =
          let x = S i (L i - 1) in
          let within = last_within i (at H i) in (
            in_all i (L i - 1) small (omega (arith, some, within)),
            both_true (is_adding_by ops (touches ops e) e H x x.action) (not (list_any (λ y. precedes x y && touches ops e H y) (all_records H))) adding
                (never (list_any (λ y. precedes x y && touches ops e H y) (all_records H)) (λ seen.
                let s = any_tells (λ y. precedes x y && touches ops e H y) (all_records H) seen in
                let y = s.0 in
                let p = placed y s.1 in
                let j = y.origin in
                let before = leb-true x.number (y.past i) (first_true (precedes x y) (touches ops e H y) s.2) in
                let touch : T j p.index ≡ true = ap (touches ops e H) p.is ∙ second_true (precedes x y) (touches ops e H y) s.2 in
                let most = last_most j (at H j) p.index p.below touch in
                let bound = last_within j (at H j) in
                let grown = later_past j p.index (L j - 1) (omega (arith, most)) (omega (arith, most, bound)) i in
                let own : (record_at H j p.index).past i ≡ y.past i = ap (λ (z : Stamped Op). z.past i) p.is in
                not_both (list_any (λ j. sees ops e H j i) identities) alone
                (any_holds (λ j. sees ops e H j i) identities j (at_identities j p.small)
                (both_true (not (L j == 0)) (nat_le (L i) ((S j (L j - 1)).past i)) (some_zero (L j) (omega (arith, most))) (le-leb (L i) ((S j (L j - 1)).past i) (omega (arith, before, grown, own, some))))))),
          )

  to_live : has_last_live ops e H ≡ true → list_any (is_live ops e H) (all_records H) ≡ true
  to_live any =
      let found = any_tells (is_last_live ops e H) identities any in
      let live = last_is_live found.0 (small_of found.0 found.1) found.2 in
      any_holds (is_live ops e H) (all_records H) (S found.0 (L found.0 - 1)) live.0 live.1

  -- the same of one identity
  abbrev lives_at : ℕ → Stamped Op → Bool
  lives_at i x = (x.origin == i) && is_live ops e H x

  pub of_identity : (i : ℕ) → i < identity_limit → list_any (lives_at i) (all_records H) ≡ is_last_live ops e H i
  of_identity i small =
      bool_same (list_any (lives_at i) (all_records H)) (is_last_live ops e H i)
      (λ any.
      let found = any_tells (lives_at i) (all_records H) any in
      let same = eqb-true found.0.origin i (first_true (found.0.origin == i) (is_live ops e H found.0) found.2) in
      subst (λ j. is_last_live ops e H j ≡ true) same (live_is_last found.0 found.1 (second_true (found.0.origin == i) (is_live ops e H found.0) found.2)))
      (λ last. let live = last_is_live i small last in any_holds (lives_at i) (all_records H) (S i (L i - 1)) live.0 (both_true (i == i) (is_live ops e H (S i (L i - 1))) (eq-eqb i i refl) live.1))

  pub by_last_touches : list_any (is_live ops e H) (all_records H) ≡ has_last_live ops e H
  by_last_touches = bool_same (list_any (is_live ops e H) (all_records H)) (has_last_live ops e H) from_live to_live

pub last_touches_are_enough : {Op : Type 0} (ops : SetOperations Op) (e : Text) (H : History Op) → IsHistory H → list_any (is_live ops e H) (all_records H) ≡ has_last_live ops e H
last_touches_are_enough ops e H history = by_last_touches ops e H history (λ x m. touches_equation ops e H history x m)

pub last_touches_of_identities : {Op : Type 0} (ops : SetOperations Op) (e : Text) (H : History Op) → IsHistory H → (i : ℕ) → i < identity_limit → list_any (λ x. (x.origin == i) && is_live ops e H x) (all_records H) ≡ is_last_live ops e H i
last_touches_of_identities ops e H history i small = of_identity ops e H history (λ x m. touches_equation ops e H history x m) i small
