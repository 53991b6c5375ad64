-- Sums by identity are those of all records.
use Rattle.std.proofs.Common.{◌≡◌, ℕ, suc, ◌+◌, List, [], ◌∷◌, ◌++◌, length, take, refl, sym, ap, ap₂, ◌∙◌, arith, Bool, ◌||◌}
use Rattle.std.specs.Prelude.{sum_by, flat_map}
use Rattle.std.specs.List.{list_any, range_with_len}
use Rattle.std.proofs.Math.Bool.{or-false}
use Rattle.std.proofs.lemmas.List.Sums.{sum_by-append, sum_by_push, sum_by-cons}
use Rattle.std.proofs.lemmas.List.Folds.{list_any-append}
use Rattle.base_vectors.proofs.Walks.{counted_more, any_more}
use Rattle.model_history.specs.Table.{identities}
use Rattle.model_history.specs.Vector.{VersionVector}
use Rattle.model_history.specs.History.{Action, Record as Meant, Stamped, History, at, versions, stamped_from, with_record, IsPartOf}
use Rattle.model_history.proofs.HistoryLaws.{with_at_same}
use Rattle.model_history.proofs.PartLaws.{part-le, part_with_record, take_whole}
use Rattle.model_meanings.specs.Counter.{amount_of, total}
use Rattle.model_meanings.specs.Growing.{is_operation, has_operation}
use Rattle.model_kinds.specs.SixKinds.{increment, decrement, enables}
use Rattle.model_kinds.specs.declared.operation.Op.{Op}
use Rattle.trace_values.specs.declared.sums.Sums.{Sums}
use Rattle.trace_values.specs.Rows.{last_of, IsPushed}
use Rattle.trace_values.specs.Sums.{no_sums, sums_meant, with_action, both_sums, counted_sums, AreSums}
use Rattle.trace_values.proofs.Firsts.{first_then, take_part}

-- ONE MORE

any_push : {X : Type 0} (p : X → Bool) (xs : List X) (x : X) → list_any p (xs ++ x ∷ []) ≡ (list_any p xs || p x)
any_push p xs x = list_any-append p xs (x ∷ []) ∙ ap (λ b. list_any p xs || b) (or-false (p x))

sums_push : (rs : List (Meant Op)) (r : Meant Op) → with_action (sums_meant rs) r.action ≡ sums_meant (rs ++ r ∷ [])
sums_push rs r = λ k. record { added = added k; taken = taken k; enabled = enabled k }
  where
    added : sum_by (λ (r : Meant Op). amount_of increment r.action) rs + amount_of increment r.action ≡ sum_by (λ (r : Meant Op). amount_of increment r.action) (rs ++ r ∷ [])
    added = sym (sum_by_push (λ (r : Meant Op). amount_of increment r.action) rs r)

    taken : sum_by (λ (r : Meant Op). amount_of decrement r.action) rs + amount_of decrement r.action ≡ sum_by (λ (r : Meant Op). amount_of decrement r.action) (rs ++ r ∷ [])
    taken = sym (sum_by_push (λ (r : Meant Op). amount_of decrement r.action) rs r)

    enabled : (list_any (λ (r : Meant Op). is_operation enables r.action) rs || is_operation enables r.action) ≡ list_any (λ (r : Meant Op). is_operation enables r.action) (rs ++ r ∷ [])
    enabled = sym (any_push (λ (r : Meant Op). is_operation enables r.action) rs r)

-- one identity more, as the loop adds it
pub sums_more : (rows : List (List Sums)) (known : VersionVector) (n id count : ℕ) (none last old new : Sums) → old ≡ counted_sums rows known (range_with_len 0 n) → id ≡ n → count ≡ known id → none ≡ no_sums → last ≡ last_of none rows id count → new ≡ both_sums old last
    → new ≡ counted_sums rows known (range_with_len 0 (n + 1))
unfolding counted_sums
sums_more rows known n id count none last old new old_is id_is count_is none_is last_is new_is =
    new_is ∙ ap₂ both_sums old_is (last_is ∙ ap (λ m. last_of none rows id m) count_is ∙ ap (λ z. last_of z rows id (known id)) none_is ∙ ap (λ i. last_of no_sums rows i (known i)) id_is)
    ∙ (λ k. record { added = added k; taken = taken k; enabled = enabled k })
  where
    added : sum_by (λ i. (last_of no_sums rows i (known i)).added) (range_with_len 0 n) + (last_of no_sums rows n (known n)).added ≡ sum_by (λ i. (last_of no_sums rows i (known i)).added) (range_with_len 0 (n + 1))
    added = sym (ap (sum_by (λ i. (last_of no_sums rows i (known i)).added)) (counted_more n) ∙ sum_by_push (λ i. (last_of no_sums rows i (known i)).added) (range_with_len 0 n) n)

    taken : sum_by (λ i. (last_of no_sums rows i (known i)).taken) (range_with_len 0 n) + (last_of no_sums rows n (known n)).taken ≡ sum_by (λ i. (last_of no_sums rows i (known i)).taken) (range_with_len 0 (n + 1))
    taken = sym (ap (sum_by (λ i. (last_of no_sums rows i (known i)).taken)) (counted_more n) ∙ sum_by_push (λ i. (last_of no_sums rows i (known i)).taken) (range_with_len 0 n) n)

    enabled : (list_any (λ i. (last_of no_sums rows i (known i)).enabled) (range_with_len 0 n) || (last_of no_sums rows n (known n)).enabled) ≡ list_any (λ i. (last_of no_sums rows i (known i)).enabled) (range_with_len 0 (n + 1))
    enabled = sym (any_more (λ i. (last_of no_sums rows i (known i)).enabled) n)

pub sums_then : (made : History Op) (i n : ℕ) (r : Meant Op) (old new : List (List Sums)) → AreSums old made → n ≡ at made i → IsPushed old new i (with_action (last_of no_sums old i n) r.action) → AreSums new (with_record made i r)
sums_then made i n r old new are n_is pushed = first_then no_sums (λ j m. sums_meant (take m (made j))) (λ j m. sums_meant (take m (with_record made i r j))) made i r old new _ are pushed
    (λ j m few. ap sums_meant (take_part made (with_record made i r) (part_with_record made i r) j m few))
    (ap (λ m. with_action (last_of no_sums old i m) r.action) n_is ∙ ap (λ s. with_action s r.action) (are.each i (at made i) (omega arith) ∙ ap sums_meant (take_whole (made i))) ∙ sums_push (made i) r ∙ ap sums_meant (sym whole))
  where
    length_push : {X : Type 0} (xs : List X) (x : X) → length xs + 1 ≡ length (xs ++ x ∷ [])
    length_push [] x = refl
    length_push (y ∷ xs) x = let later = length_push xs x in omega (arith, later)

    whole : take (at made i + 1) (with_record made i r i) ≡ made i ++ r ∷ []
    whole = ap (take (at made i + 1)) (with_at_same made i (made i ++ r ∷ [])) ∙ ap (λ m. take m (made i ++ r ∷ [])) (length_push (made i) r) ∙ take_whole (made i ++ r ∷ [])

-- ALL RECORDS

stamped_sum : (f : Action Op → ℕ) (i n : ℕ) (rs : List (Meant Op)) → sum_by (λ (x : Stamped Op). f x.action) (stamped_from i n rs) ≡ sum_by (λ (r : Meant Op). f r.action) rs
stamped_sum f i n [] = refl
stamped_sum f i n (r ∷ rs) =
    sum_by-cons (λ (x : Stamped Op). f x.action) (record { origin = i; number = n; action = r.action; past = r.past }) (stamped_from i (suc n) rs)
    ∙ ap (λ m. f r.action + m) (stamped_sum f i (suc n) rs) ∙ sym (sum_by-cons (λ (r : Meant Op). f r.action) r rs)

stamped_any : (p : Action Op → Bool) (i n : ℕ) (rs : List (Meant Op)) → list_any (λ (x : Stamped Op). p x.action) (stamped_from i n rs) ≡ list_any (λ (r : Meant Op). p r.action) rs
stamped_any p i n [] = refl
stamped_any p i n (r ∷ rs) = ap (λ b. p r.action || b) (stamped_any p i (suc n) rs)

module _ (H : History Op) where
  sum_all : (f : Action Op → ℕ) (ids : List ℕ) → sum_by (λ i. sum_by (λ (r : Meant Op). f r.action) (H i)) ids ≡ sum_by (λ (x : Stamped Op). f x.action) (flat_map (λ i. stamped_from i 1 (H i)) ids)
  sum_all f [] = refl
  sum_all f (i ∷ ids) =
      sum_by-cons (λ i. sum_by (λ (r : Meant Op). f r.action) (H i)) i ids ∙ ap₂ (λ m n. m + n) (sym (stamped_sum f i 1 (H i))) (sum_all f ids)
      ∙ sym (sum_by-append (λ (x : Stamped Op). f x.action) (stamped_from i 1 (H i)) (flat_map (λ i. stamped_from i 1 (H i)) ids))

  any_all : (p : Action Op → Bool) (ids : List ℕ) → list_any (λ i. list_any (λ (r : Meant Op). p r.action) (H i)) ids ≡ list_any (λ (x : Stamped Op). p x.action) (flat_map (λ i. stamped_from i 1 (H i)) ids)
  any_all p [] = refl
  any_all p (i ∷ ids) =
      ap₂ (λ b c. b || c) (sym (stamped_any p i 1 (H i))) (any_all p ids)
      ∙ sym (list_any-append (λ (x : Stamped Op). p x.action) (stamped_from i 1 (H i)) (flat_map (λ i. stamped_from i 1 (H i)) ids))

module _ (sums : List (List Sums)) (made H : History Op) (are : AreSums sums made) (part : IsPartOf H made) (known : VersionVector) (known_is : known ≡ versions H) where
  first_is : (i : ℕ) → last_of no_sums sums i (known i) ≡ sums_meant (H i)
  first_is i = ap (λ (v : VersionVector). last_of no_sums sums i (v i)) known_is ∙ are.each i (at H i) (part-le H made part i) ∙ ap sums_meant (sym (part i))

  pub added_is : (counted_sums sums known identities).added ≡ total increment H
  unfolding counted_sums
  added_is = ap (λ (f : ℕ → ℕ). sum_by f identities) (λ k i. (first_is i k).added) ∙ sum_all H (amount_of increment) identities

  pub taken_is : (counted_sums sums known identities).taken ≡ total decrement H
  unfolding counted_sums
  taken_is = ap (λ (f : ℕ → ℕ). sum_by f identities) (λ k i. (first_is i k).taken) ∙ sum_all H (amount_of decrement) identities

  pub enabled_is : (counted_sums sums known identities).enabled ≡ has_operation enables H
  unfolding counted_sums
  enabled_is = ap (λ (f : ℕ → Bool). list_any f identities) (λ k i. (first_is i k).enabled) ∙ any_all H (is_operation enables) identities
