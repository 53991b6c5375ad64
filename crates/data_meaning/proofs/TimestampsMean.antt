-- The timestamps that the list has are those that the history means, and so is the write that wins.
use Rattle.std.proofs.Common.{◌≡◌, ℕ, zero, suc, ◌<◌, max, List, [], ◌∷◌, length, map, Bool, true, false, cond, ◌&&◌, not, Option, None, Some, refl, ap, sym, ◌∙◌, subst, arith, lt_of_lt_of_le, le_of_suc-le-suc, if◌then◌else◌, fold, filter, find, option_map}
use Rattle.std.proofs.lemmas.List.{length-map, length-replicate}
use Rattle.std.specs.Prelude.{slice_get, ◌==◌, unwrap_or}
use Rattle.std.specs.List.{zip}
use Rattle.model_history.specs.History.{Stamped, History, cut, size, all_records, IsHistory}
use Rattle.model_history.proofs.PartLaws.{cut_cut}
use Rattle.model_meanings.specs.Growing.{Assignment, greatest, timestamp_after, found, timestamp, newest, winner, winning_text}
use Rattle.model_meanings.proofs.EquationsOfMeanings.{Belongs, timestamp_equation}
use Rattle.base_vectors.specs.Vectors.{number_at}
use Rattle.model_kinds.specs.SixKinds.{assigned}
use Rattle.model_kinds.specs.declared.operation.Op.{Op}
use Rattle.data_meaning.specs.declared.record.Record.{Record}
use Rattle.data_meaning.specs.Records.{action_of, stamped}
use Rattle.data_meaning.specs.Stamping.{Timed, newest_in, timestamp_by, timestamps, first_with, winner_in, text_in, written_by}
use Rattle.data_meaning.proofs.Walks.{find-same, find-map, slice_get-map, beside_map, first_of_zip}
use Rattle.data_meaning.proofs.Pasts.{counted, records_of_past, length-all, past_history, past_shorter, earlier, is_counted}

abbrev st : Timed → Stamped Op
st j = stamped j.0

-- THE GREATEST

module _ (f : Stamped Op → ℕ) (c : Stamped Op → Bool) where
  greatest_of_some : (base : ℕ) (all : List Timed) → ((k : ℕ) (j : Timed) → slice_get all k ≡ Some j → c (st j) ≡ true → j.1 ≡ f (st j))
      → fold (λ n (j : Timed). if c (st j) then max n j.1 else n) base all ≡ fold max base (map f (filter c (map st all)))
  greatest_of_some base [] right = refl
  greatest_of_some base (j ∷ all) right = go (c (st j)) refl (λ n. greatest_of_some n all (λ k l at. right (suc k) l at))
    where
      go : (b : Bool) → c (st j) ≡ b → ((n : ℕ) → fold (λ n (j : Timed). if c (st j) then max n j.1 else n) n all ≡ fold max n (map f (filter c (map st all))))
          → fold (λ n (j : Timed). if c (st j) then max n j.1 else n) (if b then max base j.1 else base) all ≡ fold max base (map f (cond b (st j ∷ filter c (map st all)) (filter c (map st all))))
      go true is rest = rest (max base j.1) ∙ ap (λ n. fold max (max base n) (map f (filter c (map st all)))) (right 0 j refl is)
      go false is rest = rest base

greatest_of_all : (f : Stamped Op → ℕ) (base : ℕ) (all : List Timed) → ((k : ℕ) (j : Timed) → slice_get all k ≡ Some j → j.1 ≡ f (st j)) → fold (λ n (j : Timed). max n j.1) base all ≡ fold max base (map f (map st all))
greatest_of_all f base [] right = refl
greatest_of_all f base (j ∷ all) right =
    greatest_of_all f (max base j.1) all (λ k l at. right (suc k) l at) ∙ ap (λ n. fold max (max base n) (map f (map st all))) (right 0 j refl)

module _ (H : History Op) (history : IsHistory H) where
  abbrev T : History Op → Stamped Op → ℕ
  T = timestamp assigned

  timestamp_in_past : (x : Stamped Op) → Belongs H x → (z : Stamped Op) → Belongs (cut H x.past) z → T (cut H x.past) z ≡ T H z
  timestamp_in_past x belongs z there =
      let z_is = earlier H history x belongs z there in
      timestamp_equation assigned (cut H x.past) (past_history H history x belongs) z there
      ∙ ap (λ (J : History Op). timestamp_after (newest assigned J) (found assigned z.action)) (cut_cut H x.past z.past z_is.covered)
      ∙ sym (timestamp_equation assigned H history z z_is.belongs)

  -- A LIST THAT IS RIGHT FOR SHORT PASTS

  pub record IsTimely (all : List Timed) (depth : ℕ) : Type 0 where
    pub listed : map st all ≡ all_records H
    pub right : (k : ℕ) (j : Timed) → slice_get all k ≡ Some j → size (cut H (st j).past) < depth → j.1 ≡ T H (st j)

  module _ (all : List Timed) (depth : ℕ) (known : IsTimely all depth) where
    listed_in : (k : ℕ) (j : Timed) → slice_get all k ≡ Some j → Belongs H (st j)
    listed_in k j at = (k, subst (λ xs. slice_get xs k ≡ Some (st j)) known.listed (slice_get-map st all k j at))

    timestamp_means : (r : Record) → Belongs H (stamped r) → size (cut H (stamped r).past) < suc depth → timestamp_by all r.past r.action ≡ T H (stamped r)
    timestamp_means r belongs short =
        let past = number_at r.past in
        ap (λ n. timestamp_after n (found assigned (action_of r.action))) (
        greatest_of_some (T (cut H past)) (counted past) 0 all (λ k j at counts.
        let there = is_counted H history (stamped r) belongs (st j) (listed_in k j at) counts in
        let shorter = (earlier H history (stamped r) belongs (st j) there).shorter in
        known.right k j at (lt_of_lt_of_le shorter (le_of_suc-le-suc short)) ∙ sym (timestamp_in_past (stamped r) belongs (st j) there))
        ∙ ap (λ xs. greatest (map (T (cut H past)) (filter (counted past) xs))) known.listed
        ∙ ap (λ xs. greatest (map (T (cut H past)) xs)) (sym (records_of_past H past)))
        ∙ sym (timestamp_equation assigned H history (stamped r) belongs)

    -- THE WINNER

    written_is : (o : Option Timed) → written_by o ≡ unwrap_or (option_map (λ (a : Assignment). a.text) (unwrap_or (option_map (λ (x : Stamped Op). found assigned x.action) (option_map st o)) None)) []
    written_is None = refl
    written_is (Some j) = by_found (found assigned (action_of j.0.action))
      where
        by_found : (o : Option Assignment) → text_in o ≡ unwrap_or (option_map (λ (a : Assignment). a.text) o) []
        by_found None = refl
        by_found (Some a) = refl

    module _ (whole : (k : ℕ) (j : Timed) → slice_get all k ≡ Some j → j.1 ≡ T H (st j)) where
      newest_means : newest_in all None ≡ newest assigned H
      newest_means = greatest_of_all (T H) 0 all whole ∙ ap (λ xs. greatest (map (T H) xs)) known.listed

      winner_means : option_map st (winner_in all) ≡ winner assigned H
      winner_means =
          ap (λ n. option_map st (first_with all n)) newest_means
          ∙ ap (option_map st) (find-same (λ (j : Timed). not (newest assigned H == 0) && (j.1 == newest assigned H)) (λ (j : Timed). not (newest assigned H == 0) && (T H (st j) == newest assigned H)) all
          (λ k j at. ap (λ n. not (newest assigned H == 0) && (n == newest assigned H)) (whole k j at)))
          ∙ sym (find-map st (λ (x : Stamped Op). not (newest assigned H == 0) && (T H x == newest assigned H)) all)
          ∙ ap (find (λ (x : Stamped Op). not (newest assigned H == 0) && (T H x == newest assigned H))) known.listed

      text_means : written_by (winner_in all) ≡ winning_text assigned H
      text_means = written_is (winner_in all) ∙ ap (λ o. unwrap_or (option_map (λ (a : Assignment). a.text) (unwrap_or (option_map (λ (x : Stamped Op). found assigned x.action) o) None)) []) winner_means

  -- EVERY DEPTH IS RIGHT FOR SHORTER PASTS

  module _ (records : List Record) (spelled : map stamped records ≡ all_records H) where
    length-timestamps : (depth : ℕ) → length (timestamps records depth) ≡ length records
    length-timestamps zero = length-replicate (length records) 0
    length-timestamps (suc depth) = length-map records (λ r. timestamp_by (zip records (timestamps records depth)) r.past r.action)

    pub timely_at : (depth : ℕ) → IsTimely (zip records (timestamps records depth)) depth
    timely_at zero = record {
      listed = first_of_zip stamped records (timestamps records zero) (length-timestamps zero) ∙ spelled;
      right = λ k j at short. absurd (omega arith);
    }
    timely_at (suc depth) =
        let before = timely_at depth in
        record {
          listed = first_of_zip stamped records (timestamps records (suc depth)) (length-timestamps (suc depth)) ∙ spelled;
          right = λ k j at short.
              let is = beside_map (λ r. timestamp_by (zip records (timestamps records depth)) r.past r.action) records k j at in
              let belongs : Belongs H (st j) = (k, subst (λ xs. slice_get xs k ≡ Some (st j)) spelled (slice_get-map stamped records k j.0 is.1)) in
              is.0 ∙ timestamp_means (zip records (timestamps records depth)) depth before j.0 belongs short;
        }

    -- what the winner of the list writes is the text that wins
    pub winning_means : written_by (winner_in (zip records (timestamps records (length records)))) ≡ winning_text assigned H
    winning_means =
        let depth = length records in
        let all = zip records (timestamps records depth) in
        let known = timely_at depth in
        let long : depth ≡ size H = sym (length-map records stamped) ∙ ap length spelled ∙ length-all H in
        text_means all depth known (λ k j at.
        let shorter = past_shorter H history (st j) (k, subst (λ xs. slice_get xs k ≡ Some (st j)) known.listed (slice_get-map st all k j at)) in
        known.right k j at (subst (λ (n : ℕ). size (cut H (st j).past) < n) (sym long) shorter))
