-- The past of a record: the records that it counts, each with a past of its own that is shorter.
use Rattle.std.proofs.Common.{◌≡◌, ℕ, zero, suc, ◌+◌, ◌<◌, ◌≤◌, List, [], ◌∷◌, ◌++◌, length, take, Bool, true, false, cond, refl, ap, sym, ◌∙◌, subst, arith, filter, flat_map, length-append}
use Rattle.std.specs.Prelude.{nat_le, sum_by}
use Rattle.std.proofs.lemmas.Bool.Decides.{nat_tests}
use Rattle.std.proofs.lemmas.List.Elements.{filter-append}
use Rattle.std.proofs.lemmas.List.Sums.{sum_by-cons}
use Rattle.model_history.specs.Table.{identities}
use Rattle.model_history.specs.Vector.{VersionVector, Covers}
use Rattle.model_history.specs.History.{Record, History, Stamped, at, size, cut, stamped_from, all_records, IsHistory}
use Rattle.model_history.proofs.HistoryLaws.{slice_get-take}
use Rattle.model_history.proofs.PartLaws.{take_none, cut_cut}
use Rattle.model_history.proofs.PastLaws.{past_is_history, past_is_shorter}
use Rattle.model_history.proofs.PruneLaws.{IsIn}
use Rattle.model_meanings.proofs.EquationsOfMeanings.{Belongs, record_of}
use Rattle.data_meaning.proofs.Walks.{in_filter, to_filter}

module _ {Op : Type 0} where
  abbrev pub counted : VersionVector → Stamped Op → Bool
  counted past x = nat_le x.number (past x.origin)

  -- THE RECORDS OF A PAST ARE THOSE THAT IT COUNTS

  none_counted_after : (past : VersionVector) (i n : ℕ) (rs : List (Record Op)) → past i ≤ n → filter (counted past) (stamped_from i (suc n) rs) ≡ []
  none_counted_after past i n [] l = refl
  none_counted_after past i n (r ∷ rs) l =
      let never : nat_le (suc n) (past i) ≡ false = grind (arith, nat_tests) in
      let x : Stamped Op = record { origin = i; number = suc n; action = r.action; past = r.past } in
      ap (λ b. cond b (x ∷ filter (counted past) (stamped_from i (suc (suc n)) rs)) (filter (counted past) (stamped_from i (suc (suc n)) rs))) never
      ∙ none_counted_after past i (suc n) rs (omega arith)

  row : (past : VersionVector) (i n m : ℕ) (rs : List (Record Op)) → past i ≡ n + m → stamped_from i (suc n) (take m rs) ≡ filter (counted past) (stamped_from i (suc n) rs)
  row past i n m [] e = ap (stamped_from i (suc n)) (take_none m)
  row past i n zero (r ∷ rs) e = sym (none_counted_after past i n (r ∷ rs) (omega arith))
  row past i n (suc m) (r ∷ rs) e =
      let always : nat_le (suc n) (past i) ≡ true = grind (arith, nat_tests) in
      let x : Stamped Op = record { origin = i; number = suc n; action = r.action; past = r.past } in
      ap (λ xs. x ∷ xs) (row past i (suc n) m rs (omega arith))
      ∙ sym (ap (λ b. cond b (x ∷ filter (counted past) (stamped_from i (suc (suc n)) rs)) (filter (counted past) (stamped_from i (suc (suc n)) rs))) always)

  pub records_of_past : (H : History Op) (past : VersionVector) → all_records (cut H past) ≡ filter (counted past) (all_records H)
  records_of_past H past = go identities
    where
      go : (ids : List ℕ) → flat_map (λ i. stamped_from i 1 (take (past i) (H i))) ids ≡ filter (counted past) (flat_map (λ i. stamped_from i 1 (H i)) ids)
      go [] = refl
      go (i ∷ ids) =
          ap (λ xs. xs ++ flat_map (λ i. stamped_from i 1 (take (past i) (H i))) ids) (row past i 0 (past i) (H i) (omega arith))
          ∙ ap (λ ys. filter (counted past) (stamped_from i 1 (H i)) ++ ys) (go ids)
          ∙ sym (filter-append (counted past) (stamped_from i 1 (H i)) (flat_map (λ i. stamped_from i 1 (H i)) ids))

  -- HOW MANY RECORDS THERE ARE

  length-stamped : (i n : ℕ) (rs : List (Record Op)) → length (stamped_from i n rs) ≡ length rs
  length-stamped i n [] = refl
  length-stamped i n (r ∷ rs) = ap suc (length-stamped i (suc n) rs)

  pub length-all : (H : History Op) → length (all_records H) ≡ size H
  length-all H = go identities
    where
      go : (ids : List ℕ) → length (flat_map (λ i. stamped_from i 1 (H i)) ids) ≡ sum_by (at H) ids
      go [] = refl
      go (i ∷ ids) =
          let rest = go ids in
          let here = length-stamped i 1 (H i) in
          let both = length-append (stamped_from i 1 (H i)) (flat_map (λ i. stamped_from i 1 (H i)) ids) in
          let sum = sum_by-cons (at H) i ids in
          omega arith

  -- A RECORD OF A PAST

  pub record IsEarlier (H : History Op) (past : VersionVector) (z : Stamped Op) : Type 0 where
    pub belongs : Belongs H z
    pub covered : Covers past z.past
    pub shorter : size (cut H z.past) < size (cut H past)

  module _ (H : History Op) (history : IsHistory H) (x : Stamped Op) (belongs : Belongs H x) where
    pub past_history : IsHistory (cut H x.past)
    past_history = let r = record_of H x belongs in past_is_history H history r.0 r.1 _ r.2

    pub past_shorter : size (cut H x.past) < size H
    past_shorter = let r = record_of H x belongs in past_is_shorter H history r.0 r.1 _ r.2

    pub earlier : (z : Stamped Op) → Belongs (cut H x.past) z → IsEarlier H x.past z
    earlier z there =
        let r = record_of H x belongs in
        let s = record_of (cut H x.past) z there in
        let inside = slice_get-take (H s.0) (x.past s.0) s.1 _ s.2 in
        let covers : Covers x.past z.past = history.transitive r.0 r.1 s.0 s.1 _ _ r.2 inside.1 inside.0 in
        record {
          belongs = in_filter (counted x.past) (all_records H) z (subst (λ xs. IsIn xs z) (records_of_past H x.past) there);
          covered = covers;
          shorter = subst (λ J. size J < size (cut H x.past)) (cut_cut H x.past z.past covers) (past_is_shorter (cut H x.past) past_history s.0 s.1 _ s.2);
        }

    -- what the past counts is a record of it
    pub is_counted : (z : Stamped Op) → Belongs H z → counted x.past z ≡ true → Belongs (cut H x.past) z
    is_counted z there counts = subst (λ xs. IsIn xs z) (sym (records_of_past H x.past)) (to_filter (counted x.past) (all_records H) z there counts)
