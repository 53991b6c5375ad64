-- The group that a log answers is the entry's, after the number.
use Rattle.std.proofs.Common.{◌≡◌, ℕ, suc, ◌+◌, ◌-◌, ◌<◌, ◌≤◌, List, [], ◌∷◌, length, drop, refl, sym, ap, subst, ◌∙◌, arith, Bool, true, false, Some, inl, inr}
use Rattle.std.specs.Prelude.{slice_get, fold}
use Rattle.std.proofs.lemmas.Bool.{cases_eq, cases_lt}
use Rattle.model_members.proofs.GroupLaws.{joined_past, past_in_join}
use Rattle.model_history.specs.Vector.{VersionVector, none_counted}
use Rattle.model_history.specs.History.{Record, History, at, HasRecord}
use Rattle.model_history.specs.Cuts.{record_at, action_of, past_of, AreOperations}
use Rattle.model_history.proofs.HistoryLaws.{with_at_other, slice_get-below}
use Rattle.model_history.proofs.PartLaws.{slice_get-dropped, part-le, in_whole}
use Rattle.model_history.proofs.CutLaws.{with_at_is}
use Rattle.model_history.proofs.Bridge.{record_at_part, part_record_at}
use Rattle.model_members.specs.Entry.{Entry, IsGroupOf, group_after, needs, is_prune}
use Rattle.base_vectors.specs.Vectors.{number_at}
use Rattle.data_envelope.specs.Images.{GroupParts, StandsForGroup}
use Rattle.data_deltalog.specs.Contents.{LogParts, wanted, lacks_delta, IsMadeOf, AreDeltasFor}
use Rattle.data_deltalog.specs.Images.{IsKeptOf, StandsForLog}
use Rattle.data_deltalog.proofs.Records.{get_last}
use Rattle.data_deltalog.proofs.InOrder.{AreKeptFrom, combined_all, delta_of_all, none_lacking, item_at}
use Rattle.data_deltalog.proofs.Answering.{wanted_length, wanted_kept}

module _ {Op : Type 0} where
  -- pasts that are all below a number
  joined_most : (rs : List (Record Op)) (v : VersionVector) (i most : ℕ) → v i ≤ most → ((k : ℕ) (r : Record Op) → slice_get rs k ≡ Some r → r.past i ≤ most) → fold joined_past v rs i ≤ most
  joined_most [] v i most h each = h
  joined_most (r ∷ rs) v i most h each = joined_most rs (joined_past v r) i most (let a = each 0 r refl in omega arith) (λ k. each (suc k))

module _ {Kind Delta Op : Type 0} (IsDeltaOf : Delta → History Op → ℕ → ℕ → ℕ → Type 0) (combined : Delta → Delta → Delta) (parts : LogParts Kind Delta) (log : History Op) (entry : Entry Op)
    (stands : StandsForLog IsDeltaOf parts log entry) (after : ℕ) (some : after < parts.last) (kept : parts.last ≤ after + length parts.records) where
  -- WHAT A TAKER NEEDS

  more : after < at entry.history parts.origin
  more = subst (λ n. after < n) stands.last some

  -- the past of the last record holds the pasts of those before it
  last_past : (i : ℕ) → fold joined_past none_counted (drop after (entry.history parts.origin)) i ≡ past_of log parts.origin (at entry.history parts.origin - 1) i
  last_past i =
      let n : ℕ = at entry.history parts.origin in
      let m = more in
      let here : HasRecord entry.history parts.origin (n - 1) (record_at log parts.origin (n - 1)) = record_at_part log entry.history stands.taken.part parts.origin (n - 1) (omega arith) in
      let there : HasRecord log parts.origin (n - 1) (record_at log parts.origin (n - 1)) = in_whole entry.history log stands.taken.part parts.origin (n - 1) (record_at log parts.origin (n - 1)) here in
      let numbered : past_of log parts.origin (n - 1) parts.origin ≡ n - 1 = stands.histories.numbered parts.origin (n - 1) (record_at log parts.origin (n - 1)) there in
      let low = past_in_join (drop after (entry.history parts.origin)) none_counted (n - 1 - after) (record_at log parts.origin (n - 1)) i
      (slice_get-dropped (entry.history parts.origin) after (n - 1 - after) ∙ (let place : after + (n - 1 - after) ≡ n - 1 = omega arith in ap (slice_get (entry.history parts.origin)) place ∙ here)) in
      let high = joined_most (drop after (entry.history parts.origin)) none_counted i (past_of log parts.origin (n - 1) i) (omega arith)
      (λ k r has.
      let old : HasRecord entry.history parts.origin (after + k) r = sym (slice_get-dropped (entry.history parts.origin) after k) ∙ has in
      let below = slice_get-below (entry.history parts.origin) r (after + k) old in
      elim (cases_lt (after + k) (n - 1)) [
        | inl earlier ↦ stands.histories.transitive parts.origin (n - 1) parts.origin (after + k) (record_at log parts.origin (n - 1)) r there (in_whole entry.history log stands.taken.part parts.origin (after + k) r old) (omega (arith, numbered)) i
        | inr last ↦
            let place : after + k ≡ n - 1 = omega arith in
            let same : record_at log parts.origin (n - 1) ≡ r = sym (ap (record_at log parts.origin) place) ∙ part_record_at log entry.history stands.taken.part parts.origin (after + k) r old in
            let e = ap (λ (x : Record Op). x.past i) same in omega (arith, e)
      ]) in
      omega (arith, low, high)

  needed : (group : GroupParts Delta) → IsMadeOf combined parts after group → (i : ℕ) → number_at group.needed i ≡ needs (group_after entry parts.origin after) i
  needed group made i =
      let rest : VersionVector = fold joined_past none_counted (drop after (entry.history parts.origin)) in
      let place : parts.last - 1 ≡ at entry.history parts.origin - 1 = ap (λ n. n - 1) stands.last in
      made.needed i ∙ elim (cases_eq i parts.origin) [
        | inl is ↦ with_at_is (number_at parts.before) parts.origin after i is ∙ sym (with_at_is rest parts.origin after i is)
        | inr isnt ↦
            with_at_other (number_at parts.before) parts.origin after i isnt ∙ stands.before (omega arith) i isnt ∙ ap (λ n. past_of log parts.origin n i) place
            ∙ sym (last_past i) ∙ sym (with_at_other rest parts.origin after i isnt)
      ]

  -- THE GROUP

  of_log : IsGroupOf log (group_after entry parts.origin after)
  of_log = record {
    within = part-le entry.history log stands.taken.part parts.origin;
    some = more;
    these = ap (drop after) (stands.taken.part parts.origin);
  }

  operations : (group : GroupParts Delta) → IsMadeOf combined parts after group → AreOperations log parts.origin after (at entry.history parts.origin)
  operations group made = record {
    none = λ index removed low high prune.
        let k : ℕ = index - after in
        let place : after + (index - after) ≡ index = omega arith in
        let long = wanted_length IsDeltaOf parts log entry stands after kept in
        let own = item_at (wanted parts after) (index - after) (let l = stands.last in omega (arith, long)) in
        let has_delta : lacks_delta own.0 ≡ false = none_lacking lacks_delta (wanted parts after) (combined_all combined (wanted parts after) group.changes made.changes) (index - after) own.0 own.1 in
        let placeholder : lacks_delta own.0 ≡ is_prune (action_of log parts.origin index) = (subst (IsKeptOf IsDeltaOf own.0 log parts.origin) place (wanted_kept IsDeltaOf parts log entry stands after some kept (index - after) own.0 own.1)).placeholder in
        let e : true ≡ false = sym (placeholder ∙ ap is_prune prune) ∙ has_delta in
        cc e;
  }

  pub stands_for_group : (IsOfOrigin : Delta → ℕ → Type 0) (fits : Kind → Delta → Bool) → AreDeltasFor IsOfOrigin fits parts.kind parts.origin parts.records
      → ((first later : Delta) → fits parts.kind first ≡ true → fits parts.kind later ≡ true → fits parts.kind (combined first later) ≡ true)
      → ((first later : Delta) (after mid to : ℕ) → fits parts.kind first ≡ true → fits parts.kind later ≡ true → IsDeltaOf first log parts.origin after mid → IsDeltaOf later log parts.origin mid to → IsDeltaOf (combined first later) log parts.origin after to)
      → (group : GroupParts Delta) → IsMadeOf combined parts after group → StandsForGroup IsDeltaOf group log (group_after entry parts.origin after)
  stands_for_group IsOfOrigin fits deltas keeps follows group made =
      let in_row : AreKeptFrom IsDeltaOf fits parts.kind log parts.origin after (wanted parts after) = record {
        image = wanted_kept IsDeltaOf parts log entry stands after some kept;
        fit = λ k own delta has is. (deltas.each _ own (sym (get_last (parts.last - after) parts.records k) ∙ has)).of_kind delta is;
      } in
      let upto : after + length (wanted parts after) ≡ at entry.history parts.origin = (let long = wanted_length IsDeltaOf parts log entry stands after kept in let l = stands.last in omega (arith, long)) in
      record {
        origin = made.origin;
        after = made.from;
        upto = made.upto ∙ stands.last;
        of_log = of_log;
        operations = operations group made;
        changes = subst (IsDeltaOf group.changes log parts.origin after) upto (delta_of_all IsDeltaOf fits parts.kind log parts.origin combined keeps follows (wanted parts after) group.changes after in_row made.changes);
        needed = needed group made;
      }
