-- What the list says of an element is what the history means: which records touch it, and whether it has a live adding record.
use Rattle.std.proofs.Common.{◌≡◌, ℕ, zero, suc, ◌<◌, List, length, map, Bool, true, false, ◌&&◌, not, None, Some, refl, ap, sym, ◌∙◌, subst, arith, lt_of_lt_of_le, le_of_suc-le-suc}
use Rattle.std.proofs.lemmas.List.{length-map, length-replicate}
use Rattle.std.specs.Prelude.{slice_get, ◌==◌}
use Rattle.std.specs.List.{list_any, zip}
use Rattle.model_history.specs.Texts.{Text}
use Rattle.model_history.specs.Vector.{VersionVector}
use Rattle.model_history.specs.History.{Action as Meant, Stamped, History, cut, size, all_records, precedes, IsHistory}
use Rattle.model_history.proofs.PartLaws.{cut_cut}
use Rattle.model_meanings.specs.ObservedRemove.{touches, touches_by, is_adding_by, is_live_by, is_live}
use Rattle.model_meanings.proofs.EquationsOfMeanings.{Belongs, touches_equation}
use Rattle.base_vectors.specs.Vectors.{Numbers, number_at}
use Rattle.model_kinds.specs.declared.operation.Op.{Op}
use Rattle.model_kinds.specs.SixKinds.{set_operations}
use Rattle.data_meaning.specs.declared.record.Action.{Action}
use Rattle.data_meaning.specs.declared.record.Action.TheVariants.{Operation, Prune}
use Rattle.data_meaning.specs.declared.record.Record.{Record}
use Rattle.data_meaning.specs.Records.{action_of, stamped}
use Rattle.data_meaning.specs.Touching as listed
use Rattle.data_meaning.specs.Touching.{Judged, touching, is_shown}
use Rattle.data_meaning.proofs.Walks.{any_same, list_any-filter, list_any-map, slice_get-map, beside_map, first_of_zip}
use Rattle.data_meaning.proofs.Pasts.{counted, records_of_past, length-all, IsEarlier, past_history, past_shorter, earlier, is_counted}

-- TESTS

both_orders : (t b : Bool) → ((t && true) && b) ≡ (b && t)
both_orders true true = refl
both_orders true false = refl
both_orders false true = refl
both_orders false false = refl

left_out : (t b : Bool) → ((t && false) && b) ≡ false
left_out true b = refl
left_out false b = refl

abbrev st : Judged → Stamped Op
st j = stamped j.0

module _ (e : Text) (H : History Op) (history : IsHistory H) where
  abbrev T : History Op → Stamped Op → Bool
  T = touches set_operations e

  -- the record's past has no say in what touches the element: it is the same in a history and in a past
  touches_in_past : (x : Stamped Op) → Belongs H x → (z : Stamped Op) → Belongs (cut H x.past) z → T (cut H x.past) z ≡ T H z
  touches_in_past x belongs z there =
      let z_is = earlier H history x belongs z there in
      touches_equation set_operations e (cut H x.past) (past_history H history x belongs) z there
      ∙ same z_is z.action
      ∙ sym (touches_equation set_operations e H history z z_is.belongs)
    where
      same : IsEarlier H x.past z → (action : Meant Op) → touches_by set_operations T e (cut H x.past) z.past action ≡ touches_by set_operations T e H z.past action
      same z_is (Meant.Operation op) = refl
      same z_is (Meant.Prune r) = ap (λ J. list_any (λ y. (y.origin == r) && is_live_by set_operations T e J y) (all_records J)) (cut_cut H x.past z.past z_is.covered)

  -- A LIST THAT IS RIGHT FOR SHORT PASTS

  pub record IsRight (all : List Judged) (depth : ℕ) : Type 0 where
    pub listed : map st all ≡ all_records H
    pub right : (k : ℕ) (j : Judged) → slice_get all k ≡ Some j → size (cut H (st j).past) < depth → j.1 ≡ T H (st j)

  module _ (all : List Judged) (depth : ℕ) (known : IsRight all depth) where
    listed_in : (k : ℕ) (j : Judged) → slice_get all k ≡ Some j → Belongs H (st j)
    listed_in k j at = (k, subst (λ xs. slice_get xs k ≡ Some (st j)) known.listed (slice_get-map st all k j at))

    -- a test of all records is one of the list
    any_listed : (p : Stamped Op → Bool) → list_any p (all_records H) ≡ list_any (λ j. p (st j)) all
    any_listed p = ap (list_any p) (sym known.listed) ∙ list_any-map st p all

    any_of_past : (past : VersionVector) (p : Stamped Op → Bool) → list_any p (all_records (cut H past)) ≡ list_any (λ j. counted past (st j) && p (st j)) all
    any_of_past past p = ap (list_any p) (records_of_past H past) ∙ list_any-filter p (counted past) (all_records H) ∙ any_listed (λ x. counted past x && p x)

    adding : (J : History Op) (j : Judged) → j.1 ≡ T J (st j) → (action : Action) → listed.is_adding e action j.1 ≡ is_adding_by set_operations T e J (st j) (action_of action)
    adding J j is (Operation op) = refl
    adding J j is (Prune r) = is

    -- IN A PAST

    module _ (x : Stamped Op) (belongs : Belongs H x) (short : size (cut H x.past) < suc depth) where
      -- the list is right of what the past counts
      right_in_past : (k : ℕ) (j : Judged) → slice_get all k ≡ Some j → counted x.past (st j) ≡ true → j.1 ≡ T (cut H x.past) (st j)
      right_in_past k j at counts =
          let there = is_counted H history x belongs (st j) (listed_in k j at) counts in
          let shorter = (earlier H history x belongs (st j) there).shorter in
          known.right k j at (lt_of_lt_of_le shorter (le_of_suc-le-suc short)) ∙ sym (touches_in_past x belongs (st j) there)

      live_in_past : (past : Numbers) → number_at past ≡ x.past → (k : ℕ) (j : Judged) → slice_get all k ≡ Some j → counted x.past (st j) ≡ true
          → listed.is_live all (Some past) e j.0 j.1 ≡ is_live_by set_operations T e (cut H x.past) (st j)
      live_in_past past same k j at counts =
          ap (λ b. b && not (listed.is_seen all (Some past) j.0)) (adding (cut H x.past) j (right_in_past k j at counts) j.0.action)
          ∙ ap (λ b. is_adding_by set_operations T e (cut H x.past) (st j) (st j).action && not b)
          (any_same (λ l. (l.1 && listed.is_before past l.0) && listed.is_before l.0.past j.0) (λ l. counted x.past (st l) && (precedes (st j) (st l) && T (cut H x.past) (st l))) all one
          ∙ sym (any_of_past x.past (λ z. precedes (st j) z && T (cut H x.past) z)))
        where
          by_test : (m : ℕ) (l : Judged) → slice_get all m ≡ Some l → (b : Bool) → counted x.past (st l) ≡ b
              → ((l.1 && b) && precedes (st j) (st l)) ≡ (b && (precedes (st j) (st l) && T (cut H x.past) (st l)))
          by_test m l here true is = both_orders l.1 (precedes (st j) (st l)) ∙ ap (λ b. precedes (st j) (st l) && b) (right_in_past m l here is)
          by_test m l here false is = left_out l.1 (precedes (st j) (st l))

          one : (m : ℕ) (l : Judged) → slice_get all m ≡ Some l
              → ((l.1 && listed.is_before past l.0) && listed.is_before l.0.past j.0) ≡ (counted x.past (st l) && (precedes (st j) (st l) && T (cut H x.past) (st l)))
          one m l here = ap (λ v. (l.1 && counted v (st l)) && precedes (st j) (st l)) same ∙ by_test m l here (counted x.past (st l)) refl

      had_live_in_past : (past : Numbers) → number_at past ≡ x.past → (removed : ℕ) → listed.had_live all past e removed ≡ touches_by set_operations T e H x.past (Meant.Prune removed)
      had_live_in_past past same removed =
          any_same (λ j. (listed.is_before past j.0 && (j.0.origin == removed)) && listed.is_live all (Some past) e j.0 j.1)
          (λ j. counted x.past (st j) && ((j.0.origin == removed) && is_live_by set_operations T e (cut H x.past) (st j))) all one
          ∙ sym (any_of_past x.past (λ y. (y.origin == removed) && is_live_by set_operations T e (cut H x.past) y))
        where
          third : (a b c : Bool) → ((a && b) && c) ≡ (a && (b && c))
          third true b c = refl
          third false b c = refl

          by_test : (k : ℕ) (j : Judged) → slice_get all k ≡ Some j → (b : Bool) → counted x.past (st j) ≡ b
              → (b && ((j.0.origin == removed) && listed.is_live all (Some past) e j.0 j.1)) ≡ (b && ((j.0.origin == removed) && is_live_by set_operations T e (cut H x.past) (st j)))
          by_test k j at true is = ap (λ b. (j.0.origin == removed) && b) (live_in_past past same k j at is)
          by_test k j at false is = refl

          one : (k : ℕ) (j : Judged) → slice_get all k ≡ Some j
              → ((listed.is_before past j.0 && (j.0.origin == removed)) && listed.is_live all (Some past) e j.0 j.1) ≡ (counted x.past (st j) && ((j.0.origin == removed) && is_live_by set_operations T e (cut H x.past) (st j)))
          one k j at = third (listed.is_before past j.0) (j.0.origin == removed) (listed.is_live all (Some past) e j.0 j.1)
              ∙ ap (λ v. counted v (st j) && ((j.0.origin == removed) && listed.is_live all (Some past) e j.0 j.1)) same
              ∙ by_test k j at (counted x.past (st j)) refl

    -- so one depth more is right
    touches_means : (r : Record) → Belongs H (stamped r) → size (cut H (stamped r).past) < suc depth → listed.touches_by all e r.past r.action ≡ T H (stamped r)
    touches_means r belongs short = by_action r.action ∙ sym (touches_equation set_operations e H history (stamped r) belongs)
      where
        by_action : (action : Action) → listed.touches_by all e r.past action ≡ touches_by set_operations T e H (stamped r).past (action_of action)
        by_action (Operation op) = refl
        by_action (Prune removed) = had_live_in_past (stamped r) belongs short r.past refl removed

    -- IN THE WHOLE HISTORY

    module _ (whole : (k : ℕ) (j : Judged) → slice_get all k ≡ Some j → j.1 ≡ T H (st j)) where
      live_in_whole : (k : ℕ) (j : Judged) → slice_get all k ≡ Some j → listed.is_live all None e j.0 j.1 ≡ is_live set_operations e H (st j)
      live_in_whole k j at =
          ap (λ b. b && not (listed.is_seen all None j.0)) (adding H j (whole k j at) j.0.action)
          ∙ ap (λ b. is_adding_by set_operations T e H (st j) (st j).action && not b)
          (any_same (λ l. (l.1 && true) && listed.is_before l.0.past j.0) (λ l. precedes (st j) (st l) && T H (st l)) all
          (λ m l here. both_orders l.1 (precedes (st j) (st l)) ∙ ap (λ b. precedes (st j) (st l) && b) (whole m l here))
          ∙ sym (any_listed (λ z. precedes (st j) z && T H z)))

      has_live_means : listed.has_live all e ≡ list_any (is_live set_operations e H) (all_records H)
      has_live_means = any_same (λ j. listed.is_live all None e j.0 j.1) (λ j. is_live set_operations e H (st j)) all live_in_whole ∙ sym (any_listed (is_live set_operations e H))

  -- EVERY DEPTH IS RIGHT FOR SHORTER PASTS

  module _ (records : List Record) (spelled : map stamped records ≡ all_records H) where
    length-touching : (depth : ℕ) → length (touching records e depth) ≡ length records
    length-touching zero = length-replicate (length records) false
    length-touching (suc depth) = length-map records (λ r. listed.touches_by (zip records (touching records e depth)) e r.past r.action)

    pub right_at : (depth : ℕ) → IsRight (zip records (touching records e depth)) depth
    right_at zero = record {
      listed = first_of_zip stamped records (touching records e zero) (length-touching zero) ∙ spelled;
      right = λ k j at short. absurd (omega arith);
    }
    right_at (suc depth) =
        let before = right_at depth in
        record {
          listed = first_of_zip stamped records (touching records e (suc depth)) (length-touching (suc depth)) ∙ spelled;
          right = λ k j at short.
              let is = beside_map (λ r. listed.touches_by (zip records (touching records e depth)) e r.past r.action) records k j at in
              let belongs : Belongs H (st j) = (k, subst (λ xs. slice_get xs k ≡ Some (st j)) spelled (slice_get-map stamped records k j.0 is.1)) in
              is.0 ∙ touches_means (zip records (touching records e depth)) depth before j.0 belongs short;
        }

    -- an element has a live adding record by the list exactly where it has one in the history
    pub is_shown_means : is_shown records e ≡ list_any (is_live set_operations e H) (all_records H)
    is_shown_means =
        let depth = length records in
        let all = zip records (touching records e depth) in
        let known = right_at depth in
        let long : depth ≡ size H = sym (length-map records stamped) ∙ ap length spelled ∙ length-all H in
        has_live_means all depth known (λ k j at.
        let shorter = past_shorter H history (st j) (k, subst (λ xs. slice_get xs k ≡ Some (st j)) known.listed (slice_get-map st all k j at)) in
        known.right k j at (subst (λ (n : ℕ). size (cut H (st j).past) < n) (sym long) shorter))
