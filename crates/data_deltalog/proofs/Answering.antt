-- Which answer a log gives, by its contents and by the entry.
use Rattle.std.proofs.Common.{◌≡◌, ℕ, ◌+◌, ◌-◌, ◌<◌, ◌≤◌, length, drop, List, refl, sym, ap, subst, ◌∙◌, arith, Bool, true, false, not, ◌&&◌, inl, inr, length-drop}
use Rattle.std.specs.Prelude.{nat_le, nat_lt, if◌then◌else◌, slice_get, Option, Some, ◌↔◌}
use Rattle.std.specs.List.{list_any}
use Rattle.std.proofs.lemmas.Bool.{cases_lt}
use Rattle.std.proofs.lemmas.Bool.Decides.{nat_tests}
use Rattle.model_history.specs.History.{Record, History, at}
use Rattle.model_history.proofs.PartLaws.{slice_get-dropped}
use Rattle.model_history.proofs.Bridge.{part_record_at}
use Rattle.model_members.specs.Entry.{Entry, is_prune}
use Rattle.model_members.specs.DataType.{Replication}
use Rattle.model_members.specs.Node.{Node, KeyState}
use Rattle.model_members.specs.Step.{is_behind, goes_as_group}
use Rattle.data_deltalog.specs.Answers.{Answer, most_kept, answer_for}
use Rattle.data_deltalog.specs.Answers.Answer.{Nothing, TooOld, NoDelta, AsGroup}
use Rattle.data_deltalog.specs.Contents.{LogParts, answer_by, wanted, lacks_delta}
use Rattle.data_deltalog.specs.Images.{IsKeptOf, StandsForLog}
use Rattle.data_deltalog.proofs.Records.{get_last}
use Rattle.data_deltalog.proofs.InOrder.{alike}

-- BY THE THREE TESTS

abbrev answer_of : Bool → Bool → Bool → Answer
answer_of none old lacking = if none then Nothing else (if old then TooOld else (if lacking then NoDelta else AsGroup))

module _ {Kind Delta : Type 0} (parts : LogParts Kind Delta) (after : ℕ) where
  pub answers_nothing : parts.last ≤ after → answer_by parts after ≡ Nothing
  answers_nothing h =
      let none : nat_le parts.last after ≡ true = grind (arith, nat_tests) in
      ap (λ b. answer_of b (nat_lt (after + length parts.records) parts.last) (list_any lacks_delta (wanted parts after))) none

  pub answers_too_old : after + length parts.records < parts.last → answer_by parts after ≡ TooOld
  answers_too_old h =
      let some : nat_le parts.last after ≡ false = grind (arith, nat_tests) in
      let old : nat_lt (after + length parts.records) parts.last ≡ true = grind (arith, nat_tests) in
      ap (λ b. answer_of b (nat_lt (after + length parts.records) parts.last) (list_any lacks_delta (wanted parts after))) some
      ∙ ap (λ b. answer_of false b (list_any lacks_delta (wanted parts after))) old

  answers_kept : (lacking : Bool) → after < parts.last → parts.last ≤ after + length parts.records → list_any lacks_delta (wanted parts after) ≡ lacking → answer_by parts after ≡ (if lacking then NoDelta else AsGroup)
  answers_kept lacking h kept is =
      let some : nat_le parts.last after ≡ false = grind (arith, nat_tests) in
      let here : nat_lt (after + length parts.records) parts.last ≡ false = grind (arith, nat_tests) in
      ap (λ b. answer_of b (nat_lt (after + length parts.records) parts.last) (list_any lacks_delta (wanted parts after))) some
      ∙ ap (λ b. answer_of false b (list_any lacks_delta (wanted parts after))) here
      ∙ ap (λ b. answer_of false false b) is

  pub answers_no_delta : after < parts.last → parts.last ≤ after + length parts.records → list_any lacks_delta (wanted parts after) ≡ true → answer_by parts after ≡ NoDelta
  answers_no_delta = answers_kept true

  pub answers_group : after < parts.last → parts.last ≤ after + length parts.records → list_any lacks_delta (wanted parts after) ≡ false → answer_by parts after ≡ AsGroup
  answers_group = answers_kept false

-- BY THE ENTRY

module _ {Op : Type 0} (entry : Entry Op) (origin after : ℕ) where
  abbrev rest : List (Record Op)
  rest = drop after (entry.history origin)

  abbrev pruned : Bool
  pruned = list_any (λ (r : Record Op). is_prune r.action) rest

  for_nothing : at entry.history origin ≤ after → answer_for entry origin after ≡ Nothing
  for_nothing h =
      let none : nat_le (at entry.history origin) after ≡ true = grind (arith, nat_tests) in
      ap (λ b. answer_of b (nat_lt most_kept (length rest)) pruned) none

  for_too_old : after < at entry.history origin → most_kept < length rest → answer_for entry origin after ≡ TooOld
  for_too_old h l =
      let some : nat_le (at entry.history origin) after ≡ false = grind (arith, nat_tests) in
      let old : nat_lt most_kept (length rest) ≡ true = grind (arith, nat_tests) in
      ap (λ b. answer_of b (nat_lt most_kept (length rest)) pruned) some ∙ ap (λ b. answer_of false b pruned) old

  for_kept : after < at entry.history origin → length rest ≤ most_kept → answer_for entry origin after ≡ answer_of false false pruned
  for_kept h l =
      let some : nat_le (at entry.history origin) after ≡ false = grind (arith, nat_tests) in
      let here : nat_lt most_kept (length rest) ≡ false = grind (arith, nat_tests) in
      ap (λ b. answer_of b (nat_lt most_kept (length rest)) pruned) some ∙ ap (λ b. answer_of false b pruned) here

module _ {Kind Delta Op : Type 0} (IsDeltaOf : Delta → History Op → ℕ → ℕ → ℕ → Type 0) (parts : LogParts Kind Delta) (log : History Op) (entry : Entry Op) (stands : StandsForLog IsDeltaOf parts log entry) (after : ℕ) where
  pub wanted_length : parts.last ≤ after + length parts.records → length (wanted parts after) ≡ parts.last - after
  wanted_length kept = length-drop (length parts.records - (parts.last - after)) parts.records ∙ omega arith

  -- what is kept of the records after the number
  pub wanted_kept : after < parts.last → parts.last ≤ after + length parts.records → (k : ℕ) (own : Option Delta) → slice_get (wanted parts after) k ≡ Some own → IsKeptOf IsDeltaOf own log parts.origin (after + k)
  wanted_kept some kept k own has =
      let place : parts.last - length parts.records + (length parts.records - (parts.last - after) + k) ≡ after + k = (let c = stands.count in omega arith) in
      subst (IsKeptOf IsDeltaOf own log parts.origin) place (stands.kept (length parts.records - (parts.last - after) + k) own (sym (get_last (parts.last - after) parts.records k) ∙ has))

  same_lacking : after < parts.last → parts.last ≤ after + length parts.records → list_any lacks_delta (wanted parts after) ≡ pruned entry parts.origin after
  same_lacking some kept = alike lacks_delta (λ (r : Record Op). is_prune r.action) (wanted parts after) (rest entry parts.origin after)
      (wanted_length kept ∙ ap (λ n. n - after) stands.last ∙ sym (length-drop after (entry.history parts.origin)))
      (λ k own r has has'.
      let here = sym (slice_get-dropped (entry.history parts.origin) after k) ∙ has' in
      (wanted_kept some kept k own has).placeholder ∙ ap (λ (x : Record Op). is_prune x.action) (part_record_at log entry.history stands.taken.part parts.origin (after + k) r here))

  -- the log answers what the entry calls for
  pub answers_for : answer_by parts after ≡ answer_for entry parts.origin after
  answers_for = elim (cases_lt after parts.last) [
    | inr none ↦ answers_nothing parts after none ∙ sym (for_nothing entry parts.origin after (subst (λ n. n ≤ after) stands.last none))
    | inl some ↦
        let more : after < at entry.history parts.origin = subst (λ n. after < n) stands.last some in
        let long : length (rest entry parts.origin after) ≡ parts.last - after = length-drop after (entry.history parts.origin) ∙ sym (ap (λ n. n - after) stands.last) in
        elim (cases_lt (after + length parts.records) parts.last) [
          | inl old ↦ answers_too_old parts after old ∙ sym (for_too_old entry parts.origin after more (let c = stands.count in omega arith))
          | inr kept ↦ answers_kept parts after _ some kept (same_lacking some kept) ∙ sym (for_kept entry parts.origin after more (let c = stands.count in omega arith))
        ]
  ]

-- BY THE MODEL'S FLUSH

as_group : (within lacking : Bool) → (answer_of false (not within) lacking ≡ AsGroup) ↔ ((within && not lacking) ≡ true)
as_group true true = (λ e. absurd (cc e), λ e. absurd (cc e))
as_group true false = (λ e. refl, λ e. refl)
as_group false lacking = (λ e. absurd (cc e), λ e. absurd (cc e))

longer : (n : ℕ) → nat_lt most_kept n ≡ not (nat_le n most_kept)
longer n = grind (arith, nat_tests)

module _ {Kind Op Shown : Type 0} (D : Replication Kind Op Shown) (node : Node Kind Op Shown) (peer : ℕ) (key : KeyState Kind Op) (origin after : ℕ)
    (keeps : D.log_length ≡ 50) (own : node.identity ≡ origin) (sent : node.flushed key.name peer ≡ after) (behind : is_behind D node peer key ≡ true) where
  pub goes_where : (answer : Answer) → answer ≡ answer_for key.entry origin after → (answer ≡ AsGroup) ↔ (goes_as_group D node peer key ≡ true)
  goes_where answer is =
      let low : node.flushed key.name peer < at key.entry.history node.identity = grind (arith, nat_tests) in
      let more : after < at key.entry.history origin = subst (λ n. n < at key.entry.history origin) sent (subst (λ i. node.flushed key.name peer < at key.entry.history i) own low) in
      let some : nat_le (at key.entry.history origin) after ≡ false = grind (arith, nat_tests) in
      let here : answer ≡ answer_of false (not (nat_le (length (rest key.entry origin after)) most_kept)) (pruned key.entry origin after) =
      is ∙ ap (λ b. answer_of b (nat_lt most_kept (length (rest key.entry origin after))) (pruned key.entry origin after)) some
      ∙ ap (λ b. answer_of false b (pruned key.entry origin after)) (longer (length (rest key.entry origin after))) in
      let there : goes_as_group D node peer key ≡ (nat_le (length (rest key.entry origin after)) most_kept && not (pruned key.entry origin after)) =
      λ i. nat_le (length (drop (sent i) (key.entry.history (own i)))) (keeps i) && not (list_any (λ (r : Record Op). is_prune r.action) (drop (sent i) (key.entry.history (own i)))) in
      let both = as_group (nat_le (length (rest key.entry origin after)) most_kept) (pruned key.entry origin after) in
      (λ e. there ∙ both.0 (sym here ∙ e), λ e. here ∙ both.1 (sym there ∙ e))
