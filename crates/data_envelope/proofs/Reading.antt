-- What an entry says of the parts that stand for it.
use Rattle.std.proofs.Common.{◌≡◌, ◌≢◌, ℕ, ◌+◌, ◌<◌, ◌≤◌, Bool, true, false, ◌&&◌, ◌↔◌, None, not, nat_eq, nat_lt, cond, arith, rules, refl, ap, sym, ◌∙◌, subst, ⊎_elim}
use Rattle.std.specs.FinMap as map
use Rattle.std.specs.Ordering.{nat_cmp}
use Rattle.std.specs.FinMap.{get-empty}
use Rattle.std.proofs.lemmas.Bool.{cases_eq, cases_lt, eq-eqb, eqb-true, and_parts}
use Rattle.model_history.specs.Table.{identity_limit, identities}
use Rattle.model_history.specs.Vector.{IdentitySet, VersionVector, Covers}
use Rattle.model_history.specs.History.{History, at, versions, is_pruned}
use Rattle.model_history.specs.Cuts.{without}
use Rattle.model_history.proofs.CutLaws.{uncleaned}
use Rattle.model_members.specs.Entry.{Entry, seen_by, seen_mark, is_same_mark, is_unchanged}
use Rattle.base_vectors.specs.Vectors.{Numbers, number_at, raised}
use Rattle.base_vectors.proofs.Laws.{number_at-empty, number_at-raised_same, number_at-raised_other, number_at-numbers_of_above}
use Rattle.base_vectors.proofs.Walks.{all_or_any, all_identities, each_identity}
use Rattle.data_markers.specs.Marks.{Marks, mark_of, begun, is_performed, performed_in, marker_seen_by, is_unseen_by, has_unseen_by}
use Rattle.data_markers.proofs.Meaning.{begun-seen, performed-seen, same_seen}
use Rattle.data_envelope.specs.Images.{Parts, StandsFor}
use Rattle.data_envelope.specs.Words.{is_unchanged_at}
use Rattle.data_envelope.proofs.Entries.{pruned_is}

-- a vector that has been filled below an identity
pub record IsFilledBelow (numbers : VersionVector) (known : Numbers) (count : ℕ) : Type 0 where
  pub below : (i : ℕ) → i < count → number_at known i ≡ numbers i
  pub above : (i : ℕ) → count ≤ i → number_at known i ≡ 0

pub filled_none : (numbers : VersionVector) (known : Numbers) → known ≡ map.empty → IsFilledBelow numbers known 0
filled_none numbers known e = record { below = λ i l. absurd (omega arith); above = λ i l. ap (λ m. number_at m i) e ∙ number_at-empty i }

pub filled_one : (numbers : VersionVector) (known next : Numbers) (id seq count : ℕ) → id ≡ count → count < identity_limit → seq ≡ numbers id → next ≡ raised known id seq → IsFilledBelow numbers known count → IsFilledBelow numbers next (count + 1)
filled_one numbers known next id seq count same few is e h =
    let apart : (i : ℕ) → i ≢ id → number_at next i ≡ number_at known i = λ i ne. ap (λ m. number_at m i) e ∙ ⊎_elim
    (λ (l : i < identity_limit). number_at-raised_other known id seq i l ne)
    (λ (l : identity_limit ≤ i). number_at-numbers_of_above _ i l ∙ sym (h.above i (omega arith))) (cases_lt i identity_limit) in
    record {
      below = λ i l. ⊎_elim
          (λ (here : i ≡ id). ap (λ m. number_at m i) e ∙ number_at-raised_same known id seq i (omega arith) here ∙ (let none : number_at known id ≡ 0 = h.above id (omega arith) in omega arith) ∙ is ∙ ap numbers (sym here))
          (λ (ne : i ≢ id). apart i ne ∙ h.below i (omega arith)) (cases_eq i id);
      above = λ i l. apart i (λ here. omega arith) ∙ h.above i (omega arith);
    }

pub filled_nothing : (numbers : VersionVector) (known : Numbers) (id count : ℕ) → id ≡ count → numbers id ≡ 0 → IsFilledBelow numbers known count → IsFilledBelow numbers known (count + 1)
filled_nothing numbers known id count same none h = record {
  below = λ i l. ⊎_elim (λ (here : i ≡ id). h.above i (omega arith) ∙ sym (ap numbers here ∙ none)) (λ (ne : i ≢ id). h.below i (omega arith)) (cases_eq i id);
  above = λ i l. h.above i (omega arith);
}

pub filled_all : (numbers : VersionVector) (known : Numbers) (count : ℕ) → ((i : ℕ) → count ≤ i → numbers i ≡ 0) → IsFilledBelow numbers known count → (i : ℕ) → number_at known i ≡ numbers i
filled_all numbers known count none h i = ⊎_elim (λ (b : i < count). h.below i b) (λ (a : count ≤ i). h.above i a ∙ sym (none i a)) (cases_lt i count)

kept_or_none : (b : Bool) (n : ℕ) → cond b 0 n ≤ n
kept_or_none true n = omega arith
kept_or_none false n = omega arith

pub second_is : (b c d : Bool) → b ≡ true → c ≡ d → (b && c) ≡ d
second_is true c d e f = f
second_is false c d e f = absurd (let x : false ≡ true = e in cc)

pub some_test : (n : ℕ) → 0 < n → nat_lt 0 n ≡ true
some_test n l = grind rules

pub none_test : (n : ℕ) → n ≤ 0 → nat_lt 0 n ≡ false
none_test n l = grind rules

same_bools : (b c : Bool) → (b ≡ true → c ≡ true) → (c ≡ true → b ≡ true) → b ≡ c
same_bools true c f g = sym (f refl)
same_bools false true f g = absurd (let x : false ≡ true = g refl in cc)
same_bools false false f g = refl

-- where no mark is, none was begun and none performed
pub unmarked : (marks : Marks) → marks ≡ map.empty → (i : ℕ) → mark_of marks i ≡ None
unmarked marks e i = ap (λ (m : Marks). mark_of m i) e ∙ get-empty nat_cmp i

module _ {State Op : Type 0} (D : State → History Op → VersionVector → IdentitySet → Type 0) where
  -- the identities with a performed mark are those that the history has a prune of
  pub pruned_at : (parts : Parts State) (log : History Op) (entry : Entry Op) → StandsFor D parts log entry → (r : ℕ) → performed_in parts.marks r ≡ is_pruned entry.history r
  pruned_at parts log entry s = pruned_is D parts log entry.history s.histories s.taken s.holds

  pub numbers_at : (parts : Parts State) (log : History Op) (entry : Entry Op) → StandsFor D parts log entry → (i : ℕ) → number_at parts.versions i ≡ without (is_pruned entry.history) (versions entry.history) i
  numbers_at parts log entry s i = s.holds.numbers i ∙ ap (λ b. cond b 0 (at entry.history i)) (pruned_at parts log entry s i)

  -- so there is room in the versions where there is room in the history
  pub numbers_within : (parts : Parts State) (log : History Op) (entry : Entry Op) → StandsFor D parts log entry → (i : ℕ) → number_at parts.versions i ≤ at entry.history i
  numbers_within parts log entry s i = subst (λ n. n ≤ at entry.history i) (sym (numbers_at parts log entry s i)) (kept_or_none (is_pruned entry.history i) (at entry.history i))

  pub none_above : (parts : Parts State) (log : History Op) (entry : Entry Op) → StandsFor D parts log entry → (i : ℕ) → identity_limit ≤ i → at entry.history i ≡ 0
  none_above parts log entry s = s.holds.cut.few

  -- an identity without a mark and without a number has no record
  pub uncounted : (parts : Parts State) (log : History Op) (entry : Entry Op) → StandsFor D parts log entry → (i : ℕ) → mark_of parts.marks i ≡ None → number_at parts.versions i ≡ 0 → at entry.history i ≡ 0
  uncounted parts log entry s i none zero = sym (uncleaned (performed_in parts.marks) (versions entry.history) i (ap is_performed none)) ∙ sym (s.holds.numbers i) ∙ zero

  -- without a mark the versions count each record
  pub all_counted : (parts : Parts State) (log : History Op) (entry : Entry Op) → StandsFor D parts log entry → ((i : ℕ) → mark_of parts.marks i ≡ None) → (i : ℕ) → number_at parts.versions i ≡ at entry.history i
  all_counted parts log entry s none i = s.holds.numbers i ∙ uncleaned (performed_in parts.marks) (versions entry.history) i (ap is_performed (none i))

  -- where neither has a mark, an entry is unchanged exactly where the versions are the same
  pub same_counts : (one two : Parts State) (log : History Op) (old new : Entry Op) (same : Bool) → StandsFor D one log old → StandsFor D two log new → ((i : ℕ) → mark_of one.marks i ≡ None) → ((i : ℕ) → mark_of two.marks i ≡ None)
      → (same ≡ true) ↔ ((i : ℕ) → number_at two.versions i ≡ number_at one.versions i) → same ≡ is_unchanged old new
  same_counts one two log old new same s t none none' is = same_bools same (is_unchanged old new)
      (λ e. all_identities (is_unchanged_at old new) (λ i l. second_is _ _ true (eq-eqb _ _ (sym (all_counted one log old s none i) ∙ sym (is.0 e i) ∙ all_counted two log new t none' i))
      (ap (λ m. is_same_mark m (new.marks i)) (s.marks i ∙ ap begun (none i)) ∙ ap (is_same_mark None) (t.marks i ∙ ap begun (none' i)))))
      (λ e. is.1 (λ i. all_counted two log new t none' i ∙ ⊎_elim
      (λ (l : i < identity_limit). sym (eqb-true (at old.history i) (at new.history i) (and_parts _ _ (each_identity (is_unchanged_at old new) e i l)).0))
      (λ (l : identity_limit ≤ i). none_above two log new t i l ∙ sym (none_above one log old s i l)) (cases_lt i identity_limit) ∙ sym (all_counted one log old s none i)))

  -- nor is there a change at an identity of which neither has a record or a mark
  pub unchanged_above : (one two : Parts State) (log : History Op) (old new : Entry Op) (i : ℕ) → StandsFor D one log old → StandsFor D two log new → mark_of one.marks i ≡ None → mark_of two.marks i ≡ None → at old.history i ≡ 0 → at new.history i ≡ 0
      → is_unchanged_at old new i ≡ true
  unchanged_above one two log old new i s t none none' zero zero' = second_is _ _ true (eq-eqb _ _ (zero ∙ sym zero'))
      (ap (λ m. is_same_mark m (new.marks i)) (s.marks i ∙ ap begun none) ∙ ap (is_same_mark None) (t.marks i ∙ ap begun none'))

  -- where neither has a mark, the versions tell whether the one has each record of the other
  pub covered_counts : (one two : Parts State) (log : History Op) (mine theirs : Entry Op) → StandsFor D one log mine → StandsFor D two log theirs → ((i : ℕ) → mark_of one.marks i ≡ None) → ((i : ℕ) → mark_of two.marks i ≡ None)
      → Covers (number_at one.versions) (number_at two.versions) ↔ Covers (versions mine.history) (versions theirs.history)
  covered_counts one two log mine theirs s t none none' = (
    λ covers i. rw (← (all_counted two log theirs t none' i), ← (all_counted one log mine s none i)) (covers i),
    λ covers i. rw (all_counted two log theirs t none' i, all_counted one log mine s none i) (covers i),
  )

  pub stands_seen : (old : Parts State) (marks : Marks) (log : History Op) (entry : Entry Op) (id view : ℕ) → StandsFor D old log entry → ((r : ℕ) → mark_of marks r ≡ marker_seen_by id view (mark_of old.marks r))
      → StandsFor D (record old { marks = marks }) log (seen_by id view entry)
  stands_seen old marks log entry id view s seen =
      let gone : (i : ℕ) → performed_in old.marks i ≡ performed_in marks i = λ i. sym (ap is_performed (seen i) ∙ performed-seen id view (mark_of old.marks i)) in
      record {
        histories = s.histories;
        taken = s.taken;
        holds = record {
          cut = s.holds.cut;
          exact = s.holds.exact;
          prunes = λ r o k p. seen r ∙ ap (marker_seen_by id view) (s.holds.prunes r o k p);
          marked = λ r g. s.holds.marked r (gone r ∙ g);
          state = subst (D old.value log (versions entry.history)) (λ j i. gone i j) s.holds.state;
          numbers = λ i. s.holds.numbers i ∙ ap (λ b. cond b 0 (at entry.history i)) (gone i);
        };
        marks = λ r. ap (seen_mark id view) (s.marks r) ∙ sym (begun-seen id view (mark_of old.marks r)) ∙ ap begun (sym (seen r));
      }

  pub changed_seen : (parts : Parts State) (log : History Op) (entry : Entry Op) (id view : ℕ) → id < identity_limit → StandsFor D parts log entry → is_unchanged entry (seen_by id view entry) ≡ not (has_unseen_by id view parts.marks)
  unfolding has_unseen_by
  changed_seen parts log entry id view l s = all_or_any _ (λ r. is_unseen_by id view (mark_of parts.marks r)) same identities
    where
      same : (r : ℕ) → (nat_eq (at entry.history r) (at entry.history r) && is_same_mark (entry.marks r) (seen_mark id view (entry.marks r))) ≡ not (is_unseen_by id view (mark_of parts.marks r))
      same r = second_is _ _ _ (eq-eqb (at entry.history r) (at entry.history r) refl) (ap (λ m. is_same_mark m (seen_mark id view m)) (s.marks r) ∙ same_seen id view (mark_of parts.marks r) l)
