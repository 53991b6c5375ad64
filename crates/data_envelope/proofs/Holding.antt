-- What the parts of an envelope hold after each change.
use Rattle.std.proofs.Common.{◌≡◌, ◌≢◌, ℕ, ◌+◌, ◌<◌, ◌≤◌, true, false, ◌||◌, Some, None, arith, refl, ap, sym, ◌∙◌, subst, ⊎_elim, inl, inr}
use Rattle.std.specs.FinMap as map
use Rattle.std.proofs.lemmas.Bool.{cases_eq, cases_lt, cases_Bool, or_cases}
use mathlib.Core.Bool.{or-true}
use Rattle.model_history.specs.Table.{identity_limit, with_at}
use Rattle.model_history.specs.Vector.{IdentitySet, VersionVector, join, united, with_member}
use Rattle.model_history.specs.History.{Action, History}
use Rattle.model_history.specs.History.Action.{Operation, Prune}
use Rattle.model_history.specs.Cuts.{AreOperations, HasExactPrunes, IsConsistentCut, IsNext, IsPrunedCut, Prunes, action_of, grown, past_of, without}
use Rattle.model_history.proofs.HistoryLaws.{with_at_other}
use Rattle.model_history.proofs.CutLaws.{HasExactPrunes-pruned, HasExactPrunes-updated, IsConsistentCut-empty, IsConsistentCut-grown, IsConsistentCut-join, new_or_old_prune, old_prune_of_update, prune_in_either, prune_stays, with_at-le, with_at_is, with_member_other, both_ways, same_removed, uncleaned}
use Rattle.base_vectors.specs.Vectors.{Numbers, number_at, raised, removed}
use Rattle.base_vectors.proofs.Laws.{number_at-empty}
use Rattle.data_markers.specs.declared.marker.Marker.TheVariants.{Performed}
use Rattle.data_markers.specs.Marks.{Marks, mark_of, is_performed, performed_in, merged_option, MergesTo}
use Rattle.data_markers.proofs.Laws.{mark_of-insert_same, mark_of-insert_other}
use Rattle.data_envelope.specs.Images.{Parts, Holds}
use Rattle.data_envelope.proofs.Numbers.{raised_numbers, removed_numbers}
use Rattle.data_envelope.proofs.Tests.{performed_insert, performed_merge, merged_performed, merged_into_performed, merged_same}

same_upto : (o a u o' a' u' : ℕ) → Some (Performed o a u) ≡ Some (Performed o' a' u') → u ≡ u'
same_upto o a u o' a' u' e = cc

pruned_by : {Op : Type 0} (r t : ℕ) (act : Action Op) → act ≡ Prune r → act ≡ Prune t → r ≡ t
pruned_by r t act p q = same_removed r t (sym p ∙ q)

module _ {State Op : Type 0} (D : State → History Op → VersionVector → IdentitySet → Type 0) where
  -- an identity whose prune is held has a performed mark
  pub gone_of_prune : (parts : Parts State) (log : History Op) (held : VersionVector) → Holds D parts log held → (r o k : ℕ) → Prunes log held r o k → performed_in parts.marks r ≡ true
  gone_of_prune parts log held s r o k p = ap is_performed (s.prunes r o k p)

  pub holds_updated : (value : State) (versions : Numbers) (marks : Marks) (value' : State) (versions' : Numbers) (log : History Op) (held : VersionVector) (id : ℕ) (op : Op)
      → Holds D (record { value = value; versions = versions; marks = marks }) log held → performed_in marks id ≡ false → IsNext log held id (Operation op)
      → D value' log (grown held id) (performed_in marks) → versions' ≡ raised versions id (held id + 1)
      → Holds D (record { value = value'; versions = versions'; marks = marks }) log (grown held id)
  holds_updated value versions marks value' versions' log held id op s kept_id n d e = record {
    cut = IsConsistentCut-grown log held id (Operation op) s.cut n;
    exact = HasExactPrunes-updated log held (performed_in marks) id op n kept_id (gone_of_prune _ log held s) s.exact;
    prunes = λ r o k p. s.prunes r o k (old_prune_of_update log held id op r o k n p);
    marked = λ r g. let old = s.marked r g in (old.0, old.1, prune_stays log held (grown held id) r old.0 old.1 (with_at-le held id (held id + 1) old.0 (omega arith)) old.2);
    state = d;
    numbers = raised_numbers versions versions' held (performed_in marks) id (held id + 1) s.cut.few n.member kept_id s.numbers (omega arith) e;
  }

  pub holds_pruned : (value : State) (versions : Numbers) (marks : Marks) (value' : State) (versions' : Numbers) (log : History Op) (held : VersionVector) (id removed_id : ℕ)
      → Holds D (record { value = value; versions = versions; marks = marks }) log held → performed_in marks id ≡ false → IsNext log held id (Prune removed_id)
      → removed_id ≢ id → performed_in marks removed_id ≡ false
      → D value' log (grown held id) (with_member (performed_in marks) removed_id) → versions' ≡ removed (raised versions id (held id + 1)) removed_id
      → Holds D (record { value = value'; versions = versions'; marks = map.insert marks removed_id (Performed id (held id + 1) (held removed_id)) }) log (grown held id)
  holds_pruned value versions marks value' versions' log held id removed_id s kept_id n ne stays d e =
      let next : Marks = map.insert marks removed_id (Performed id (held id + 1) (held removed_id)) in
      let gone : performed_in next ≡ with_member (performed_in marks) removed_id = λ j i. performed_insert marks removed_id id (held id + 1) (held removed_id) i j in
      let up : (o : ℕ) → held o ≤ grown held id o = λ o. with_at-le held id (held id + 1) o (omega arith) in
      let fresh : Prunes log (grown held id) removed_id id (held id) = record { within = (let x = with_at_is held id (held id + 1) id refl in omega arith); action = n.action } in
      let exact = HasExactPrunes-pruned log held (performed_in marks) id removed_id n kept_id (gone_of_prune _ log held s) stays ne s.exact in
      record {
        cut = IsConsistentCut-grown log held id (Prune removed_id) s.cut n;
        exact = exact;
        prunes = λ r o k p. ⊎_elim
            (λ (same : r ≡ removed_id).
            let found = exact.once removed_id o k id (held id) (subst (λ x. Prunes log (grown held id) x o k) same p) fresh in
            mark_of-insert_same marks removed_id r _ same
            ∙ ap (λ u. Some (Performed id (held id + 1) u)) (sym (n.past removed_id))
            ∙ ap (λ x. Some (Performed id (held id + 1) (past_of log id (held id) x))) (sym same)
            ∙ ap (λ y. Some (Performed id (y + 1) (past_of log id y r))) (sym found.1)
            ∙ ap (λ x. Some (Performed x (k + 1) (past_of log x k r))) (sym found.0))
            (λ (other : r ≢ removed_id). mark_of-insert_other marks removed_id r _ other ∙ ⊎_elim
            (λ (new : (o ≡ id) × (k ≡ held id)). absurd (other (pruned_by r removed_id _ (sym (ap (λ x. action_of log x k) new.0 ∙ ap (action_of log id) new.1) ∙ p.action) n.action)))
            (λ (old : Prunes log held r o k). s.prunes r o k old) (new_or_old_prune log held id r o k p)) (cases_eq r removed_id);
        marked = λ r g. ⊎_elim
            (λ (same : r ≡ removed_id). (id, held id, subst (λ x. Prunes log (grown held id) x id (held id)) (sym same) fresh))
            (λ (other : r ≢ removed_id). let old = s.marked r (sym (ap (λ f. f r) gone ∙ with_member_other (performed_in marks) removed_id r other) ∙ g) in
            (old.0, old.1, prune_stays log held (grown held id) r old.0 old.1 (up old.0) old.2)) (cases_eq r removed_id);
        state = subst (λ f. D value' log (grown held id) f) (sym gone) d;
        numbers = subst (λ f. (i : ℕ) → number_at versions' i ≡ without f (grown held id) i) (sym gone)
            (removed_numbers (raised versions id (held id + 1)) versions' (grown held id) (performed_in marks) removed_id
            (IsConsistentCut-grown log held id (Prune removed_id) s.cut n).few
            (raised_numbers versions _ held (performed_in marks) id (held id + 1) s.cut.few n.member kept_id s.numbers (omega arith) refl) e);
      }

  pub holds_empty : (value : State) (versions : Numbers) (marks : Marks) (log : History Op) (held : VersionVector) → ((i : ℕ) → held i ≡ 0) → versions ≡ map.empty → marks ≡ map.empty → ((gone : IdentitySet) → D value log held gone)
      → ((i : ℕ) → mark_of marks i ≡ None) → Holds D (record { value = value; versions = versions; marks = marks }) log held
  holds_empty value versions marks log held none v m d unmarked = record {
    cut = IsConsistentCut-empty log held none;
    exact = record {
      once = λ r o k o' k' p q. absurd (let z = none o in let w = p.within in omega arith);
      frozen = λ r o k p. absurd (let z = none o in let w = p.within in omega arith);
      other = λ r o k p. absurd (let z = none o in let w = p.within in omega arith);
    };
    prunes = λ r o k p. absurd (let z = none o in let w = p.within in omega arith);
    marked = λ r g. absurd (both_ways _ g (ap is_performed (unmarked r)));
    state = d _;
    numbers = λ i. ap (λ x. number_at x i) v ∙ number_at-empty i ∙ sym (uncleaned (performed_in marks) held i (ap is_performed (unmarked i)) ∙ none i);
  }

  pub holds_taken : (value : State) (versions : Numbers) (marks : Marks) (value' : State) (versions' : Numbers) (log : History Op) (held : VersionVector) (origin to : ℕ)
      → Holds D (record { value = value; versions = versions; marks = marks }) log held → IsConsistentCut log (with_at held origin to) → AreOperations log origin (held origin) to → held origin < to → performed_in marks origin ≡ false
      → D value' log (with_at held origin to) (performed_in marks) → versions' ≡ raised versions origin to
      → Holds D (record { value = value'; versions = versions'; marks = marks }) log (with_at held origin to)
  holds_taken value versions marks value' versions' log held origin to s h u l stays d e =
      let few : origin < identity_limit = ⊎_elim (λ (x : origin < identity_limit). x) (λ (x : identity_limit ≤ origin). absurd (let z : to ≡ 0 = sym (with_at_is held origin to origin refl) ∙ h.few origin x in omega arith)) (cases_lt origin identity_limit) in
      let old : (r o k : ℕ) → Prunes log (with_at held origin to) r o k → Prunes log held r o k = λ r o k p. ⊎_elim
      (λ (same : o ≡ origin). ⊎_elim (λ (x : k < held o). record { within = x; action = p.action })
      (λ (x : held o ≤ k). absurd (u.none k r (subst (λ y. held y ≤ k) same x) (subst (λ y. k < y) (with_at_is held origin to o same) p.within) (sym (ap (λ y. action_of log y k) same) ∙ p.action))) (cases_lt k (held o)))
      (λ (ne : o ≢ origin). record { within = subst (λ y. k < y) (with_at_other held origin to o ne) p.within; action = p.action }) (cases_eq o origin) in
      let up : (o : ℕ) → held o ≤ with_at held origin to o = λ o. with_at-le held origin to o (omega arith) in
      record {
        cut = h;
        exact = record {
          once = λ r o k o' k' p q. s.exact.once r o k o' k' (old r o k p) (old r o' k' q);
          frozen = λ r o k p. with_at_other held origin to r (λ same. both_ways _ (gone_of_prune _ log held s r o k (old r o k p)) (ap (performed_in marks) same ∙ stays)) ∙ s.exact.frozen r o k (old r o k p);
          other = λ r o k p. s.exact.other r o k (old r o k p);
        };
        prunes = λ r o k p. s.prunes r o k (old r o k p);
        marked = λ r g. let m = s.marked r g in (m.0, m.1, prune_stays log held (with_at held origin to) r m.0 m.1 (up m.0) m.2);
        state = d;
        numbers = raised_numbers versions versions' held (performed_in marks) origin to s.cut.few few stays s.numbers (omega arith) e;
      }

  pub holds_merged : (mine theirs : Parts State) (value : State) (versions : Numbers) (marks : Marks) (log : History Op) (held also : VersionVector)
      → Holds D mine log held → Holds D theirs log also → HasExactPrunes log (join held also) → MergesTo mine.marks theirs.marks marks
      → D value log (join held also) (performed_in marks) → ((i : ℕ) → number_at versions i ≡ without (performed_in marks) (join held also) i)
      → Holds D (record { value = value; versions = versions; marks = marks }) log (join held also)
  holds_merged mine theirs value versions marks log held also s t exact m d v =
      let either_is : (i : ℕ) → performed_in marks i ≡ united (performed_in mine.marks) (performed_in theirs.marks) i = performed_merge mine.marks theirs.marks marks m in
      let mine_in : (r o k : ℕ) → Prunes log held r o k → Prunes log (join held also) r o k = λ r o k p. prune_stays log held _ r o k (omega arith) p in
      let theirs_in : (r o k : ℕ) → Prunes log also r o k → Prunes log (join held also) r o k = λ r o k p. prune_stays log also _ r o k (omega arith) p in
      -- a performed mark is that of the one prune of the union
      let mark_here : (parts : Parts State) (part : VersionVector) → Holds D parts log part → ((r o k : ℕ) → Prunes log part r o k → Prunes log (join held also) r o k) → (r o k : ℕ) → Prunes log (join held also) r o k → performed_in parts.marks r ≡ true
      → mark_of parts.marks r ≡ Some (Performed o (k + 1) (past_of log o k r)) = λ parts part h stays r o k p g.
      let old = h.marked r g in
      let same = exact.once r old.0 old.1 o k (stays r old.0 old.1 old.2) p in
      h.prunes r old.0 old.1 old.2 ∙ ap (λ y. Some (Performed old.0 (y + 1) (past_of log old.0 y r))) same.1 ∙ ap (λ x. Some (Performed x (k + 1) (past_of log x k r))) same.0 in
      record {
        cut = IsConsistentCut-join log held also s.cut t.cut;
        exact = exact;
        prunes = λ r o k p. m r ∙ elim (cases_Bool (performed_in mine.marks r)) [
          | inl g ↦ elim (cases_Bool (performed_in theirs.marks r)) [
            | inl g' ↦ ap (λ x. merged_option x (mark_of theirs.marks r)) (mark_here mine held s mine_in r o k p g) ∙ ap (merged_option (Some (Performed o (k + 1) (past_of log o k r)))) (mark_here theirs also t theirs_in r o k p g')
                ∙ merged_same o (k + 1) (past_of log o k r)
            | inr n ↦ ap (λ x. merged_option x (mark_of theirs.marks r)) (mark_here mine held s mine_in r o k p g) ∙ merged_performed o (k + 1) (past_of log o k r) (mark_of theirs.marks r) n
          ]
          | inr n ↦ elim (cases_Bool (performed_in theirs.marks r)) [
            | inl g' ↦ ap (merged_option (mark_of mine.marks r)) (mark_here theirs also t theirs_in r o k p g') ∙ merged_into_performed (mark_of mine.marks r) o (k + 1) (past_of log o k r) n
            | inr n' ↦ absurd (⊎_elim (λ (a : Prunes log held r o k). both_ways _ (gone_of_prune mine log held s r o k a) n) (λ (b : Prunes log also r o k). both_ways _ (gone_of_prune theirs log also t r o k b) n') (prune_in_either log held also r o k p))
          ]
        ];
        marked = λ r g. ⊎_elim
            (λ (a : performed_in mine.marks r ≡ true). let old = s.marked r a in (old.0, old.1, mine_in r old.0 old.1 old.2))
            (λ (b : performed_in theirs.marks r ≡ true). let old = t.marked r b in (old.0, old.1, theirs_in r old.0 old.1 old.2)) (or_cases _ _ (sym (either_is r) ∙ g));
        state = d;
        numbers = v;
      }

  -- what a performed mark says that the removed identity had
  pub upto_held : (parts : Parts State) (log : History Op) (held : VersionVector) → Holds D parts log held → (id owner seq upto : ℕ) → mark_of parts.marks id ≡ Some (Performed owner seq upto) → upto ≡ held id
  upto_held parts log held s id owner seq upto e =
      let m = s.marked id (ap is_performed e) in
      same_upto owner seq upto m.0 (m.1 + 1) (past_of log m.0 m.1 id) (sym e ∙ s.prunes id m.0 m.1 m.2) ∙ sym (s.exact.frozen id m.0 m.1 m.2)

  -- the history with the identities that have a performed mark
  pub held_pruned : (parts : Parts State) (log : History Op) (held : VersionVector) → Holds D parts log held → IsPrunedCut log held (performed_in parts.marks)
  held_pruned parts log held s = record { cut = s.cut; exact = s.exact; pruned = record { all = gone_of_prune parts log held s; only = s.marked } }

  -- the join's history, with the identities that have a performed mark after a merge
  pub pruned_union : (mine theirs : Parts State) (marks : Marks) (log : History Op) (held also : VersionVector) → Holds D mine log held → Holds D theirs log also
      → HasExactPrunes log (join held also) → MergesTo mine.marks theirs.marks marks → IsPrunedCut log (join held also) (performed_in marks)
  pruned_union mine theirs marks log held also s t exact m =
      let either_is : (i : ℕ) → performed_in marks i ≡ united (performed_in mine.marks) (performed_in theirs.marks) i = performed_merge mine.marks theirs.marks marks m in
      record {
        cut = IsConsistentCut-join log held also s.cut t.cut;
        exact = exact;
        pruned = record {
          all = λ r o k p. either_is r ∙ ⊎_elim
              (λ (a : Prunes log held r o k). ap (λ b. b || performed_in theirs.marks r) (gone_of_prune mine log held s r o k a))
              (λ (b : Prunes log also r o k). ap (λ c. performed_in mine.marks r || c) (gone_of_prune theirs log also t r o k b) ∙ or-true (performed_in mine.marks r)) (prune_in_either log held also r o k p);
          only = λ r g. ⊎_elim
              (λ (a : performed_in mine.marks r ≡ true). let old = s.marked r a in (old.0, old.1, prune_stays log held _ r old.0 old.1 (omega arith) old.2))
              (λ (b : performed_in theirs.marks r ≡ true). let old = t.marked r b in (old.0, old.1, prune_stays log also _ r old.0 old.1 (omega arith) old.2)) (or_cases _ _ (sym (either_is r) ∙ g));
        };
      }
