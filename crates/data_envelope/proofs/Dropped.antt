-- Dropping the identities with a performed mark, from 0 up.
use Rattle.std.proofs.Common.{◌≡◌, ◌≢◌, ℕ, ◌+◌, ◌<◌, ◌≤◌, Bool, true, false, ◌||◌, ◌&&◌, None, cond, nat_lt, rules, arith, refl, ap, sym, ◌∙◌, subst, ⊎_elim}
use Rattle.std.proofs.lemmas.Bool.{cases_eq, cases_lt}
use mathlib.Core.Bool.{or-true, or-false}
use Rattle.model_history.specs.Table.{identity_limit, with_at}
use Rattle.model_history.specs.Vector.{IdentitySet, VersionVector, united, with_member}
use Rattle.model_history.specs.History.{History}
use Rattle.model_history.specs.Cuts.{without}
use Rattle.model_history.proofs.HistoryLaws.{with_at_other}
use Rattle.model_history.proofs.CutLaws.{with_at_is, with_member_is, with_member_other}
use Rattle.base_vectors.specs.Vectors.{Numbers, number_at, removed, IsNormal}
use Rattle.base_vectors.proofs.Laws.{number_at-numbers_of, IsNormal-numbers_of, number_at_above}
use Rattle.data_markers.specs.Marks.{Marks, mark_of, is_performed, performed_in}

-- the test, below a limit
abbrev pub below : ℕ → (ℕ → Bool) → ℕ → Bool
below count test = λ i. nat_lt i count && test i

below_none : (test : ℕ → Bool) (i : ℕ) → below 0 test i ≡ false
below_none test i = let u : nat_lt i 0 ≡ false = grind rules in ap (λ b. b && test i) u

below_same : (test : ℕ → Bool) (n i : ℕ) → i ≡ n → below (n + 1) test i ≡ test i
below_same test n i e = let u : nat_lt i (n + 1) ≡ true = grind rules in ap (λ b. b && test i) u

below_apart : (test : ℕ → Bool) (n i : ℕ) → i ≢ n → below (n + 1) test i ≡ below n test i
below_apart test n i ne = ⊎_elim
    (λ (l : i < n). let u : nat_lt i (n + 1) ≡ true = grind rules in let v : nat_lt i n ≡ true = grind rules in ap (λ b. b && test i) (u ∙ sym v))
    (λ (l : n ≤ i). let u : nat_lt i (n + 1) ≡ false = grind rules in let v : nat_lt i n ≡ false = grind rules in ap (λ b. b && test i) (u ∙ sym v)) (cases_lt i n)

below_at : (test : ℕ → Bool) (n i : ℕ) → i ≡ n → below n test i ≡ false
below_at test n i e = let v : nat_lt i n ≡ false = grind rules in ap (λ b. b && test i) v

more_true : (gone test : ℕ → Bool) (n : ℕ) → test n ≡ true → with_member (united gone (below n test)) n ≡ united gone (below (n + 1) test)
more_true gone test n t = λ j i. same i j
  where
    same : (i : ℕ) → with_member (united gone (below n test)) n i ≡ united gone (below (n + 1) test) i
    same i = ⊎_elim
        (λ (e : i ≡ n). with_member_is (united gone (below n test)) n i e ∙ sym (ap (λ b. gone i || b) (below_same test n i e ∙ ap test e ∙ t) ∙ or-true (gone i)))
        (λ (ne : i ≢ n). with_member_other (united gone (below n test)) n i ne ∙ sym (ap (λ b. gone i || b) (below_apart test n i ne))) (cases_eq i n)

below_skip : (test : ℕ → Bool) (n : ℕ) → test n ≡ false → (i : ℕ) → below (n + 1) test i ≡ below n test i
below_skip test n t i = ⊎_elim (λ (e : i ≡ n). below_same test n i e ∙ ap test e ∙ t ∙ sym (below_at test n i e)) (λ (ne : i ≢ n). below_apart test n i ne) (cases_eq i n)

below_all : (test : ℕ → Bool) (n : ℕ) → ((i : ℕ) → n ≤ i → test i ≡ false) → (i : ℕ) → below n test i ≡ test i
below_all test n few i = ⊎_elim
    (λ (b : i < n). let u : nat_lt i n ≡ true = grind rules in ap (λ c. c && test i) u)
    (λ (a : n ≤ i). let u : nat_lt i n ≡ false = grind rules in ap (λ c. c && test i) u ∙ sym (few i a)) (cases_lt i n)

pub record IsDroppedBelow {State Op Kind : Type 0} (D : State → History Op → VersionVector → IdentitySet → Type 0) (kind_of : State → Kind) (mentioned : State → ℕ → Bool) (start value : State) (old versions : Numbers) (marks : Marks) (count : ℕ) : Type 0 where
  pub kind : kind_of value ≡ kind_of start
  pub state : (log : History Op) (held : VersionVector) (gone : IdentitySet) → D start log held gone → D value log held (united gone (below count (performed_in marks)))
  pub forgotten : (i : ℕ) → i < count → performed_in marks i ≡ true → mentioned value i ≡ false
  pub normal : IsNormal versions
  pub numbers : (i : ℕ) → i < identity_limit → number_at versions i ≡ cond (below count (performed_in marks) i) 0 (number_at old i)

module _ {State Op Kind : Type 0} (D : State → History Op → VersionVector → IdentitySet → Type 0) (kind_of : State → Kind) (mentioned : State → ℕ → Bool) where
  pub dropped_none : (start : State) (old : Numbers) (marks : Marks) → IsNormal old → IsDroppedBelow D kind_of mentioned start start old old marks 0
  dropped_none start old marks normal = record {
    kind = refl;
    state = λ log held gone d. subst (D start log held) (λ j i. sym (ap (λ b. gone i || b) (below_none (performed_in marks) i) ∙ or-false (gone i)) j) d;
    forgotten = λ i l p. absurd (omega arith);
    normal = normal;
    numbers = λ i l. sym (ap (λ b. cond b 0 (number_at old i)) (below_none (performed_in marks) i));
  }

  pub dropped_one : (start value value' : State) (old versions versions' : Numbers) (marks : Marks) (id : ℕ) → performed_in marks id ≡ true → kind_of value' ≡ kind_of value
      → ((log : History Op) (held : VersionVector) (gone : IdentitySet) → D value log held gone → D value' log held (with_member gone id)) → mentioned value' id ≡ false → ((i : ℕ) → mentioned value i ≡ false → mentioned value' i ≡ false) → versions' ≡ removed versions id
      → IsDroppedBelow D kind_of mentioned start value old versions marks id → IsDroppedBelow D kind_of mentioned start value' old versions' marks (id + 1)
  dropped_one start value value' old versions versions' marks id g k clean gone_now gone_still e h = record {
    kind = k ∙ h.kind;
    state = λ log held gone d. subst (D value' log held) (more_true gone (performed_in marks) id g) (clean log held _ (h.state log held gone d));
    forgotten = λ i l p. ⊎_elim (λ (same : i ≡ id). ap (mentioned value') same ∙ gone_now) (λ (ne : i ≢ id). gone_still i (h.forgotten i (omega arith) p)) (cases_eq i id);
    normal = subst IsNormal (sym e) (IsNormal-numbers_of _);
    numbers = λ i l. ap (λ m. number_at m i) e ∙ ⊎_elim
        (λ (same : i ≡ id). number_at-numbers_of (with_at (number_at versions) id 0) i l ∙ with_at_is (number_at versions) id 0 i same ∙ sym (ap (λ b. cond b 0 (number_at old i)) (below_same (performed_in marks) id i same ∙ ap (performed_in marks) same ∙ g)))
        (λ (ne : i ≢ id). number_at-numbers_of (with_at (number_at versions) id 0) i l ∙ with_at_other (number_at versions) id 0 i ne ∙ h.numbers i l ∙ sym (ap (λ b. cond b 0 (number_at old i)) (below_apart (performed_in marks) id i ne))) (cases_eq i id);
  }

  pub dropped_skip : (start value : State) (old versions : Numbers) (marks : Marks) (id : ℕ) → performed_in marks id ≡ false
      → IsDroppedBelow D kind_of mentioned start value old versions marks id → IsDroppedBelow D kind_of mentioned start value old versions marks (id + 1)
  dropped_skip start value old versions marks id g h = record {
    kind = h.kind;
    state = λ log held gone d. subst (D value log held) (λ j i. sym (ap (λ b. gone i || b) (below_skip (performed_in marks) id g i)) j) (h.state log held gone d);
    forgotten = λ i l p. ⊎_elim (λ (same : i ≡ id). absurd (let no : false ≡ true = sym g ∙ ap (performed_in marks) (sym same) ∙ p in cc)) (λ (ne : i ≢ id). h.forgotten i (omega arith) p) (cases_eq i id);
    normal = h.normal;
    numbers = λ i l. h.numbers i l ∙ sym (ap (λ b. cond b 0 (number_at old i)) (below_skip (performed_in marks) id g i));
  }

  pub dropped_state : (start value : State) (old versions : Numbers) (marks : Marks) (count : ℕ) → ((i : ℕ) → count ≤ i → mark_of marks i ≡ None) → IsDroppedBelow D kind_of mentioned start value old versions marks count
      → (log : History Op) (held : VersionVector) (gone : IdentitySet) → D start log held gone → D value log held (united gone (performed_in marks))
  dropped_state start value old versions marks count none h log held gone d =
      let all = below_all (performed_in marks) count (λ i l. ap is_performed (none i l)) in
      subst (D value log held) (λ j i. ap (λ b. gone i || b) (all i) j) (h.state log held gone d)

  pub dropped_forgotten : (start value : State) (old versions : Numbers) (marks : Marks) (count : ℕ) → ((i : ℕ) → count ≤ i → mark_of marks i ≡ None) → IsDroppedBelow D kind_of mentioned start value old versions marks count
      → (i : ℕ) → performed_in marks i ≡ true → mentioned value i ≡ false
  dropped_forgotten start value old versions marks count none h i p =
      ⊎_elim (λ (l : i < count). h.forgotten i l p) (λ (l : count ≤ i). absurd (let no : false ≡ true = sym (ap is_performed (none i l)) ∙ p in cc)) (cases_lt i count)

  pub dropped_numbers : (start value : State) (old versions : Numbers) (marks : Marks) (count : ℕ) → count ≤ identity_limit → ((i : ℕ) → count ≤ i → mark_of marks i ≡ None) → IsNormal old → IsDroppedBelow D kind_of mentioned start value old versions marks count
      → (i : ℕ) → number_at versions i ≡ without (performed_in marks) (number_at old) i
  dropped_numbers start value old versions marks count few none normal h i =
      let gone : (k : ℕ) → count ≤ k → performed_in marks k ≡ false = λ k l. ap is_performed (none k l) in
      ⊎_elim
      (λ (x : i < identity_limit). h.numbers i x ∙ ap (λ b. cond b 0 (number_at old i)) (below_all (performed_in marks) count gone i))
      (λ (x : identity_limit ≤ i). number_at_above versions h.normal i x ∙ sym (ap (λ b. cond b 0 (number_at old i)) (gone i (omega arith)) ∙ number_at_above old normal i x)) (cases_lt i identity_limit)
