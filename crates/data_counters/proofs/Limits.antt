-- Amounts stay at most what one identity may hold.
use Rattle.std.proofs.Common.{◌≡◌, ◌≢◌, ℕ, ◌<◌, ◌≤◌, max, zero-le, Result, Ok, Err, OnOk, OnErr, arith, refl, sym, ◌∙◌, subst, ⊎_elim}
use Rattle.std.specs.FinMap as map
use Rattle.std.proofs.lemmas.Bool.{cases_eq, cases_lt}
use Rattle.model_history.specs.Table.{identity_limit, with_at}
use Rattle.model_history.proofs.HistoryLaws.{with_at_other}
use Rattle.model_history.proofs.CutLaws.{with_at_is}
use Rattle.model_meanings.specs.Refusal.{greatest_share}
use Rattle.base_vectors.specs.Vectors.{Numbers, number_at, numbers_of, raised, joined, removed}
use Rattle.base_vectors.proofs.Laws.{number_at-numbers_of, number_at-numbers_of_above, IsNormal-numbers_of, empty-numbers_of}
use Rattle.data_counters.specs.Kept.{AreAmounts}

max_within : (a b limit : ℕ) → a ≤ limit → b ≤ limit → max a b ≤ limit
max_within a b limit l m = omega arith

amounts_of : (f : ℕ → ℕ) → ((i : ℕ) → f i ≤ greatest_share) → AreAmounts (numbers_of f)
amounts_of f small = record {
  normal = IsNormal-numbers_of f;
  small = λ i. ⊎_elim (λ (l : i < identity_limit). subst (λ n. n ≤ greatest_share) (sym (number_at-numbers_of f i l)) (small i))
      (λ (l : identity_limit ≤ i). subst (λ n. n ≤ greatest_share) (sym (number_at-numbers_of_above f i l)) zero-le) (cases_lt i identity_limit);
}

changed_at : (m : Numbers) (id to : ℕ) → AreAmounts m → to ≤ greatest_share → AreAmounts (numbers_of (with_at (number_at m) id to))
changed_at m id to p l = amounts_of (with_at (number_at m) id to) (λ i. ⊎_elim
    (λ (e : i ≡ id). subst (λ n. n ≤ greatest_share) (sym (with_at_is (number_at m) id to i e)) l)
    (λ (ne : i ≢ id). subst (λ n. n ≤ greatest_share) (sym (with_at_other (number_at m) id to i ne)) (p.small i)) (cases_eq i id))

pub amounts_empty : (m : Numbers) → m ≡ map.empty → AreAmounts m
amounts_empty m e = subst AreAmounts (sym (e ∙ empty-numbers_of (λ i. 0) (λ i. refl))) (amounts_of (λ i. 0) (λ i. zero-le))

pub amounts_raised : (m : Numbers) (id to : ℕ) → to ≤ greatest_share → AreAmounts m → AreAmounts (raised m id to)
amounts_raised m id to l p = changed_at m id (max (number_at m id) to) p (max_within _ _ greatest_share (p.small id) l)

pub amounts_removed : (m : Numbers) (id : ℕ) → AreAmounts m → AreAmounts (removed m id)
amounts_removed m id p = changed_at m id 0 p zero-le

pub amounts_joined : (m n : Numbers) → AreAmounts m → AreAmounts n → AreAmounts (joined m n)
amounts_joined m n p q = amounts_of (λ i. max (number_at m i) (number_at n i)) (λ i. max_within _ _ greatest_share (p.small i) (q.small i))

-- after a call that did its work or left all as it was
pub either_way : {X E : Type 0} (r : Result X E) (old new done : Numbers) → OnOk r (new ≡ done) → OnErr r (new ≡ old) → AreAmounts old → AreAmounts done → AreAmounts new
either_way (Ok x) old new done e _ p q = subst AreAmounts (sym e) q
either_way (Err x) old new done _ e p q = subst AreAmounts (sym e) p
