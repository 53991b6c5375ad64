-- Numbers of records stay at most 2 ^ 62.
use Rattle.std.proofs.Common.{◌≡◌, ◌≢◌, ℕ, ◌<◌, ◌≤◌, ◌^◌, max, Result, Ok, Err, OnOk, OnErr, arith, sym, ◌∙◌, subst, ap, ⊎_elim}
use Rattle.std.specs.FinMap as map
use Rattle.std.proofs.lemmas.Bool.{cases_eq, cases_lt}
use Rattle.model_history.specs.Table.{identity_limit, with_at}
use Rattle.model_history.proofs.HistoryLaws.{with_at_other}
use Rattle.model_history.proofs.CutLaws.{with_at_is}
use Rattle.base_vectors.specs.Vectors.{Numbers, number_at, numbers_of, raised, joined, removed}
use Rattle.base_vectors.specs.Kept.{AreSeqs}
use Rattle.base_vectors.proofs.Laws.{empty-numbers_of, IsNormal-numbers_of, number_at-numbers_of, number_at-numbers_of_above}

pub seqs_of : (f : ℕ → ℕ) → ((i : ℕ) → i < identity_limit → f i ≤ 2 ^ 62) → AreSeqs (numbers_of f)
seqs_of f small = record {
  normal = IsNormal-numbers_of f;
  small = λ i. ⊎_elim (λ (l : i < identity_limit). subst (λ n. n ≤ 2 ^ 62) (sym (number_at-numbers_of f i l)) (small i l))
      (λ (l : identity_limit ≤ i). subst (λ n. n ≤ 2 ^ 62) (sym (number_at-numbers_of_above f i l)) (omega arith)) (cases_lt i identity_limit);
}

pub seqs_empty : (m : Numbers) → m ≡ map.empty → AreSeqs m
seqs_empty m e = subst AreSeqs (sym (e ∙ empty-numbers_of (λ i. 0) (λ i. ap (λ n. n) (λ _. 0)))) (seqs_of (λ i. 0) (λ i l. omega arith))

changed_at : (m : Numbers) (id to : ℕ) → AreSeqs m → to ≤ 2 ^ 62 → AreSeqs (numbers_of (with_at (number_at m) id to))
changed_at m id to p l = seqs_of (with_at (number_at m) id to) (λ i few. ⊎_elim
    (λ (e : i ≡ id). subst (λ n. n ≤ 2 ^ 62) (sym (with_at_is (number_at m) id to i e)) l)
    (λ (ne : i ≢ id). subst (λ n. n ≤ 2 ^ 62) (sym (with_at_other (number_at m) id to i ne)) (p.small i)) (cases_eq i id))

pub seqs_raised : (m : Numbers) (id to : ℕ) → to ≤ 2 ^ 62 → AreSeqs m → AreSeqs (raised m id to)
seqs_raised m id to l p = changed_at m id (max (number_at m id) to) p (let s = p.small id in omega arith)

pub seqs_removed : (m : Numbers) (id : ℕ) → AreSeqs m → AreSeqs (removed m id)
seqs_removed m id p = changed_at m id 0 p (omega arith)

pub seqs_joined : (m n : Numbers) → AreSeqs m → AreSeqs n → AreSeqs (joined m n)
seqs_joined m n p q = seqs_of (λ i. max (number_at m i) (number_at n i)) (λ i l. let s = p.small i in let t = q.small i in omega arith)

-- after a call that did its work or left all as it was
pub either_way : {X E : Type 0} (r : Result X E) (old new done : Numbers) → OnOk r (new ≡ done) → OnErr r (new ≡ old) → AreSeqs old → AreSeqs done → AreSeqs new
either_way (Ok x) old new done e _ p q = subst AreSeqs (sym e) q
either_way (Err x) old new done _ e p q = subst AreSeqs (sym e) p
