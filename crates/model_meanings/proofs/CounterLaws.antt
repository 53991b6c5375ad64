-- The equation of a share.
use Rattle.std.proofs.Common.{◌≡◌, ℕ, ◌+◌, suc, ◌<◌, List, [], ◌∷◌, take, refl, sym, ap, ◌∙◌, arith, Some}
use Rattle.std.specs.Prelude.{slice_get, sum_by}
use Rattle.std.proofs.lemmas.List.Sums.{sum_by-cons}
use Rattle.model_history.specs.History.{Action, Record, History, HasRecord, IsHistory, IsExactlyPruned, cut}
use Rattle.model_history.specs.History.Action.{Operation, Prune}
use Rattle.model_history.proofs.HistoryLaws.{slice_get-below}
use Rattle.model_history.proofs.PartLaws.{cut_cut, take_whole}
use Rattle.model_meanings.specs.Counter.{brought, share}
use Rattle.model_history.proofs.PastLaws.{LooksAtPasts, by_past_equation, past_is_history}

pub plus_none : (a b : ℕ) → a + (0 + b) ≡ a + b
plus_none a b = omega arith

-- two sums that agree at each element
pub sum_by-same : {X : Type 0} (f g : X → ℕ) (xs : List X) → ((k : ℕ) (x : X) → slice_get xs k ≡ Some x → f x ≡ g x) → sum_by f xs ≡ sum_by g xs
sum_by-same f g [] same = refl
sum_by-same f g (x ∷ xs) same =
    let head = same 0 x refl in
    let rest = sum_by-same f g xs (λ k y h. same (suc k) y h) in
    sum_by-cons f x xs ∙ omega (arith) ∙ sym (sum_by-cons g x xs)

module _ {Op : Type 0} (amount : Op → ℕ) where
  brought_same : (f g : History Op → ℕ → ℕ) (H : History Op) (r : Record Op) (action : Action Op) → r.action ≡ action → ((i : ℕ) → f (cut H r.past) i ≡ g (cut H r.past) i) → brought amount f H r ≡ brought amount g H r
  brought_same f g H r (Operation op) e same = rw e refl
  brought_same f g H r (Prune removed) e same = rw e (same removed)

  share_looks : LooksAtPasts {Op = Op} {X = ℕ} {A = ℕ} (λ H i. Unit {0}) (λ share_before H i. sum_by (brought amount share_before H) (H i))
  share_looks f g H i belongs same =
      sum_by-same (brought amount f H) (brought amount g H) (H i) (λ k r has. brought_same f g H r r.action refl (λ j. same i k r has j tt))

  -- the share of an identity is what its records bring, where a prune brings the share in its past
  pub share_equation : (H : History Op) → IsHistory H → (i : ℕ) → share amount H i ≡ sum_by (brought amount (share amount) H) (H i)
  share_equation H history i = by_past_equation (λ H i. Unit {0}) 0 (λ share_before H i. sum_by (brought amount share_before H) (H i)) share_looks H history i tt

  -- WHERE PRUNES ARE EXACT

  abbrev pub brought_by : (f : ℕ → ℕ) → Action Op → ℕ
  brought_by f (Operation op) = amount op
  brought_by f (Prune r) = f r

  -- what an identity had at its prune is what it has in the whole history
  pub share_at_prune : (H : History Op) → IsHistory H → IsExactlyPruned H → (i k : ℕ) (p : Record Op) (r : ℕ) → HasRecord H i k p → p.action ≡ Prune r → share amount (cut H p.past) r ≡ share amount H r
  share_at_prune H history exact i k p r has prune =
      share_equation (cut H p.past) (past_is_history H history i k p has) r
      ∙ ap (sum_by (brought amount (share amount) (cut H p.past))) whole
      ∙ sum_by-same (brought amount (share amount) (cut H p.past)) (brought amount (share amount) H) (H r) (λ m s in_r. same_brought m s in_r s.action refl)
      ∙ sym (share_equation H history r)
    where
      whole : cut H p.past r ≡ H r
      whole = ap (λ n. take n (H r)) (sym (exact.nothing_more i k p r has prune)) ∙ take_whole (H r)

      same_brought : (m : ℕ) (s : Record Op) → HasRecord H r m s → (action : Action Op) → s.action ≡ action → brought amount (share amount) (cut H p.past) s ≡ brought amount (share amount) H s
      same_brought m s in_r (Operation op) e = rw e refl
      same_brought m s in_r (Prune q) e =
          let before : m < p.past r = (let b = slice_get-below (H r) s m in_r in let n = exact.nothing_more i k p r has prune in omega arith) in
          rw e (ap (λ J. share amount J q) (cut_cut H p.past s.past (history.transitive i k r m p s has in_r before)))

  -- so a share is the own amounts, and the shares of the identities that it pruned
  pub share_flat : (H : History Op) → IsHistory H → IsExactlyPruned H → (i : ℕ) → share amount H i ≡ sum_by (λ (s : Record Op). brought_by (share amount H) s.action) (H i)
  share_flat H history exact i =
      share_equation H history i ∙ sum_by-same (brought amount (share amount) H) (λ (s : Record Op). brought_by (share amount H) s.action) (H i) (λ k s has. flat k s has s.action refl)
    where
      flat : (k : ℕ) (s : Record Op) → HasRecord H i k s → (action : Action Op) → s.action ≡ action → brought amount (share amount) H s ≡ brought_by (share amount H) s.action
      flat k s has (Operation op) e = rw e refl
      flat k s has (Prune r) e = rw e (share_at_prune H history exact i k s r has e)
