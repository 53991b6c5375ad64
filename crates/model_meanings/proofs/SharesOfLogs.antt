-- A share as a relation is determined, never falls, and is the share that the history has.
use Rattle.std.proofs.Common.{◌≡◌, ◌≢◌, ℕ, zero, suc, ◌+◌, ◌<◌, ◌≤◌, List, [], ◌∷◌, ◌++◌, take, refl, sym, ◌∙◌, ap, subst, arith, ⊎_elim, Some}
use Rattle.std.proofs.lemmas.Bool.{cases_eq}
use Rattle.std.proofs.lemmas.List.Sums.{sum_by-append}
use Rattle.std.specs.Prelude.{slice_get, sum_by}
use Rattle.model_history.proofs.CutLaws.{same_removed, not_update}
use Rattle.model_history.specs.Vector.{VersionVector}
use Rattle.model_history.specs.History.{Action, Record, History, at, cut}
use Rattle.model_history.specs.History.Action.{Operation, Prune}
use Rattle.model_history.specs.Cuts.{record_at, action_of, past_of, IsConsistentCut}
use Rattle.model_history.proofs.PartLaws.{cut_cut}
use Rattle.model_history.proofs.Bridge.{has_record_at, cut_is_history, past_cut}
use Rattle.model_meanings.specs.Counter.{brought, share}
use Rattle.model_meanings.specs.Shares.{HasShare, nothing, counted, taken}
use Rattle.model_meanings.proofs.CounterLaws.{plus_none, share_equation}

same_op : {Op : Type 0} (a b : Op) → ◌≡◌ {A = Action Op} (Operation a) (Operation b) → a ≡ b
same_op a b e = cc

module _ {Op : Type 0} (amount : Op → ℕ) where
  pub none_of : (log : History Op) (i n s : ℕ) → HasShare amount log i n s → n ≡ 0 → s ≡ 0
  none_of log i n s (nothing _ _ _ a b) z = b
  none_of log i n s (counted _ _ _ k u op a b e g) z = absurd (omega arith)
  none_of log i n s (taken _ _ _ k u r v a b e g h) z = absurd (omega arith)

  -- a share is determined
  pub once : (log : History Op) (i n s t : ℕ) → HasShare amount log i n s → HasShare amount log i n t → s ≡ t
  once log i n s t (nothing _ _ _ a b) (nothing _ _ _ c d) = b ∙ sym d
  once log i n s t (nothing _ _ _ a b) (counted _ _ _ k u op c d e g) = absurd (omega arith)
  once log i n s t (nothing _ _ _ a b) (taken _ _ _ k u r v c d e g h) = absurd (omega arith)
  once log i n s t (counted _ _ _ k u op a b e g) (nothing _ _ _ c d) = absurd (omega arith)
  once log i n s t (counted _ _ _ k u op a b e g) (counted _ _ _ k' u' op' a' b' e' g') =
      let same : k' ≡ k = omega arith in
      let ops : op ≡ op' = same_op op op' (sym e ∙ ap (action_of log i) (sym same) ∙ e') in
      let before : u ≡ u' = once log i k u u' g (subst (λ j. HasShare amount log i j u') same g') in
      b ∙ ap (λ x. x + amount op) before ∙ ap (λ (o : Op). u' + amount o) ops ∙ sym b'
  once log i n s t (counted _ _ _ k u op a b e g) (taken _ _ _ k' u' r v a' b' e' g' h') =
      let same : k' ≡ k = omega arith in
      absurd (not_update op r (sym e ∙ ap (action_of log i) (sym same) ∙ e'))
  once log i n s t (taken _ _ _ k u r v a b e g h) (nothing _ _ _ c d) = absurd (omega arith)
  once log i n s t (taken _ _ _ k u r v a b e g h) (counted _ _ _ k' u' op a' b' e' g') =
      let same : k' ≡ k = omega arith in
      absurd (not_update op r (sym e' ∙ ap (action_of log i) same ∙ e))
  once log i n s t (taken _ _ _ k u r v a b e g h) (taken _ _ _ k' u' r' v' a' b' e' g' h') =
      let same : k' ≡ k = omega arith in
      let gone : r' ≡ r = same_removed r' r (sym e' ∙ ap (action_of log i) same ∙ e) in
      let before : u ≡ u' = once log i k u u' g (subst (λ j. HasShare amount log i j u') same g') in
      let over : v ≡ v' = once log r (past_of log i k r) v v' h (subst (λ j. HasShare amount log r (past_of log i j r) v') same (subst (λ q. HasShare amount log q (past_of log i k' q) v') gone h')) in
      b ∙ ap (λ x. x + v) before ∙ ap (λ x. u' + x) over ∙ sym b'

  -- a share never falls
  pub rises : (log : History Op) (i n m s t : ℕ) → HasShare amount log i m t → HasShare amount log i n s → n ≤ m → s ≤ t
  rises log i n m s t (nothing _ _ _ a b) d l = let z : s ≡ 0 = none_of log i n s d (omega arith) in omega arith
  rises log i n m s t (counted _ _ _ k u op a b e g) d l = ⊎_elim
      (λ (same : n ≡ m). let x : s ≡ t = once log i m s t (subst (λ j. HasShare amount log i j s) same d) (counted i m t k u op a b e g) in omega arith)
      (λ (ne : n ≢ m). let x : s ≤ u = rises log i n k s u g d (omega arith) in omega arith) (cases_eq n m)
  rises log i n m s t (taken _ _ _ k u r v a b e g h) d l = ⊎_elim
      (λ (same : n ≡ m). let x : s ≡ t = once log i m s t (subst (λ j. HasShare amount log i j s) same d) (taken i m t k u r v a b e g h) in omega arith)
      (λ (ne : n ≢ m). let x : s ≤ u = rises log i n k s u g d (omega arith) in omega arith) (cases_eq n m)

  -- THE SHARE THAT THE HISTORY HAS

  take_more : (xs : List (Record Op)) (k : ℕ) (r : Record Op) → slice_get xs k ≡ Some r → take (k + 1) xs ≡ take k xs ++ r ∷ []
  take_more [] k r e = absurd (cc e)
  take_more (x ∷ xs) zero r e = let same : x ≡ r = cc e in ap (λ y. y ∷ []) same
  take_more (x ∷ xs) (suc k) r e = let n : suc k + 1 ≡ suc (k + 1) = omega arith in rw n (ap (λ ys. x ∷ ys) (take_more xs k r e))

  brings : (f : History Op → ℕ → ℕ) (H : History Op) (r : Record Op) (action : Action Op) → r.action ≡ action → brought amount f H r ≡ brought amount f H (record { action = action; past = r.past })
  brings f H r action e = rw e refl

  -- the sum of what the first records bring
  abbrev sum_first : History Op → VersionVector → ℕ → ℕ → ℕ
  sum_first log held i n = sum_by (brought amount (share amount) (cut log held)) (take n (log i))

  one_more : (log : History Op) (held : VersionVector) (i n k : ℕ) → n ≡ k + 1 → k < at log i
      → sum_first log held i n ≡ sum_first log held i k + brought amount (share amount) (cut log held) (record_at log i k)
  one_more log held i n k e l =
      ap (λ m. sum_first log held i m) e ∙ ap (sum_by (brought amount (share amount) (cut log held))) (take_more (log i) k (record_at log i k) (has_record_at log i k l))
      ∙ sum_by-append (brought amount (share amount) (cut log held)) (take k (log i)) (record_at log i k ∷ [])
      ∙ plus_none (sum_first log held i k) (brought amount (share amount) (cut log held) (record_at log i k))

  pub share_sums : (log : History Op) (held : VersionVector) (i n s : ℕ) → IsConsistentCut log held → n ≤ held i → HasShare amount log i n s → s ≡ sum_first log held i n
  share_sums log held i n s c l (nothing _ _ _ a b) = b ∙ sym (ap (λ m. sum_first log held i m) a)
  share_sums log held i n s c l (counted _ _ _ k u op a b e g) =
      let m = c.made i in
      let before = share_sums log held i k u c (omega arith) g in
      let more = one_more log held i n k a (omega arith) in
      let own : brought amount (share amount) (cut log held) (record_at log i k) ≡ amount op = brings (share amount) (cut log held) (record_at log i k) (Operation op) e in
      omega arith
  share_sums log held i n s c l (taken _ _ _ k u r v a b e g h) =
      let m = c.made i in
      let inside : k < held i = omega arith in
      let before = share_sums log held i k u c (omega arith) g in
      let more = one_more log held i n k a (omega arith) in
      let past = past_of log i k in
      let pasts : IsConsistentCut log past = past_cut log held i k c inside in
      let over = share_sums log past r (past r) v pasts (omega arith) h in
      let own : brought amount (share amount) (cut log held) (record_at log i k) ≡ v =
      brings (share amount) (cut log held) (record_at log i k) (Prune r) e ∙ ap (λ J. share amount J r) (cut_cut log held past (λ j. c.closed i k j inside))
      ∙ share_equation amount (cut log past) (cut_is_history log past pasts) r ∙ sym over in
      omega arith

  -- the relation is the share
  pub share_is : (log : History Op) (held : VersionVector) (i s : ℕ) → IsConsistentCut log held → HasShare amount log i (held i) s → s ≡ share amount (cut log held) i
  share_is log held i s c h = share_sums log held i (held i) s c (omega arith) h ∙ sym (share_equation amount (cut log held) (cut_is_history log held c) i)
