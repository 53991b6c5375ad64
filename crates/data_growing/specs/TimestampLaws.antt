-- Timestamps of a log's records are those of its histories, and rise.
use Rattle.std.proofs.Common.{◌≡◌, ℕ, zero, suc, ◌+◌, ◌<◌, ◌≤◌, ◌⊎◌, max, List, [], ◌∷◌, Option, None, Some, map, refl, ap, sym, ◌∙◌, subst, arith, ⊎_elim, inl, inr}
use Rattle.std.specs.Prelude.{slice_get, fold}
use Rattle.std.proofs.lemmas.Bool.{cases_lt}
use Rattle.model_history.specs.Vector.{VersionVector}
use Rattle.model_history.specs.History.{Record, Stamped, History, cut, all_records}
use Rattle.model_history.specs.Cuts.{record_at, past_of, IsConsistentCut}
use Rattle.model_history.proofs.PartLaws.{cut_cut}
use Rattle.model_history.proofs.PruneLaws.{IsIn}
use Rattle.model_history.proofs.Bridge.{cut_is_history, past_cut, in_cut, of_cut}
use Rattle.model_meanings.specs.Growing.{Assignment, timestamp_after, found, timestamp, newest}
use Rattle.model_meanings.proofs.EquationsOfMeanings.{timestamp_equation}
use Rattle.data_growing.specs.RecordedLaws.{belongs, placed}
use Rattle.data_growing.specs.Timestamps.{assignment_at, timestamp_at}

-- THE GREATEST OF A LIST

above_base : (base : ℕ) (ns : List ℕ) → base ≤ fold max base ns
above_base base [] = omega arith
above_base base (n ∷ ns) = let h = above_base (max base n) ns in omega arith

above_each : {X : Type 0} (f : X → ℕ) (base : ℕ) (xs : List X) (k : ℕ) (x : X) → slice_get xs k ≡ Some x → f x ≤ fold max base (map f xs)
above_each f base [] k x at = absurd (cc at)
above_each f base (y ∷ xs) zero x at = let same : f y ≡ f x = (let e : y ≡ x = cc at in ap f e) in let h = above_base (max base (f y)) (map f xs) in omega arith
above_each f base (y ∷ xs) (suc k) x at = above_each f (max base (f y)) xs k x at

max_is : (a b : ℕ) → (max a b ≡ a) ⊎ (max a b ≡ b)
max_is a b = ⊎_elim (λ (l : a < b). inr (omega arith)) (λ (l : b ≤ a). inl (omega arith)) (cases_lt a b)

-- the greatest is the first or one of the list
one_of : {X : Type 0} (f : X → ℕ) (base : ℕ) (xs : List X) → (fold max base (map f xs) ≡ base) ⊎ ((x : X) × IsIn xs x × (f x ≡ fold max base (map f xs)))
one_of f base [] = inl refl
one_of f base (y ∷ xs) = ⊎_elim
    (λ (first : fold max (max base (f y)) (map f xs) ≡ max base (f y)). ⊎_elim
    (λ (e : max base (f y) ≡ base). inl (first ∙ e))
    (λ (e : max base (f y) ≡ f y). inr (y, (zero, refl), sym (first ∙ e))) (max_is base (f y)))
    (λ (later : (x : _) × IsIn xs x × (f x ≡ fold max (max base (f y)) (map f xs))). inr (later.0, (suc later.1.0, later.1.1), later.2))
    (one_of f (max base (f y)) xs)

module _ {Op : Type 0} (assigned : Op → Option Assignment) (log : History Op) where
  -- TIMESTAMPS OF A CUT

  -- a record of a cut has the log's timestamp
  pub timestamp_in : (held : VersionVector) → IsConsistentCut log held → (x : Stamped Op) → IsIn (all_records (cut log held)) x → (i k : ℕ) → k < held i → record_at log i k ≡ record { action = x.action; past = x.past }
      → timestamp assigned (cut log held) x ≡ timestamp_at assigned log i k
  timestamp_in held h x there i k inside same =
      timestamp_equation assigned (cut log held) (cut_is_history log held h) x there
      ∙ ap (λ (H : History Op). timestamp_after (newest assigned H) (found assigned x.action)) (
      ap (λ past. cut (cut log held) past) (sym (ap (λ (r : Record Op). r.past) same)) ∙ cut_cut log held (past_of log i k) (λ j. h.closed i k j inside))
      ∙ ap (λ (r : Record Op). timestamp_after (newest assigned (cut log (past_of log i k))) (found assigned r.action)) (sym same)

  -- no held record has a greater one than the newest
  pub newest_above : (held : VersionVector) → IsConsistentCut log held → (i k : ℕ) → k < held i → timestamp_at assigned log i k ≤ newest assigned (cut log held)
  newest_above held h i k inside =
      let few = h.made i in
      let r = record_at log i k in
      let b = belongs log held h i k r (in_cut log held i k inside (omega arith)) in
      let x : Stamped Op = record { origin = i; number = 1 + k; action = r.action; past = r.past } in
      let up = above_each (timestamp assigned (cut log held)) 0 (all_records (cut log held)) b.0 x b.1 in
      subst (λ n. n ≤ newest assigned (cut log held)) (timestamp_in held h x b i k inside refl) up

  -- and one of them has it, or there is none
  pub newest_is : (held : VersionVector) → IsConsistentCut log held → (newest assigned (cut log held) ≡ 0) ⊎ ((i : ℕ) × (k : ℕ) × (k < held i) × (timestamp_at assigned log i k ≡ newest assigned (cut log held)))
  newest_is held h = ⊎_elim
      (λ (none : newest assigned (cut log held) ≡ 0). inl none)
      (λ (some : (x : Stamped Op) × IsIn (all_records (cut log held)) x × (timestamp assigned (cut log held) x ≡ newest assigned (cut log held))).
      let p = placed log held some.0 some.1 in
      let same = (of_cut log held p.0 p.1 _ p.4).1 in
      inr (p.0, p.1, p.3, sym (timestamp_in held h some.0 some.1 p.0 p.1 p.3 same) ∙ some.2))
      (one_of (timestamp assigned (cut log held)) 0 (all_records (cut log held)))

  -- A WRITE'S TIMESTAMP

  pub stamped_none : (i k : ℕ) → assignment_at assigned log i k ≡ None → timestamp_at assigned log i k ≡ 0
  stamped_none i k e = ap (timestamp_after (newest assigned (cut log (past_of log i k)))) e

  pub stamped_some : (i k : ℕ) (a : Assignment) → assignment_at assigned log i k ≡ Some a → timestamp_at assigned log i k ≡ max a.now (newest assigned (cut log (past_of log i k)) + 1)
  stamped_some i k a e = ap (timestamp_after (newest assigned (cut log (past_of log i k)))) e

  -- a record with a timestamp is a write
  pub is_write : (i k : ℕ) → 0 < timestamp_at assigned log i k → (a : Assignment) × (assignment_at assigned log i k ≡ Some a)
  is_write i k above = go (assignment_at assigned log i k) refl
    where
      go : (o : Option Assignment) → assignment_at assigned log i k ≡ o → (a : Assignment) × (assignment_at assigned log i k ≡ Some a)
      go None e = absurd (let z = stamped_none i k e in omega arith)
      go (Some a) e = (a, e)

  -- a later write of an origin has a greater timestamp
  pub rising : (held : VersionVector) → IsConsistentCut log held → (i k m : ℕ) (a : Assignment) → k < m → m < held i → assignment_at assigned log i m ≡ Some a → timestamp_at assigned log i k < timestamp_at assigned log i m
  rising held h i k m a before inside writes =
      let own : past_of log i m i ≡ m = h.own i m inside in
      let up = newest_above (past_of log i m) (past_cut log held i m h inside) i k (omega arith) in
      let is = stamped_some i m a writes in
      omega arith

  -- so two writes of one origin and one timestamp are one
  pub same_index : (held : VersionVector) → IsConsistentCut log held → (i k m : ℕ) (a b : Assignment) → k < held i → m < held i → assignment_at assigned log i k ≡ Some a → assignment_at assigned log i m ≡ Some b
      → timestamp_at assigned log i k ≡ timestamp_at assigned log i m → k ≡ m
  same_index held h i k m a b inside inside_too writes writes_too same = ⊎_elim
      (λ (l : k < m). absurd (let r = rising held h i k m b l inside_too writes_too in omega arith))
      (λ (g : m ≤ k). ⊎_elim
      (λ (l : m < k). absurd (let r = rising held h i m k a l inside writes in omega arith))
      (λ (l : k ≤ m). omega arith) (cases_lt m k)) (cases_lt k m)
