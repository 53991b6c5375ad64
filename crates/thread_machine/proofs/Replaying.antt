-- A replay goes on with one entry more, and each entry of it is a step.
use Rattle.std.proofs.Common.{◌≡◌, ◌⊎◌, ℕ, zero, suc, ◌+◌, ◌<◌, ◌≤◌, if◌then◌else◌, Bool, true, false, List, [], ◌∷◌, ◌++◌, length, take, slice_get, Some, refl, ap, sym, ◌∙◌, subst, ⊎_elim, inl, inr, arith}
use Rattle.std.specs.Prelude.{count_by}
use Rattle.std.proofs.lemmas.List.Sums.{sum_by-append}
use Rattle.thread_machine.specs.declared.machine.Machine.{Ghosts}
use Rattle.thread_machine.specs.declared.entry.Entry.{Entry}
use Rattle.thread_machine.specs.Faults.{RoseBy, RoseAt, Stays}
use Rattle.thread_machine.specs.Replays.{Replays, is_failed, IsReplay, IsStepAt}
use Rattle.thread_machine.specs.Replays.Replays.{begins, refused, stepped}

module _ {A : Type 0} where
  -- an entry of a longer history is one of the history, or the new one
  pub get_pushed : (h : List A) (e : A) (i : ℕ) (x : A) → slice_get (h ++ e ∷ []) i ≡ Some x → ((slice_get h i ≡ Some x) × (i < length h)) ⊎ ((e ≡ x) × (i ≡ length h))
  get_pushed [] e zero x is = inr (cc, refl)
  get_pushed [] e (suc i) x is = absurd cc
  get_pushed (y ∷ h) e zero x is = inl (is, omega arith)
  get_pushed (y ∷ h) e (suc i) x is = ⊎_elim (λ t. inl (t.0, let l = t.1 in omega arith)) (λ t. inr (t.0, ap suc t.1)) (get_pushed h e i x is)

  take_pushed : (h : List A) (e : A) (i : ℕ) → i ≤ length h → take i (h ++ e ∷ []) ≡ take i h
  take_pushed [] e zero le = refl
  take_pushed [] e (suc i) le = absurd (omega arith)
  take_pushed (y ∷ h) e zero le = refl
  take_pushed (y ∷ h) e (suc i) le = ap (λ w. y ∷ w) (take_pushed h e i (omega arith))

  take_whole : (h : List A) (e : A) → take (length h) (h ++ e ∷ []) ≡ h
  take_whole [] e = refl
  take_whole (y ∷ h) e = ap (λ w. y ∷ w) (take_whole h e)

  count_by-push : (p : A → Bool) (h : List A) (e : A) → count_by p (h ++ e ∷ []) ≡ count_by p h + (if p e then 1 else 0)
  count_by-push p h e = let sum = sum_by-append (λ x. if p x then 1 else 0) h (e ∷ []) in omega arith

rose_more : (b : Bool) (n before middle after : ℕ) → RoseBy n before middle → RoseAt b middle after → RoseBy (n + (if b then 1 else 0)) before after
rose_more true n before middle after p q = omega arith
rose_more false n before middle after p q = omega arith

module _ {M I F O R : Type 0} (meaning : Ghosts M I F O R) where
  -- one entry more
  pub replay_more : (start now next : M) (h : List (Entry M I F O R)) (e : Entry M I F O R) → IsReplay meaning start h now
      → meaning.Steps now e.input e.fate e.output next → RoseAt (meaning.is_fault e.fate) (meaning.faults now) (meaning.faults next) → IsReplay meaning start (h ++ e ∷ []) next
  replay_more start now next h e replay steps fault = record {
    replays = stepped start now next h e replay.replays steps;
    faults = subst (λ n. RoseBy n (meaning.faults start) (meaning.faults next)) (sym (count_by-push (is_failed meaning) h e))
        (rose_more (meaning.is_fault e.fate) (count_by (is_failed meaning) h) (meaning.faults start) (meaning.faults now) (meaning.faults next) replay.faults fault);
  }

  -- a refusal
  pub replay_refused : (start now next : M) (h : List (Entry M I F O R)) → IsReplay meaning start h now → meaning.IsUnchanged now next → Stays (meaning.faults now) (meaning.faults next) → IsReplay meaning start h next
  replay_refused start now next h replay unchanged later = record { replays = refused start now next h replay.replays unchanged; faults = let r = replay.faults in omega arith }

  -- each entry is a step
  pub step_at : (start now : M) (h : List (Entry M I F O R)) (i : ℕ) (e : Entry M I F O R) → Replays meaning start h now → slice_get h i ≡ Some e → IsStepAt meaning start h i e
  step_at start now h i e (begins _) is = absurd cc
  step_at start now h i e (refused _ before _ _ replays _) is = step_at start before h i e replays is
  step_at start now _ i e (stepped _ before _ h last replays steps) is = ⊎_elim
      (λ (old : (slice_get h i ≡ Some e) × (i < length h)).
      let at = step_at start before h i e replays old.0 in
      record { before = at.before; after = at.after; replays = subst (λ w. Replays meaning start w at.before) (sym (take_pushed h last i (let l = old.1 in omega arith))) at.replays; steps = at.steps })
      (λ (new : (last ≡ e) × (i ≡ length h)).
      record {
        before = before;
        after = now;
        replays = subst (λ w. Replays meaning start w before) (sym (ap (λ (n : ℕ). take n (h ++ last ∷ [])) new.1 ∙ take_whole h last)) replays;
        steps = subst (λ (x : Entry M I F O R). meaning.Steps before x.input x.fate x.output now) new.0 steps;
      })
      (get_pushed h last i e is)
