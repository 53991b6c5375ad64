-- A script before each of its steps: its events are added to, and its lines are those of its steps.
use Rattle.std.proofs.Common.{◌≡◌, ℕ, zero, suc, ◌≤◌, List, [], ◌∷◌, refl, sym, ap, subst, arith, Some}
use Rattle.std.specs.Prelude.{take, slice_get}
use Rattle.std.specs.List.{AllByRecursion}
use Rattle.model_members.specs.DataType.{Replication}
use Rattle.model_members.specs.Script.{Playing, ScriptStep, IsStep, Told, played, played_all, lines_of}
use Rattle.model_history.proofs.HistoryLaws.{append_nothing}
use Rattle.theorem_runs.proofs.Playing.{Appends, all_append}

module _ {Kind Op Shown : Type 0} (D : Replication Kind Op Shown) where
  pub front_steps : (steps : List (ScriptStep Op)) (n : ℕ) → AllByRecursion IsStep steps → AllByRecursion IsStep (take n steps)
  front_steps [] zero ok = tt
  front_steps [] (suc n) ok = tt
  front_steps (s ∷ steps) zero ok = tt
  front_steps (s ∷ steps) (suc n) ok = (ok.0, front_steps steps n ok.1)

  -- the step of a number, and then no lines
  pub after_step_is : (p : Playing Kind Op Shown) (steps : List (ScriptStep Op)) (n : ℕ) (step : ScriptStep Op) → slice_get steps n ≡ Some step
      → played_all D p (take (suc n) steps) ≡ record (played D (played_all D p (take n steps)) step) { lines = [] }
  after_step_is p [] n step e = absurd (cc e)
  after_step_is p (s ∷ steps) zero step e = let same : s ≡ step = cc e in ap (λ (x : ScriptStep Op). record (played D p x) { lines = [] }) same
  after_step_is p (s ∷ steps) (suc n) step e = after_step_is (record (played D p s) { lines = [] }) steps n step e

  pub appends_between : (p : Playing Kind Op Shown) (steps : List (ScriptStep Op)) (a b : ℕ) → a ≤ b → AllByRecursion IsStep steps → Appends D (played_all D p (take a steps)).events (played_all D p (take b steps)).events
  appends_between p [] zero zero h ok = ([], sym (append_nothing p.events))
  appends_between p [] zero (suc b) h ok = ([], sym (append_nothing p.events))
  appends_between p [] (suc a) zero h ok = absurd (omega arith)
  appends_between p [] (suc a) (suc b) h ok = ([], sym (append_nothing p.events))
  appends_between p (s ∷ steps) zero b h ok = all_append D p (take b (s ∷ steps)) (front_steps (s ∷ steps) b ok)
  appends_between p (s ∷ steps) (suc a) zero h ok = absurd (omega arith)
  appends_between p (s ∷ steps) (suc a) (suc b) h ok = appends_between (record (played D p s) { lines = [] }) steps a b (omega arith) ok.1

  -- what the step of a number told
  pub lines_told : (p : Playing Kind Op Shown) (steps : List (ScriptStep Op)) (n : ℕ) (lines : List (Told Op Shown)) → slice_get (lines_of D p steps) n ≡ Some lines
      → (step : ScriptStep Op) × (slice_get steps n ≡ Some step) × (lines ≡ (played D (played_all D p (take n steps)) step).lines)
  lines_told p [] n lines e = absurd (cc e)
  lines_told p (s ∷ steps) zero lines e = let same : (played D p s).lines ≡ lines = cc e in (s, refl, sym same)
  lines_told p (s ∷ steps) (suc n) lines e = lines_told (record (played D p s) { lines = [] }) steps n lines e

  -- before each step no lines stand
  pub silent_before : (p : Playing Kind Op Shown) (steps : List (ScriptStep Op)) → p.lines ≡ [] → (played_all D p steps).lines ≡ []
  silent_before p [] silent = silent
  silent_before p (s ∷ steps) silent = silent_before (record (played D p s) { lines = [] }) steps refl

  pub ok_at : (steps : List (ScriptStep Op)) (n : ℕ) (step : ScriptStep Op) → AllByRecursion IsStep steps → slice_get steps n ≡ Some step → IsStep step
  ok_at [] n step ok e = absurd (cc e)
  ok_at (s ∷ steps) zero step ok e = let same : s ≡ step = cc e in subst IsStep same ok.0
  ok_at (s ∷ steps) (suc n) step ok e = ok_at steps n step ok.1 e
