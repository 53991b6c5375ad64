-- Steps of a script whose clients follow keys, and their lines, one list behind another.
use Rattle.std.proofs.Common.{◌≡◌, ℕ, zero, suc, ◌+◌, List, [], ◌∷◌, ◌++◌, length, flat_map, refl, sym, ap, ◌∙◌, arith, append_assoc}
use Rattle.std.specs.Prelude.{All}
use Rattle.model_members.specs.DataType.{Replication}
use Rattle.model_kinds.specs.declared.operation.Op.{Op}
use Rattle.model_kinds.specs.declared.shown.Shown.{Shown}
use Rattle.script_reading.specs.Meant.{step_of}
use Rattle.script_reading.specs.WellFormed.{IsAllowed}
use Rattle.script_reading.specs.declared.clients.Clients.TheVariants.{Following}
use Rattle.script_reading.specs.declared.clients.RunStep.{RunStep}
use Rattle.script_reading.specs.declared.clients.RunStep.TheVariants as form
use Rattle.theorem_watching.specs.Watching.{WatchStep, WatchLine, Watching, plain_steps, watched, watch_lines, watched_all, all_lines, watch_line_text, watch_text}
use Rattle.theorem_watching.specs.Watching.WatchStep.{Plain, Subscribe, Unsubscribe}
use Rattle.report_lines.specs.Run.{steps_of}
use Rattle.report_followers.specs.Steps.{watch_steps}

pub steps_more : (xs ys : List RunStep) → watch_steps (xs ++ ys) ≡ watch_steps xs ++ watch_steps ys
steps_more [] ys = refl
steps_more (form.Plain step ∷ xs) ys = ap (λ (ss : List (WatchStep Op)). Plain (step_of step) ∷ ss) (steps_more xs ys)
steps_more (form.Threads clients ∷ xs) ys = steps_more xs ys
steps_more (form.Subscribe at client key ∷ xs) ys = ap (λ (ss : List (WatchStep Op)). Subscribe at client key ∷ ss) (steps_more xs ys)
steps_more (form.Unsubscribe at client key ∷ xs) ys = ap (λ (ss : List (WatchStep Op)). Unsubscribe at client key ∷ ss) (steps_more xs ys)

all_rest : (x : RunStep) (xs : List RunStep) → All (IsAllowed Following) (x ∷ xs) → All (IsAllowed Following) xs
all_rest x xs all k d less = all (suc k) d (omega (arith, less))

-- none is left out
pub steps_count : (steps : List RunStep) → All (IsAllowed Following) steps → length (watch_steps steps) ≡ length steps
steps_count [] all = refl
steps_count (form.Plain step ∷ steps) all = ap suc (steps_count steps (all_rest (form.Plain step) steps all))
steps_count (form.Threads clients ∷ steps) all = absurd (all zero (form.Threads clients) (omega arith))
steps_count (form.Subscribe at client key ∷ steps) all = ap suc (steps_count steps (all_rest (form.Subscribe at client key) steps all))
steps_count (form.Unsubscribe at client key ∷ steps) all = ap suc (steps_count steps (all_rest (form.Unsubscribe at client key) steps all))

-- those that members take part in
pub plain_are : (steps : List RunStep) → plain_steps (watch_steps steps) ≡ steps_of steps
plain_are [] = refl
plain_are (form.Plain step ∷ steps) = ap (λ ss. step_of step ∷ ss) (plain_are steps)
plain_are (form.Threads clients ∷ steps) = plain_are steps
plain_are (form.Subscribe at client key ∷ steps) = plain_are steps
plain_are (form.Unsubscribe at client key ∷ steps) = plain_are steps

module _ {Kind : Type 0} (D : Replication Kind Op Shown) where
  pub watched_more : (w : Watching Kind Op) (xs ys : List (WatchStep Op)) → watched_all D w (xs ++ ys) ≡ watched_all D (watched_all D w xs) ys
  watched_more w [] ys = refl
  watched_more w (x ∷ xs) ys = watched_more (watched D w x) xs ys

  pub lines_more : (w : Watching Kind Op) (xs ys : List (WatchStep Op)) → all_lines D w (xs ++ ys) ≡ all_lines D w xs ++ all_lines D (watched_all D w xs) ys
  lines_more w [] ys = refl
  lines_more w (x ∷ xs) ys = ap (λ (ls : List (List (WatchLine Op))). watch_lines D w x ∷ ls) (lines_more (watched D w x) xs ys)

  pub lines_count : (w : Watching Kind Op) (xs : List (WatchStep Op)) → length (all_lines D w xs) ≡ length xs
  lines_count w [] = refl
  lines_count w (x ∷ xs) = ap suc (lines_count (watched D w x) xs)

  pub text_more : (n : ℕ) (ls ms : List (List (WatchLine Op))) → watch_text D n (ls ++ ms) ≡ watch_text D n ls ++ watch_text D (n + length ls) ms
  text_more n [] ms = let same : n ≡ n + 0 = omega arith in ap (λ k. watch_text D k ms) same
  text_more n (l ∷ ls) ms =
      let on : suc n + length ls ≡ n + length (l ∷ ls) = omega arith in
      ap (λ t. flat_map (watch_line_text D n) l ++ t) (text_more (suc n) ls ms ∙ ap (λ k. watch_text D (suc n) ls ++ watch_text D k ms) on)
      ∙ sym (append_assoc (flat_map (watch_line_text D n) l) (watch_text D (suc n) ls) (watch_text D (n + length (l ∷ ls)) ms))
