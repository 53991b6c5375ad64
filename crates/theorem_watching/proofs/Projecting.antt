-- Members play the plain steps alone.
use Rattle.std.proofs.Common.{◌≡◌, ℕ, List, [], ◌∷◌, Option, Some, None, refl, ap, ◌∙◌}
use Rattle.model_members.specs.DataType.{Replication}
use Rattle.model_members.specs.Script.{Playing, played_all}
use Rattle.model_kinds.specs.declared.shown.Shown.{Shown}
use Rattle.theorem_watching.specs.Watching.{WatchStep, Watching, plain_steps, after_flush, just_played, silent, flushed_by, watched, watched_all}
use Rattle.theorem_watching.specs.Watching.WatchStep.{Plain, Subscribe, Unsubscribe}

module _ {Kind Op : Type 0} (D : Replication Kind Op Shown) where
  -- what a flush tells changes nothing of what is played
  told_apart : (w : Watching Kind Op) (flushed : Option ℕ) → (silent D (after_flush D.data_type w flushed)).playing ≡ (silent D w).playing
  told_apart w None = refl
  told_apart w (Some at) = refl

  pub plays_plain_steps : (w : Watching Kind Op) (steps : List (WatchStep Op)) → (watched_all D w steps).playing ≡ played_all D w.playing (plain_steps steps)
  plays_plain_steps w [] = refl
  plays_plain_steps w (Plain step ∷ steps) =
      plays_plain_steps (watched D w (Plain step)) steps
      ∙ ap (λ (p : Playing Kind Op Shown). played_all D p (plain_steps steps)) (told_apart (just_played D w step) (flushed_by (just_played D w step).playing.lines))
  plays_plain_steps w (Subscribe at client key ∷ steps) = plays_plain_steps (watched D w (Subscribe at client key)) steps
  plays_plain_steps w (Unsubscribe at client key ∷ steps) = plays_plain_steps (watched D w (Unsubscribe at client key)) steps
