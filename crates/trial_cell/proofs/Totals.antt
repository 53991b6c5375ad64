-- What a replay of a tally comes to.
use Rattle.std.proofs.Common.{◌≡◌, ℕ, ◌+◌, List, [], ◌∷◌, ◌++◌, refl, ap, sym, ◌∙◌, subst, arith}
use Rattle.thread_machine.specs.Replays.{Replays, IsReplay}
use Rattle.thread_machine.specs.Replays.Replays.{begins, refused, stepped}
use Rattle.trial_cell.specs.contracts.tally.TallyMachine.TheImpl.{ghosts}
use Rattle.trial_cell.specs.declared.tally.Tally.{Tally}
use Rattle.trial_cell.specs.Shelves.{Tells, held_after}
use Rattle.trial_cell.specs.Tallies.{Added, amounts, held_replayed, IsTallied}

pub amounts-push : (h : List Added) (e : Added) → amounts (h ++ e ∷ []) ≡ amounts h + e.input
amounts-push [] e = omega arith
amounts-push (x ∷ h) e = let more = amounts-push h e in omega arith

held_replayed-push : (held : ℕ) (h : List Added) (e : Added) → held_replayed held (h ++ e ∷ []) ≡ held_after e.fate e.output (held_replayed held h)
held_replayed-push held [] e = refl
held_replayed-push held (x ∷ h) e = held_replayed-push (held_after x.fate x.output held) h e

pub total_of : (start now : Tally) (h : List Added) → Replays ghosts start h now → now.total ≡ start.total + amounts h
total_of start _ _ (begins _) = omega arith
total_of start now h (refused _ before _ _ replays same) = ap (λ (t : Tally). t.total) same ∙ total_of start before h replays
total_of start now _ (stepped _ before _ h e replays steps) = let s = steps.total in let t = total_of start before h replays in let p = amounts-push h e in omega arith

told_of : (start now : Tally) (h : List Added) → Replays ghosts start h now → (held : ℕ) → Tells start.shelf held → Tells now.shelf (held_replayed held h)
told_of start _ _ (begins _) held tells = tells
told_of start now h (refused _ before _ _ replays same) held tells = subst (λ (t : Tally). Tells t.shelf (held_replayed held h)) (sym same) (told_of start before h replays held tells)
told_of start now _ (stepped _ before _ h e replays steps) held tells =
    subst (Tells now.shelf) (sym (held_replayed-push held h e)) (steps.told (held_replayed held h) (told_of start before h replays held tells))

pub tallied : (start now : Tally) (h : List Added) → IsReplay ghosts start h now → IsTallied start h now
tallied start now h replay = record { total = total_of start now h replay.replays; told = told_of start now h replay.replays; faults = replay.faults }
