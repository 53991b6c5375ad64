-- The steps of a script whose clients follow keys, as those of the model.
use Rattle.std.specs.Prelude.{List, [], ◌∷◌}
use Rattle.model_kinds.specs.declared.operation.Op.{Op}
use Rattle.script_reading.specs.Meant.{step_of}
use Rattle.script_reading.specs.declared.clients.RunStep.{RunStep}
use Rattle.script_reading.specs.declared.clients.RunStep.TheVariants as form
use Rattle.theorem_watching.specs.Watching.{WatchStep}
use Rattle.theorem_watching.specs.Watching.WatchStep.{Plain, Subscribe, Unsubscribe}

-- such a script has no thread steps
abbrev pub watch_steps : List RunStep → List (WatchStep Op)
watch_steps [] = []
watch_steps (form.Plain step ∷ steps) = Plain (step_of step) ∷ watch_steps steps
watch_steps (form.Threads clients ∷ steps) = watch_steps steps
watch_steps (form.Subscribe at client key ∷ steps) = Subscribe at client key ∷ watch_steps steps
watch_steps (form.Unsubscribe at client key ∷ steps) = Unsubscribe at client key ∷ watch_steps steps
