use Rattle.std.proofs.Common.{◌≡◌, ◌+◌, drop, [], length, All}
use Rattle.serde_json.specs.View.{items_view}
use Rattle.script_reading.specs.Reading.{steps_after}
use Rattle.script_reading.specs.WellFormed.{IsRunStep, IsAllowed}
use Rattle.script_reading.proofs.steps.all_steps.Given as goal

abbrev pub invariant-loop-value : goal.invariant-loop-value
invariant-loop-value l =
    (length l.steps ≡ l.value-index)
    × (l.number ≡ l.value-index + 1)
    × All IsRunStep l.steps
    × All (IsAllowed l.clients) l.steps
    × (steps_after l.clients l.steps (items_view (drop l.value-index l.list)) ≡ steps_after l.clients [] (items_view l.list))
