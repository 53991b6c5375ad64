use Rattle.std.proofs.Common.{◌≡◌, drop, [], length, All}
use Rattle.serde_json.specs.View.{items_view}
use Rattle.script_reading.specs.Clients.{commands_after}
use Rattle.script_reading.specs.WellFormed.{IsRepeated}
use Rattle.script_reading.proofs.commands.all_commands.Given as goal

abbrev pub invariant-loop-value : goal.invariant-loop-value
invariant-loop-value l =
    (length l.commands ≡ l.value-index)
    × All IsRepeated l.commands
    × (commands_after l.step l.commands (items_view (drop l.value-index l.list)) ≡ commands_after l.step [] (items_view l.list))
