use Rattle.std.proofs.Common.{◌≡◌, drop, [], length, All}
use Rattle.serde_json.specs.View.{items_view}
use Rattle.script_reading.specs.Clients.{clients_after}
use Rattle.script_reading.specs.WellFormed.{IsClient}
use Rattle.script_reading.proofs.commands.all_clients.Given as goal

abbrev pub invariant-loop-value : goal.invariant-loop-value
invariant-loop-value l =
    (length l.clients ≡ l.value-index)
    × All IsClient l.clients
    × (clients_after l.step l.clients (items_view (drop l.value-index l.list)) ≡ clients_after l.step [] (items_view l.list))
