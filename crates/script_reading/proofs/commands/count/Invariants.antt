use Rattle.std.proofs.Common.{◌≡◌, ◌*◌, ◌≤◌, take}
use Rattle.script_reading.specs.Clients.{count_of}
use Rattle.script_reading.proofs.commands.count.Given as goal

abbrev pub invariant-loop-command : goal.invariant-loop-command
invariant-loop-command l =
    (l.count ≡ count_of (take l.command-index l.commands))
    × (l.count ≤ 1024 * l.command-index)
