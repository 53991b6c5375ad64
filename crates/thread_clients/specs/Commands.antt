-- Commands, and whether a turn follows them.
use Rattle.std.specs.Prelude.{List, Bool, true, false, replicate, flat_map}
use Rattle.script_reading.specs.declared.ask.Ask.{Ask}
use Rattle.script_reading.specs.declared.ask.Ask.TheVariants.{Flush, Gossip, Tick}
use Rattle.script_reading.specs.declared.clients.Command.{Command}
use Rattle.script_reading.specs.declared.clients.Repeated.{Repeated}

-- a command as often as it stands
abbrev pub all_of : Repeated → List Command
all_of c = replicate c.times c.command

-- each command as often as it stands
abbrev pub commands_of : List Repeated → List Command
commands_of commands = flat_map (λ (c : Repeated). replicate c.times c.command) commands

-- a turn follows it, whether something was sent or not
abbrev pub has_turn : Ask → Bool
has_turn Flush = true
has_turn (Gossip to) = true
has_turn Tick = true
has_turn _ = false
