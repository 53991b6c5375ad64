-- What a hint is told of.
use Rattle.std.specs.Prelude.{ℕ, List, ◌⊎◌, ⊤}
use Rattle.script_reading.specs.declared.clients.Clients.{Clients}
use Rattle.script_reading.specs.declared.fault.Rule.{Rule}
use Rattle.script_reading.specs.declared.read.ScriptError.{ScriptError}
use Rattle.script_reading.specs.declared.read.ScriptError.TheVariants.{NotJson, NotAScript, Memory}
use Rattle.script_reading.specs.Reading.{Breaks, HasNoReading}

-- the error lies in the bytes
abbrev pub IsOfBytes : ScriptError → Type 0
IsOfBytes NotJson = ⊤
IsOfBytes (NotAScript step rule) = ⊤
IsOfBytes Memory = ⊥

-- these bytes are no JSON text, or one that breaks a rule of scripts
abbrev pub IsRefused : Clients → List ℕ → Type 0
IsRefused clients bytes = HasNoReading bytes ⊎ ((broken : Rule) × Breaks clients bytes broken)
