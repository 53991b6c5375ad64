-- Why bytes that are told of were refused.
use Rattle.std.proofs.Common.{ℕ, List, inl, inr}
use Rattle.script_reading.specs.declared.clients.Clients.{Clients}
use Rattle.script_reading.specs.declared.read.ScriptError.{ScriptError}
use Rattle.script_reading.specs.declared.read.ScriptError.TheVariants.{NotJson, NotAScript, Memory}
use Rattle.script_reading.specs.Reading.{Breaks, HasNoReading}
use Rattle.script_reading.specs.Refusals.{MatchError}
use Rattle.script_hints.specs.Refused.{IsOfBytes, IsRefused}

pub refused : (clients : Clients) (bytes : List ℕ) (error : ScriptError) → MatchError (HasNoReading bytes) (Breaks clients bytes) error → IsOfBytes error → IsRefused clients bytes
refused clients bytes NotJson why told = inl why
refused clients bytes (NotAScript step rule) why told = inr (record { step = step; number = rule }, why)
refused clients bytes Memory why told = absurd told
