-- A step that a script may have is allowed.
use Rattle.std.proofs.Common.{◌≡◌, Bool, true, false}
use Rattle.std.specs.Prelude.{MatchBool, ⊤}
use Rattle.script_reading.specs.declared.clients.Clients.{Clients}
use Rattle.script_reading.specs.declared.clients.RunStep.{RunStep}
use Rattle.script_reading.specs.Allowances.{may_have}
use Rattle.script_reading.specs.WellFormed.{IsAllowed}

holds : (b : Bool) → b ≡ true → MatchBool b ⊤ ⊥
holds true e = tt
holds false e = absurd (cc e)

pub is_allowed : (clients : Clients) (step : RunStep) → may_have clients step ≡ true → IsAllowed clients step
is_allowed clients step test = holds (may_have clients step) test
