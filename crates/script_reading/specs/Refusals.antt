-- Why no script was read.
use Rattle.std.specs.Prelude.{⊤}
use Rattle.script_reading.specs.declared.fault.Rule.{Rule}
use Rattle.script_reading.specs.declared.fault.Fault.{Fault}
use Rattle.script_reading.specs.declared.fault.Fault.TheVariants as fault
use Rattle.script_reading.specs.declared.read.ScriptError.{ScriptError}
use Rattle.script_reading.specs.declared.read.ScriptError.TheVariants.{NotJson, NotAScript, Memory}

-- what each refusal says. Want of memory says nothing
abbrev pub MatchError : Type 0 → (Rule → Type 0) → ScriptError → Type 0
MatchError no_reading breaks NotJson = no_reading
MatchError no_reading breaks (NotAScript step number) = breaks (record { step = step; number = number })
MatchError no_reading breaks Memory = ⊤

-- how a fault is told
abbrev pub error_of : Fault → ScriptError
error_of (fault.Breaks broken) = NotAScript broken.step broken.number
error_of fault.Memory = Memory
