use Rattle.std.proofs.Common.{◌≡◌, drop}
use Rattle.std.specs.Prelude.{find}
use Rattle.std.specs.Str.{bytes_eq}
use Rattle.script_reading.specs.declared.script.ScriptKey.{ScriptKey}
use Rattle.trace_checker.proofs.checking.place_of.Given as goal

abbrev pub invariant-loop-place : goal.invariant-loop-place
invariant-loop-place l = find (λ (key : ScriptKey). bytes_eq key.key l.name) (drop l.place l.keys) ≡ find (λ (key : ScriptKey). bytes_eq key.key l.name) l.keys
