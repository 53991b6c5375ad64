-- What a reader answers: something, a reason why there is nothing, or that memory was refused.
use Rattle.std.specs.Prelude.{Result, Ok, Err, ⊤}
use Rattle.top_lines.specs.declared.refusal.Fault.{Fault}
use Rattle.top_lines.specs.declared.refusal.Fault.TheVariants.{Refused, Memory}
use Rattle.top_lines.specs.declared.refusal.Refusal.{Refusal}

-- what was found, or why nothing was, is so, unless memory was refused
abbrev pub Tells : {X : Type 0} → (Result X Refusal → Type 0) → Result X Fault → Type 0
Tells IsSo (Ok x) = IsSo (Ok x)
Tells IsSo (Err (Refused refusal)) = IsSo (Err refusal)
Tells IsSo (Err Memory) = ⊤
