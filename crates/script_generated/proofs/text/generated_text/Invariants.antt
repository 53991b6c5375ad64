use Rattle.std.proofs.Common.{◌≡◌, ◌++◌, string_bytes}
use Rattle.script_generated.specs.declared.text.TheConstants.{HEAD}
use Rattle.script_generated.proofs.Joined.{pieces}
use Rattle.script_generated.proofs.text.generated_text.Given as goal

abbrev pub invariant-loop-done : goal.invariant-loop-done
invariant-loop-done l = string_bytes l.text ≡ HEAD.now ++ pieces l.done
