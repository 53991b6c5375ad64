use Rattle.std.proofs.Common.{◌≡◌, map}
use Rattle.std.specs.List.{range_with_len}
use Rattle.script_generated.specs.Generated.{generated_step}
use Rattle.script_generated.proofs.script.generated.Given as goal

abbrev pub invariant-loop-done : goal.invariant-loop-done
invariant-loop-done l = l.steps ≡ map generated_step (range_with_len 1 l.done)
