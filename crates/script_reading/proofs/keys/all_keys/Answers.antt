use Rattle.std.proofs.Common.{arith}
use Rattle.std.proofs.lemmas.Grind.{common_steps}
use Rattle.script_reading.specs.Reading.{keys_after}
use Rattle.script_reading.proofs.Lists.{new_name}
use Rattle.script_reading.proofs.keys.all_keys.Goals as goal

pub loop-value-preserved : goal.loop-value-preserved
unfolding keys_after
loop-value-preserved c = (
  grind (arith, common_steps),
  rw c.in_ok-push.ensures.ok (new_name _ _ c.loop-value.invariant.1 (rw (← c.as_slice.ensures) c.in_ok-key.ensures.new)),
  grind (arith, common_steps, c.in_ok-key.ensures.value, c.in_ok-push.ensures.ok, c.loop-value.invariant.2, c.as_slice.ensures),
)
