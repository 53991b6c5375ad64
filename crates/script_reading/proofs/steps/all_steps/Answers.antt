use Rattle.std.proofs.Common.{arith}
use Rattle.std.proofs.lemmas.Grind.{common_steps}
use Rattle.std.proofs.lemmas.List.Elements.{All-push}
use Rattle.script_reading.specs.Reading.{steps_after}
use Rattle.script_reading.specs.WellFormed.{IsRunStep, IsAllowed}
use Rattle.script_reading.proofs.steps.all_steps.Goals as goal

pub loop-value-preserved : goal.loop-value-preserved
unfolding steps_after
loop-value-preserved c = (
  grind (arith, common_steps),
  grind arith,
  rw c.in_ok-push.ensures.ok (All-push IsRunStep _ _ c.loop-value.invariant.2 c.in_ok-step.ensures.bounds),
  rw c.in_ok-push.ensures.ok (All-push (IsAllowed c.args.clients) _ _ c.loop-value.invariant.3 c.in_ok-step.ensures.allowed),
  grind (arith, common_steps, c.in_ok-step.ensures.value, c.in_ok-push.ensures.ok, c.loop-value.invariant.0, c.loop-value.invariant.1, c.loop-value.invariant.4),
)
