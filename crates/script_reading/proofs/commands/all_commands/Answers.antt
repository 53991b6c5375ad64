use Rattle.std.proofs.Common.{arith}
use Rattle.std.proofs.lemmas.Grind.{common_steps}
use Rattle.std.proofs.lemmas.List.Elements.{All-push}
use Rattle.script_reading.specs.Clients.{commands_after}
use Rattle.script_reading.specs.WellFormed.{IsRepeated}
use Rattle.script_reading.proofs.commands.all_commands.Goals as goal

pub loop-value-preserved : goal.loop-value-preserved
unfolding commands_after
loop-value-preserved c = (
  grind (arith, common_steps),
  rw c.in_ok-push.ensures.ok (All-push IsRepeated _ _ c.loop-value.invariant.1 c.in_ok-command.ensures.bounds),
  grind (arith, common_steps, c.in_ok-command.ensures.value, c.in_ok-push.ensures.ok, c.loop-value.invariant.2),
)
