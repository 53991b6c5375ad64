use Rattle.std.proofs.Common.{arith}
use Rattle.std.proofs.lemmas.Grind.{common_steps}
use Rattle.std.proofs.lemmas.List.Elements.{All-push}
use Rattle.trace_lines.specs.WellFormed.{IsLine}
use Rattle.trace_text.specs.Reading.{lines_after}
use Rattle.trace_text.proofs.lines.all_lines.Goals as goal

pub loop-value-preserved : goal.loop-value-preserved
unfolding lines_after
loop-value-preserved c = (
  grind (arith, common_steps),
  grind arith,
  rw c.in_ok-push-in-Ok.ensures.ok (All-push IsLine _ _ c.loop-value.invariant.2 c.in-Ok.ensures.bounds),
  grind (arith, common_steps, c.in-Ok.ensures.value, c.in_ok-push-in-Ok.ensures.ok, c.loop-value.invariant.0, c.loop-value.invariant.1, c.loop-value.invariant.3),
)
