use Rattle.std.proofs.Common.{arith}
use Rattle.base_outside.proofs.Moved.{appends_next}
use Rattle.base_outside.proofs.transfer.write_all_of.Goals as goal

pub loop-done-preserved : goal.loop-done-preserved
loop-done-preserved g c = (
  omega (arith, c.in-Ok.ensures.bound),
  appends_next _ _ _ _ _ _ c.loop-done.invariant.1 c.in-Ok.ensures.bytes,
  omega (arith, c.in-Ok.ensures.cause.later, c.loop-done.invariant.2),
)
