use Rattle.std.proofs.Common.{arith, length}
use Rattle.data_orset.specs.Runs.{grouped}
use Rattle.data_orset.proofs.Runs.{one_run_more}
use Rattle.data_orset.proofs.spelling.count_runs.Goals as goal

pub loop-start-preserved : goal.loop-start-preserved
loop-start-preserved c =
    one_run_more c.args.dots.now c.loop-start.start c.run_end-start.result c.loop-start.count (length (grouped c.args.dots.now)) (omega (arith, c.loop-start-test.true, c.len.ensures)) c.run_end-start.ensures.place c.loop-start.invariant.0 c.loop-start.invariant.2
