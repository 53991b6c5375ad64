use Rattle.std.proofs.Common.{arith}
use Rattle.data_orset.specs.Placing.{nth}
use Rattle.data_orset.specs.Elements.{elements_spelled}
use Rattle.data_orset.specs.Runs.{grouped}
use Rattle.data_orset.proofs.Tables.{nth_at}
use Rattle.data_orset.proofs.Runs.{spelled_more}
use Rattle.data_orset.proofs.spelling.spelling_of.Goals as goal

pub loop-start-preserved : goal.loop-start-preserved
loop-start-preserved c =
    spelled_more c.args.dots.now c.loop-start.start c.run_end-end.result (nth c.args.dots.now c.loop-start.start) c.loop-start.bytes.items c.spell_element.new.into.items (elements_spelled (grouped c.args.dots.now))
    (omega (arith, c.loop-start-test.true, c.len.ensures)) (nth_at c.args.dots.now c.loop-start.start (omega (arith, c.loop-start-test.true, c.len.ensures))) c.run_end-end.ensures.place c.in_ok-spell_element.ensures c.loop-start.invariant.0
