use Rattle.std.proofs.lemmas.List.Elements.{All-more}
use Rattle.std.proofs.Common.{arith, subst}
use Rattle.data_orset.specs.Placing.{nth}
use Rattle.data_orset.specs.Elements.{IsPlaced}
use Rattle.data_orset.proofs.Tables.{nth_at}
use Rattle.data_orset.proofs.spelling.look_at_all.Goals as goal

pub loop-index-preserved : goal.loop-index-preserved
loop-index-preserved c =
    All-more IsPlaced c.args.dots.now c.loop-index.index (nth c.args.dots.now c.loop-index.index) (omega (arith, c.loop-index-test.true, c.len-index-end.ensures)) c.loop-index.invariant
    (subst IsPlaced (nth_at c.args.dots.now c.loop-index.index (omega (arith, c.loop-index-test.true, c.len-index-end.ensures))) c.look_at.ensures)
