use Rattle.std.proofs.Common.{List, ap, ◌++◌, ◌+◌, take, drop, ◌∙◌}
use Rattle.data_orset.specs.Placing.{Placed}
use Rattle.data_orset.proofs.Passes.{between_next, between_end}
use Rattle.data_orset.proofs.elements.between.Goals as goal

pub loop-index-preserved : goal.loop-index-preserved
loop-index-preserved c =
    ap (λ (part : List Placed). part ++ drop (c.loop-index.index + 1) (take c.args.end c.args.dots.now)) c.in_ok-append.ensures
    ∙ between_next c.args.dots.now c.loop-index.part _ c.loop-index.index c.args.end c.loop-index-test.true c.requires c.loop-index.invariant

pub returns : goal.returns
returns c = between_end c.args.dots.now c.loop-index.part _ c.loop-index.index c.args.end c.loop-index-test.false c.loop-index.invariant
