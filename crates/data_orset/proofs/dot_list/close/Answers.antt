use Rattle.std.proofs.Common.{ap, sym, ◌∙◌}
use Rattle.data_orset.specs.declared.dot_list.Spot.{Spot}
use Rattle.data_orset.proofs.Tables.{renumbered, without_one}
use Rattle.data_orset.proofs.dot_list.close.Goals as goal

pub loop-spot-preserved : goal.loop-spot-preserved
loop-spot-preserved c =
    renumbered (without_one c.args.gap) c.args.spots.now c.loop-spot.spots c.loop-spot.spot-index c.spot-item.result c.closed-spot.result c.loop-spot.invariant c.loop-spot-test.true c.spot-item.is
    (c.closed-spot.ensures ∙ ap (λ (x : Spot). without_one c.args.gap x.place) (sym c.spot-item.is))
