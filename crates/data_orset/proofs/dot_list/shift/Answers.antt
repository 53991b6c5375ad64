use Rattle.std.proofs.Common.{ap, sym, ◌∙◌}
use Rattle.data_orset.specs.declared.dot_list.Spot.{Spot}
use Rattle.data_orset.proofs.Tables.{renumbered, after_one}
use Rattle.data_orset.proofs.dot_list.shift.Goals as goal

pub loop-spot-preserved : goal.loop-spot-preserved
loop-spot-preserved c = renumbered (after_one c.args.from) c.args.spots.now c.loop-spot.spots c.loop-spot.spot-index c.spot-item.result c.moved-spot.result c.loop-spot.invariant c.loop-spot-test.true c.spot-item.is (c.moved-spot.ensures ∙ ap (λ (x : Spot). after_one c.args.from x.place) (sym c.spot-item.is))
