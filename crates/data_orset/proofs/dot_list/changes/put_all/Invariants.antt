use Rattle.std.proofs.Common.{◌-◌, take, length, true}
use Rattle.data_orset.specs.Keeping.{AreMerged}
use Rattle.data_orset.specs.Spots.{dots_in, AreSpots, HasRoom}
use Rattle.data_orset.proofs.dot_list.changes.put_all.Given as goal

abbrev pub invariant-loop-index : goal.invariant-loop-index
invariant-loop-index g l = record {
  spots : AreSpots l.texts.items l.spots.items;
  united : AreMerged true (λ _. true) (g.R.Rule.keeps l.rule) (dots_in l.fn.texts.items l.fn.spots.items) (take l.index l.dots) (dots_in l.texts.items l.spots.items);
  room : HasRoom (length l.dots - l.index) l.texts l.spots;
}
