use Rattle.std.proofs.Common.{take}
use Rattle.data_orset.specs.Keeping.{AreLeft}
use Rattle.data_orset.specs.Spots.{dots_in, AreSpots}
use Rattle.data_orset.proofs.dot_list.changes.take_out_all.Given as goal

abbrev pub invariant-loop-index : goal.invariant-loop-index
invariant-loop-index g l = record {
  spots : AreSpots l.texts.items l.spots.items;
  left : AreLeft (g.R.Rule.keeps l.rule) (dots_in l.fn.texts.items l.fn.spots.items) (take l.index l.dots) (dots_in l.texts.items l.spots.items);
}
