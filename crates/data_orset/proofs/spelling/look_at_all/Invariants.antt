use Rattle.std.proofs.Common.{take}
use Rattle.std.specs.List.{All}
use Rattle.data_orset.specs.Elements.{IsPlaced}
use Rattle.data_orset.proofs.spelling.look_at_all.Given as goal

abbrev pub invariant-loop-index : goal.invariant-loop-index
invariant-loop-index l = All IsPlaced (take l.index l.dots)
