use Rattle.std.proofs.Common.{◌≡◌, ◌++◌, take, drop}
use Rattle.data_orset.proofs.elements.between.Given as goal

abbrev pub invariant-loop-index : goal.invariant-loop-index
invariant-loop-index l = l.part ++ drop l.index (take l.end l.dots) ≡ drop l.start (take l.end l.dots)
