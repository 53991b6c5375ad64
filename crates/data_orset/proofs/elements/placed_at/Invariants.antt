use Rattle.std.proofs.Common.{◌≡◌, take, map}
use Rattle.data_orset.specs.Placing.{at_dot}
use Rattle.data_orset.proofs.elements.placed_at.Given as goal

abbrev pub invariant-loop-text : goal.invariant-loop-text
invariant-loop-text l = l.all ≡ map (at_dot l.dot) (take l.text-index l.texts)
