use Rattle.std.proofs.Common.{◌≡◌, ◌++◌, take, drop}
use Rattle.data_orset.proofs.dot_list.cut.Given as goal

abbrev pub invariant-loop : goal.invariant-loop
invariant-loop l = l.spots.items ≡ take l.start l.fn.spots.items ++ drop l.counter l.fn.spots.items
