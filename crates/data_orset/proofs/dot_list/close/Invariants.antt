use Rattle.std.proofs.Common.{◌≡◌}
use Rattle.data_orset.proofs.Tables.{so_far, without_one}
use Rattle.data_orset.proofs.dot_list.close.Given as goal

abbrev pub invariant-loop-spot : goal.invariant-loop-spot
invariant-loop-spot l = l.spots ≡ so_far (without_one l.gap) l.fn.spots l.spot-index
