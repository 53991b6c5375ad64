use Rattle.std.proofs.Common.{◌≡◌}
use Rattle.data_orset.proofs.Tables.{so_far, after_one}
use Rattle.data_orset.proofs.dot_list.shift.Given as goal

abbrev pub invariant-loop-spot : goal.invariant-loop-spot
invariant-loop-spot l = l.spots ≡ so_far (after_one l.from) l.fn.spots l.spot-index
