use Rattle.std.proofs.Common.{◌≡◌, ℕ, not}
use Rattle.std.specs.Prelude.{◌&&◌, ◌==◌, nat_lt}
use Rattle.base_vectors.specs.IdSets.{members_in}
use Rattle.data_delta_codec.proofs.sets.others.Given as goal

abbrev pub invariant-loop-number : goal.invariant-loop-number
invariant-loop-number l = (i : ℕ) → members_in l.set i ≡ (nat_lt i l.number && not (i == l.origin))
