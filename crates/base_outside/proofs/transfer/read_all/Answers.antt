use Rattle.std.proofs.Common.{arith, ℕ}
use Rattle.std.proofs.lemmas.Result.{err_from_is_err_and}
use Rattle.std.proofs.lemmas.List.{length-take}
use Rattle.base_outside.proofs.Moved.{reads_so_far}
use Rattle.base_outside.proofs.transfer.read_all.Goals as goal

pub returns-in_err-extend_from_slice-clause-gone :
    goal.returns-in_err-extend_from_slice-clause-gone
returns-in_err-extend_from_slice-clause-gone g c =
    let p = err_from_is_err_and c.from_residual-in_err-extend_from_slice.result c.from_residual-in_err-extend_from_slice.ensures.1 in
    rw p.1 (reads_so_far _ _ _ _ _ _ _ c.loop-chunk.invariant.1 c.in_ok-count.ensures.bytes.0 (omega (arith, c.in_ok-count.ensures.bound.0, c.read.auto.into, length-take {A = ℕ})))
