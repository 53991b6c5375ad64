use Rattle.std.proofs.Common.{◌≡◌, false}
use Rattle.std.specs.Prelude.{nat_le, nat_lt, ◌&&◌}
use Rattle.std.specs.List.{list_any, range_with_len}
use Rattle.base_vectors.specs.Vectors.{number_at}
use Rattle.member_acceptance.proofs.naming.counts_later.Given as goal

abbrev pub invariant-loop-number : goal.invariant-loop-number
invariant-loop-number l = list_any (λ i. nat_le l.given i && nat_lt 0 (number_at l.numbers i)) (range_with_len 0 l.number) ≡ false
