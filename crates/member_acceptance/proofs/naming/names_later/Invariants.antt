use Rattle.std.proofs.Common.{◌≡◌, false}
use Rattle.std.specs.Prelude.{nat_le, ◌&&◌}
use Rattle.std.specs.List.{list_any, range_with_len}
use Rattle.data_envelope.specs.Words.{parts_of}
use Rattle.member_acceptance.specs.Naming.{is_named}
use Rattle.member_acceptance.proofs.naming.names_later.Given as goal

abbrev pub invariant-loop-number : goal.invariant-loop-number
invariant-loop-number g l = list_any (λ i. nat_le l.given i && is_named g.T.Replica.mentioned (parts_of l.entry) i) (range_with_len 0 l.number) ≡ false
