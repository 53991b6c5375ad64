use Rattle.std.proofs.Common.{arith}
use Rattle.base_places.specs.Places.{bytes_dropped}
use Rattle.member_codec.specs.Numbers.{digest_spelled, digest_in}
use Rattle.member_codec.specs.NumberLaws.{digest_spells}
use Rattle.base_places.proofs.Reading.{on_at}
use Rattle.member_codec.proofs.numbers.DigestPiece.take.Goals as goal

pub returns-clause-exact : goal.returns-clause-exact
returns-clause-exact c =
    on_at c.args.from.now c.args.place digest_spelled digest_in digest_spells.takes (bytes_dropped c.args.place c.args.from.now (λ i. omega (arith, c.type_inv.from i))) c.digest_at.result c.digest_at.ensures
