use Rattle.std.proofs.Common.{◌^◌, arith}
use Rattle.base_vectors.specs.Spelling.{nobody, numbers_in}
use Rattle.base_places.specs.Places.{bytes_dropped}
use Rattle.member_codec.specs.Identities.{versions_spelled}
use Rattle.member_codec.specs.IdentityLaws.{versions_spells}
use Rattle.base_places.proofs.Reading.{on_at}
use Rattle.member_codec.proofs.identities.VersionVectorPiece.take.Goals as goal

pub returns-clause-exact : goal.returns-clause-exact
returns-clause-exact c =
    on_at c.args.from.now c.args.place versions_spelled (numbers_in (2 ^ 62) nobody) versions_spells.takes (bytes_dropped c.args.place c.args.from.now (λ i. omega (arith, c.type_inv.from i))) c.versions_at.result c.versions_at.ensures
