use Rattle.std.proofs.Common.{arith}
use Rattle.base_vectors.specs.Fields.{identity_in}
use Rattle.base_vectors.specs.Spelling.{nobody}
use Rattle.base_places.specs.Places.{bytes_dropped}
use Rattle.member_codec.specs.Identities.{identity_spelled}
use Rattle.member_codec.specs.IdentityLaws.{identity_spells}
use Rattle.base_places.proofs.Reading.{on_at}
use Rattle.member_codec.proofs.identities.IdPiece.take.Goals as goal

pub returns-clause-exact : goal.returns-clause-exact
returns-clause-exact c =
    on_at c.args.from.now c.args.place identity_spelled (identity_in 0 nobody) identity_spells.takes (bytes_dropped c.args.place c.args.from.now (λ i. omega (arith, c.type_inv.from i))) c.identity_at.result c.identity_at.ensures
