use Rattle.std.proofs.Common.{arith}
use Rattle.base_places.specs.Places.{bytes_dropped}
use Rattle.base_places.proofs.Reading.{on_at}
use Rattle.base_places.proofs.places.read_at.Goals as goal

pub returns-clause-exact : goal.returns-clause-exact
returns-clause-exact g c =
    on_at c.args.from.now c.args.place g.X.Spelled.spelled g.X.Spelled.read_in g.met.X.Spelled.read_is_spelled (bytes_dropped c.args.place c.args.from.now (λ i. omega (arith, c.type_inv.from i))) c.read.result c.read.ensures
