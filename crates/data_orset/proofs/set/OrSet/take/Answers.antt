use Rattle.std.proofs.Common.{ap}
use Rattle.base_vectors.specs.Vectors.{number_at}
use Rattle.data_orset.specs.declared.set.SetDelta.{SetDelta}
use Rattle.data_orset.proofs.Uniting.{absorbed_set}
use Rattle.data_orset.proofs.set.OrSet.take.Goals as goal

pub returns-clause-ok : goal.returns-clause-ok
returns-clause-ok c =
    let fresh = ap (λ (d : SetDelta). d.fresh) c.delta.view_is in
    let seen = ap (λ (d : SetDelta). d.seen) c.delta.view_is in
    absorbed_set c.args.self.now (number_at c.args.mine.now) c.args.delta.now c.self.inside.dots _ _ c.unite.new.self c.drop_all.new.self c.self.view_is fresh seen c.in_ok-unite.ensures.ok c.drop_all.ensures
