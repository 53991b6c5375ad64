use Rattle.std.proofs.Common.{true, ◌∙◌}
use Rattle.data_orset.proofs.SetsOfDots.{merged_set}
use Rattle.data_orset.proofs.Changes.{united_is}
use Rattle.data_orset.proofs.set.OrSet.unite.Goals as goal

pub returns-clause-ok : goal.returns-clause-ok
returns-clause-ok c =
    merged_set true (λ _. true) (λ _. true) c.self.inside.dots c.other.inside.dots c.unite.new.self c.args.self.now c.args.other.now c.self.view_is c.other.view_is c.in_ok-unite.ensures.ok
    ∙ united_is c.args.self.now c.args.other.now
