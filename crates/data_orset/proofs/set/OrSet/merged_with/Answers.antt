use Rattle.data_orset.proofs.SetsOfDots.{merged_set}
use Rattle.data_orset.proofs.set.OrSet.merged_with.Goals as goal

pub returns : goal.returns
returns g c =
    merged_set c.args.both (g.M.Rule.keeps c.args.my_rule.now) (g.T.Rule.keeps c.args.their_rule.now) c.self.inside.dots c.other.inside.dots c.in_ok-dots.dots c.args.self.now c.args.other.now
    c.self.view_is c.other.view_is c.in_ok-dots.ensures
