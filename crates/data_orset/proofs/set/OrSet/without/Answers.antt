use Rattle.std.proofs.Common.{ap, ◌∙◌}
use Rattle.data_orset.specs.Keeping.{set_of, is_other, is_other_key}
use Rattle.data_orset.proofs.SetsOfDots.{filtered_set, filtered_dots}
use Rattle.data_orset.proofs.set.OrSet.without.Goals as goal

pub invariant_of-result : goal.invariant_of-result
invariant_of-result c = filtered_dots (is_other c.args.texts.now) c.self.inside.dots c.in_ok-dots.dots c.self.invariant c.in_ok-dots.ensures

pub returns : goal.returns
returns c = ap set_of c.in_ok-dots.ensures ∙ filtered_set (is_other_key c.args.texts.now) c.self.inside.dots c.args.self.now c.self.view_is
