use Rattle.std.proofs.Common.{not, nat_eq, ap, ◌∙◌}
use Rattle.data_orset.specs.Placing.{Placed}
use Rattle.data_orset.specs.Dots.{is_of}
use Rattle.data_orset.specs.Keeping.{set_of}
use Rattle.data_orset.proofs.SetsOfDots.{filtered_set, filtered_dots}
use Rattle.data_orset.proofs.set.OrSet.drop_dots_of.Goals as goal

pub invariant_of-self : goal.invariant_of-self
invariant_of-self c = filtered_dots (λ (p : Placed). not (nat_eq p.origin c.args.id)) c.self.inside.dots c.drop_dots_of.new.self c.self.invariant c.drop_dots_of.ensures

pub returns : goal.returns
returns c = ap set_of c.drop_dots_of.ensures ∙ filtered_set (λ k. not (is_of c.args.id k)) c.self.inside.dots c.args.self.now c.self.view_is
