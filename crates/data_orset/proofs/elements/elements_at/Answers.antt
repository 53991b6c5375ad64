use Rattle.std.proofs.Common.{nat_eq}
use Rattle.data_orset.proofs.SetsOfDots.{filtered_dots}
use Rattle.data_orset.proofs.elements.elements_at.Goals as goal

pub elements_of-requires : goal.elements_of-requires
elements_of-requires c = filtered_dots (λ p. nat_eq p.origin c.args.id) c.args.dots.now c.in_ok-own.own c.requires c.in_ok-own.ensures
