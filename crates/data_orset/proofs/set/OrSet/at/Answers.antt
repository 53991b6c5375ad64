use Rattle.std.proofs.Common.{ap, sym, subst}
use Rattle.data_orset.specs.Placing.{AreDots}
use Rattle.data_orset.specs.Keeping.{set_of}
use Rattle.data_orset.proofs.Others.{dots_at}
use Rattle.data_orset.proofs.set.OrSet.at.Goals as goal

pub invariant_of-result : goal.invariant_of-result
invariant_of-result c = subst AreDots (sym c.in_ok-dots.ensures) (dots_at c.args.dot.now c.args.texts.now c.requires.numbered c.requires.rising)

pub returns : goal.returns
returns c = ap set_of c.in_ok-dots.ensures
