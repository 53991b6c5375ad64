use Rattle.std.proofs.Common.{arith}
use Rattle.data_orset.proofs.Passes.{first_at}
use Rattle.data_orset.proofs.elements.is_first.Goals as goal

pub returns-else-index-eq0 : goal.returns-else-index-eq0
returns-else-index-eq0 c = first_at c.args.dots.now c.args.index c.same_element.result c.requires.dots c.requires.inside (omega arith) c.same_element.ensures
