use Rattle.std.proofs.Common.{arith}
use Rattle.base_vectors.proofs.Views.{none_above}
use Rattle.base_vectors.proofs.numbers.Numbers.limit.Goals as goal

pub returns-clause-above : goal.returns-clause-above
returns-clause-above c = λ i l. none_above c.self.inside.words.items c.args.self.now i c.self.view_is c.self.invariant (omega arith)
