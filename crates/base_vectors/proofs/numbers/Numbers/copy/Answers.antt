use Rattle.base_vectors.proofs.Views.{view_normal}
use Rattle.base_vectors.proofs.numbers.Numbers.copy.Goals as goal

pub returns-in_err-words-clause-normal : goal.returns-in_err-words-clause-normal
returns-in_err-words-clause-normal c = view_normal c.self.inside.words.items c.args.self.now c.self.view_is

pub returns-clause-normal : goal.returns-clause-normal
returns-clause-normal c = view_normal c.self.inside.words.items c.args.self.now c.self.view_is
