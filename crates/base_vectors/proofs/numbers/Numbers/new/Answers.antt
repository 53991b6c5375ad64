use Rattle.std.proofs.Common.{ap, ◌∙◌}
use Rattle.base_vectors.specs.Words.{of_words}
use Rattle.base_vectors.proofs.Views.{of_words-empty}
use Rattle.base_vectors.proofs.numbers.Numbers.new.Goals as goal

pub returns : goal.returns
returns c = ap of_words c.new.ensures.items ∙ of_words-empty
