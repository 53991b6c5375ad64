use Rattle.std.proofs.Common.{◌≡◌, ◌∙◌, ap, sym, arith}
use Rattle.std.proofs.lemmas.List.{get_or_past, get_or_read}
use Rattle.base_vectors.specs.Vectors.{number_at}
use Rattle.base_vectors.proofs.Views.{view_normal, number_of_word}
use Rattle.base_vectors.proofs.numbers.Numbers.at.Goals as goal

pub returns-then-index-len-clause-value : goal.returns-then-index-len-clause-value
returns-then-index-len-clause-value c =
    let same : c.from-index.result ≡ c.args.id = c.from-index.ensures ∙ c.number.ensures.value in
    get_or_read c.self.inside.words.items c.from-index.result c.index.result.now (omega arith) c.index.ensures 0
    ∙ number_of_word c.self.inside.words.items c.args.self.now c.from-index.result c.self.view_is c.self.invariant ∙ ap (number_at c.args.self.now) same

pub returns-then-index-len-clause-normal : goal.returns-then-index-len-clause-normal
returns-then-index-len-clause-normal c = view_normal c.self.inside.words.items c.args.self.now c.self.view_is

pub returns-else-index-len-clause-value : goal.returns-else-index-len-clause-value
returns-else-index-len-clause-value c =
    let same : c.from-index.result ≡ c.args.id = c.from-index.ensures ∙ c.number.ensures.value in
    sym (get_or_past c.self.inside.words.items c.from-index.result 0 (omega arith))
    ∙ number_of_word c.self.inside.words.items c.args.self.now c.from-index.result c.self.view_is c.self.invariant ∙ ap (number_at c.args.self.now) same

pub returns-else-index-len-clause-normal : goal.returns-else-index-len-clause-normal
returns-else-index-len-clause-normal c = view_normal c.self.inside.words.items c.args.self.now c.self.view_is
