use Rattle.std.proofs.Common.{◌≡◌, ◌<◌, ◌∙◌, ap, arith, max, length, get_or-set_same, get_or-set_other}
use Rattle.std.proofs.lemmas.List.{get_or_read}
use Rattle.model_history.specs.Table.{with_at}
use Rattle.base_vectors.specs.Vectors.{number_at, numbers_of}
use Rattle.base_vectors.proofs.Views.{one_changed, number_of_word}
use Rattle.base_vectors.proofs.numbers.Numbers.raise.Goals as goal

pub returns-clause-ok : goal.returns-clause-ok
returns-clause-ok c =
    let few : c.from-index.result < length c.lengthen.new.words.items = omega (arith, c.in_ok-lengthen.ensures.ok) in
    let was : c.index.result.now ≡ number_at c.args.self.now c.from-index.result =
    get_or_read c.lengthen.new.words.items c.from-index.result c.index.result.now few c.index.ensures 0
    ∙ c.lengthen.ensures.same c.from-index.result ∙ number_of_word c.self.inside.words.items c.args.self.now c.from-index.result c.self.view_is c.self.invariant in
    let same = c.from-index.ensures ∙ c.number.ensures.value in
    one_changed c.self.inside.words.items _ c.args.self.now c.from-index.result c.max.result c.self.view_is c.self.invariant
    (get_or-set_same c.lengthen.new.words.items c.from-index.result c.max.result 0 few)
    (λ i ne. get_or-set_other c.lengthen.new.words.items c.from-index.result i c.max.result 0 ne ∙ c.lengthen.ensures.same i)
    ∙ ap (λ n. numbers_of (with_at (number_at c.args.self.now) c.from-index.result n)) (c.max.ensures ∙ ap (λ n. max n c.args.to) was)
    ∙ ap (λ k. numbers_of (with_at (number_at c.args.self.now) k (max (number_at c.args.self.now k) c.args.to))) same
