use Rattle.std.proofs.Common.{◌<◌, ◌≤◌, ap, sym, ◌∙◌, refl, arith, length, get_or-set_same, get_or-set_other}
use Rattle.std.proofs.lemmas.List.{get_or_past}
use Rattle.model_history.specs.Table.{with_at}
use Rattle.base_vectors.specs.Vectors.{number_at, numbers_of}
use Rattle.base_vectors.proofs.Views.{one_changed}
use Rattle.base_vectors.proofs.numbers.Numbers.without.Goals as goal

pub returns-then-index-len : goal.returns-then-index-len
returns-then-index-len c =
    let l : c.from-index.result < length c.self.inside.words.items = omega arith in
    one_changed c.self.inside.words.items _ c.args.self.now c.from-index.result 0 c.self.view_is c.self.invariant
    (get_or-set_same c.self.inside.words.items c.from-index.result 0 0 l) (λ i ne. get_or-set_other c.self.inside.words.items c.from-index.result i 0 0 ne)
    ∙ ap (λ k. numbers_of (with_at (number_at c.args.self.now) k 0)) (c.from-index.ensures ∙ c.number.ensures.value)

pub returns-else-index-len : goal.returns-else-index-len
returns-else-index-len c =
    let l : length c.self.inside.words.items ≤ c.from-index.result = omega arith in
    sym c.self.view_is
    ∙ one_changed c.self.inside.words.items c.self.inside.words.items c.args.self.now c.from-index.result 0 c.self.view_is c.self.invariant
    (get_or_past c.self.inside.words.items c.from-index.result 0 l) (λ i ne. refl)
    ∙ ap (λ k. numbers_of (with_at (number_at c.args.self.now) k 0)) (c.from-index.ensures ∙ c.number.ensures.value)
