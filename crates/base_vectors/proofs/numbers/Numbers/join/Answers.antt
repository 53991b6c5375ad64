use Rattle.std.proofs.Common.{◌∙◌, ap, arith, max, slice_index}
use Rattle.std.proofs.lemmas.List.{with_items_is}
use Rattle.base_vectors.specs.Words.{of_words}
use Rattle.base_vectors.proofs.Views.{both_joined}
use Rattle.base_vectors.proofs.numbers.Numbers.join.Goals as goal

pub returns-clause-ok : goal.returns-clause-ok
returns-clause-ok c =
    ap of_words (with_items_is c.lengthen.new.words c.raise_each.new.words (omega arith))
    ∙ both_joined c.self.inside.words.items c.other.inside.words.items c.raise_each.new.words c.args.self.now c.args.other.now c.self.view_is c.self.invariant c.other.view_is c.other.invariant
    (λ i. c.raise_each.ensures i
    ∙ ap (λ ws. max (slice_index ws i) (slice_index c.as_slice.result.now i)) c.as_mut_slice.ensures.value
    ∙ ap (λ n. max n (slice_index c.as_slice.result.now i)) (c.lengthen.ensures.same i)
    ∙ ap (λ ws. max (slice_index c.self.inside.words.items i) (slice_index ws i)) c.as_slice.ensures.value)
