use Rattle.std.proofs.Common.{◌≡◌, ◌+◌, ◌++◌, ◌≤◌, ◌∷◌, [], ℕ, List, length, slice_index, length-append, ap, sym, ◌∙◌, arith}
use Rattle.model_history.specs.Table.{identity_limit}
use Rattle.base_vectors.specs.Vectors.{number_at}
use Rattle.base_vectors.proofs.Views.{number_of_word, none_above}
use Rattle.base_vectors.proofs.Readings.{pairs_below, pairs_few, pairs_zero, pairs_more, pairs_end}
use Rattle.base_vectors.proofs.numbers.Numbers.count.Goals as goal
use Rattle.base_vectors.proofs.numbers.Numbers.count.Goals.{then-word-gt0, else-word-gt0}

one_more : (count : ℕ) (xs : List (ℕ × ℕ)) (x : ℕ × ℕ) (after : List (ℕ × ℕ)) → count ≡ length xs → after ≡ xs ++ x ∷ [] → count + 1 ≡ length after
one_more count xs x after is more = let all : length after ≡ length (xs ++ x ∷ []) = ap length more in omega (arith, all, length-append xs (x ∷ []))

pub overflow_add-count : goal.overflow_add-count
overflow_add-count c =
    let few : length c.self.inside.words.items ≤ identity_limit = c.self.invariant in
    omega (arith, c.loop-word.invariant, ap length c.deref-word-items.ensures.value, pairs_few (number_at c.args.self.now) 0 c.loop-word.word-index)

pub loop-word-preserved : goal.loop-word-preserved
loop-word-preserved c =
    let same : number_at c.args.self.now c.loop-word.word-index ≡ slice_index c.deref-word-items.result.now c.loop-word.word-index =
    sym (number_of_word c.self.inside.words.items c.args.self.now c.loop-word.word-index c.self.view_is c.self.invariant) ∙ ap (λ ws. slice_index ws c.loop-word.word-index) (sym c.deref-word-items.ensures.value) in
    elim c.if-word-gt0.branch [
      | then-word-gt0 w ↦ rw w.count-is (one_more c.loop-word.count (pairs_below (number_at c.args.self.now) c.loop-word.word-index) _ _ c.loop-word.invariant
          (pairs_more (number_at c.args.self.now) c.loop-word.word-index (omega (arith, same, w.if-word-gt0.true))))
      | else-word-gt0 w ↦ rw w.count-is (c.loop-word.invariant ∙ ap length (sym (pairs_zero (number_at c.args.self.now) c.loop-word.word-index (omega (arith, same, w.if-word-gt0.false)))))
    ]

pub returns : goal.returns
returns c =
    let few : length c.self.inside.words.items ≤ identity_limit = c.self.invariant in
    let end : length c.self.inside.words.items ≤ c.loop-word.word-index = omega (arith, ap length c.deref-word-items.ensures.value) in
    let in_all : c.loop-word.word-index ≤ identity_limit = omega (arith, ap length c.deref-word-items.ensures.value) in
    c.loop-word.invariant ∙ ap length (pairs_end (number_at c.args.self.now) c.loop-word.word-index in_all
    (λ i l. none_above c.self.inside.words.items c.args.self.now i c.self.view_is c.self.invariant (omega arith)))
