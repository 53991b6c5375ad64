use Rattle.std.proofs.Common.{◌≡◌, sym, ℕ, subst, Option, Some, None}
use Rattle.std.specs.Option.{IfSome}
use Rattle.base_vectors.specs.Vectors.{Numbers, IsFirstLacking}
use Rattle.base_vectors.proofs.Views.{words_cover, first_of_words}
use Rattle.base_vectors.proofs.numbers.Numbers.first_lacking.Goals as goal

at_index : (id : Option ℕ) (index : ℕ) (m n : Numbers) → IfSome id (λ i. i ≡ index) → IsFirstLacking m n index → IfSome id (IsFirstLacking m n)
at_index None index m n is h = tt
at_index (Some i) index m n is h = subst (IsFirstLacking m n) (sym is) h

pub returns-in_err-index-clause-none : goal.returns-in_err-index-clause-none
returns-in_err-index-clause-none c = rw c.from_residual.ensures (
    let covers = rw c.as_slice.ensures.value at (rw c.as_slice-2.ensures.value at c.in_err-index.ensures.none) in
    words_cover c.self.inside.words.items c.needs.inside.words.items c.args.self.now c.args.needs.now c.self.view_is c.self.invariant c.needs.view_is c.needs.invariant covers)

pub returns-clause-some : goal.returns-clause-some
returns-clause-some c =
    let below = rw c.as_slice.ensures.value at (rw c.as_slice-2.ensures.value at c.in_ok-index.ensures.some) in
    at_index c.new.result c.in_ok-index.index c.args.self.now c.args.needs.now c.new.ensures.value
    (first_of_words c.self.inside.words.items c.needs.inside.words.items c.args.self.now c.args.needs.now c.in_ok-index.index c.self.view_is c.self.invariant c.needs.view_is c.needs.invariant below.1)
