use Rattle.std.proofs.Common.{◌≡◌, ℕ, ◌+◌, ◌≤◌, ap, ◌∙◌, arith}
use Rattle.model_history.specs.Table.{with_at}
use Rattle.base_vectors.specs.Vectors.{number_at, numbers_of, removed}
use Rattle.data_counters.specs.Laws.{same_counter, pruned_by_steps}
use Rattle.data_counters.proofs.counter.GCounter.take_over.Goals as goal

pub returns-clause-pruned : goal.returns-clause-pruned
returns-clause-pruned c =
    let shares = c.args.self.now.shares in
    let owner = c.args.owner in
    let sum : ℕ = c.in-Some.sum in
    let total : sum ≡ number_at shares owner + number_at shares c.args.removed =
    c.in-Some.ensures.value ∙ ap (λ n. n + c.number.result) c.at-owner_share.ensures.value ∙ ap (λ n. number_at shares owner + n) (c.number.ensures.value ∙ c.at-removed_share.ensures.value) in
    let up : number_at shares owner ≤ sum = omega (arith, total) in
    same_counter _ _ (c.without.ensures ∙ ap (λ m. removed m c.args.removed) c.in_ok-raise.ensures.ok
    ∙ pruned_by_steps shares owner sum c.args.removed up
    ∙ ap (λ n. numbers_of (with_at (with_at (number_at shares) owner n) c.args.removed 0)) total)
