use Rattle.std.proofs.Common.{◌≡◌, ap, ◌∙◌, arith}
use Rattle.model_history.specs.Table.{with_at}
use Rattle.base_vectors.specs.Vectors.{number_at, raised, removed}
use Rattle.data_deltalog.proofs.Needs.{dropped_at, set_at}
use Rattle.data_deltalog.proofs.vectors.needed.Goals as goal
use Rattle.data_deltalog.proofs.vectors.needed.Goals.{then-after-gt0+in_ok-raise, else-after-gt0}

pub returns : goal.returns
returns c = λ i.
    let id = c.args.origin in
    let m = c.args.before.now in
    let copied = c.in_ok-needed.ensures.same in
    elim c.if-after-gt0.branch [
      | then-after-gt0+in_ok-raise w ↦
          ap (λ n. number_at n i) w.needed-is ∙ ap (λ n. number_at n i) w.in_ok-raise.ensures.ok
          ∙ ap (λ n. number_at (raised n id c.args.after) i) (c.without.ensures ∙ ap (λ n. removed n id) copied)
          ∙ set_at m c.in_ok-needed.ensures.normal id c.number-below_limit.ensures.range c.args.after i
      | else-after-gt0 w ↦
          let none : 0 ≡ c.args.after = omega arith in
          ap (λ n. number_at n i) w.needed-is
          ∙ ap (λ n. number_at n i) (c.without.ensures ∙ ap (λ n. removed n id) copied)
          ∙ dropped_at m c.in_ok-needed.ensures.normal id c.number-below_limit.ensures.range i
          ∙ ap (λ n. with_at (number_at m) id n i) none
    ]
