use Rattle.std.proofs.Common.{◌+◌, ◌∙◌, arith, ap, subst, sym}
use Rattle.base_vectors.specs.Vectors.{number_at}
use Rattle.data_counters.proofs.Sums.{IsSumBelow, sum_more, sum_all, sum_small}
use Rattle.data_counters.proofs.counter.GCounter.sum.Goals as goal
use Rattle.data_counters.proofs.counter.GCounter.sum.Goals.{in-Some, in_default}

pub loop-number-preserved : goal.loop-number-preserved
loop-number-preserved c = elim c.match-new.branch [
  | in-Some w ↦
      let f = number_at c.args.self.now.shares in
      subst (IsSumBelow f (c.loop-number.number + 1)) (sym (w.total-is ∙ ap (λ n. c.loop-number.total + n) w.from-total.ensures))
      (sum_more f c.loop-number.number w.in-Some.id c.loop-number.total w.number.result w.in-Some.ensures.value (w.number.ensures.value ∙ w.at.ensures.value) w.number.type_inv c.loop-number.invariant)
  | in_default w ↦ absurd (let never = w.in_default.ensures.variant.1 (omega arith) in cc)
]

pub returns-clause-value : goal.returns-clause-value
returns-clause-value c = sum_all (number_at c.args.self.now.shares) c.loop-number.number c.loop-number.total (omega arith) (λ i l. c.limit-number-end.ensures.above i (omega arith)) c.loop-number.invariant

pub returns-clause-range : goal.returns-clause-range
returns-clause-range c = sum_small (number_at c.args.self.now.shares) c.loop-number.number c.loop-number.total (omega arith) c.loop-number.invariant
