use Rattle.std.proofs.Common.{◌<◌, arith}
use Rattle.base_vectors.specs.Vectors.{number_at}
use Rattle.trace_checker.proofs.rules.is_held.Goals as goal

pub returns-then-count-at : goal.returns-then-count-at
returns-then-count-at c =
    let risen : number_at c.args.mine.now c.args.id < number_at c.args.known.now c.args.id = omega (arith, c.if-count-at.true, c.at-count.ensures.value, c.at.ensures.value) in
    (λ e h. c.holds_last.ensures.0 e, λ h. c.holds_last.ensures.1 (h risen))
