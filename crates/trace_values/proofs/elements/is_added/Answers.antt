use Rattle.std.proofs.Common.{◌<◌, ap, sym, ◌∙◌, arith}
use Rattle.std.specs.Prelude.{not, ◌==◌}
use Rattle.model_history.specs.Table.{identity_limit}
use Rattle.base_vectors.specs.Vectors.{number_at}
use Rattle.trace_values.proofs.Seeing.{added_found, none_added, is_some}
use Rattle.trace_values.proofs.elements.is_added.Goals as goal

pub returns-then-last_at-ne0 : goal.returns-then-last_at-ne0
returns-then-last_at-ne0 c =
    let small : c.in-Some.id < identity_limit = omega (arith, c.loop-place-test.true, c.limit-place-end.ensures.range, c.in-Some.ensures.value) in
    sym (added_found c.args.adds.now (number_at c.args.known.now) c.in-Some.id small (ap (λ n. not (n == 0)) (sym c.last_at.ensures) ∙ is_some c.last_at.result c.if-last_at-ne0.true))

pub returns : goal.returns
returns c = sym (none_added c.args.adds.now (number_at c.args.known.now) c.loop-place.place c.loop-place.invariant
    (λ j from. c.limit-place-end.ensures.above j (omega (arith, c.loop-place-test.false, from))))
