use Rattle.std.proofs.Common.{◌<◌, sym, ◌∙◌, arith}
use Rattle.model_history.specs.Table.{identity_limit}
use Rattle.base_vectors.specs.Vectors.{number_at}
use Rattle.trace_values.proofs.Seeing.{live_found, none_live}
use Rattle.trace_values.proofs.elements.is_live.Goals as goal

pub returns-then-is_last_live : goal.returns-then-is_last_live
returns-then-is_last_live c =
    let small : c.in-Some.id < identity_limit = omega (arith, c.loop-place-test.true, c.limit-place-end.ensures.range, c.in-Some.ensures.value) in
    sym (live_found c.args.rows.now c.args.touches.now (number_at c.args.known.now) c.args.element.now c.in-Some.id small (sym c.is_last_live.ensures ∙ c.if-is_last_live.true))

pub returns : goal.returns
returns c = sym (none_live c.args.rows.now c.args.touches.now (number_at c.args.known.now) c.args.element.now c.loop-place.place c.loop-place.invariant
    (λ j from. c.limit-place-end.ensures.above j (omega (arith, c.loop-place-test.false, from))))
