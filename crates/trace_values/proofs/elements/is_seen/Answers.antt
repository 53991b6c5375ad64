use Rattle.std.proofs.Common.{◌<◌, sym, ◌∙◌, arith}
use Rattle.model_history.specs.Table.{identity_limit}
use Rattle.base_vectors.specs.Vectors.{number_at}
use Rattle.trace_values.proofs.Seeing.{seen_found, none_seen}
use Rattle.trace_values.proofs.elements.is_seen.Goals as goal

pub returns-then-sees : goal.returns-then-sees
returns-then-sees c =
    let small : c.in-Some.other < identity_limit = omega (arith, c.loop-place-test.true, c.limit-place-end.ensures.range, c.in-Some.ensures.value) in
    sym (seen_found c.args.rows.now c.args.touches.now (number_at c.args.known.now) c.args.id c.args.number c.in-Some.other small (sym c.sees.ensures ∙ c.if-sees.true))

pub returns : goal.returns
returns c = sym (none_seen c.args.rows.now c.args.touches.now (number_at c.args.known.now) c.args.id c.args.number c.loop-place.place c.loop-place.invariant
    (λ j from. c.limit-place-end.ensures.above j (omega (arith, c.loop-place-test.false, from))))
