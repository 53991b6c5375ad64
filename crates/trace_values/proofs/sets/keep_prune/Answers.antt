use Rattle.std.proofs.Common.{◌≡◌, length, ap, subst, ◌∙◌, arith, false}
use Rattle.base_vectors.specs.Vectors.{number_at}
use Rattle.trace_values.specs.Touches.{is_last_live}
use Rattle.trace_values.specs.Elements.{is_pruned, AreMarked}
use Rattle.trace_values.proofs.ElementLaws.{marked_more}
use Rattle.trace_values.proofs.sets.keep_prune.Goals as goal

pub loop-place-preserved : goal.loop-place-preserved
loop-place-preserved c =
    marked_more (is_pruned c.args.rows.now (number_at c.args.past.now) c.args.removed) (λ x. false) c.args.id c.args.number c.loop-place.place c.args.elements.now.items c.loop-place.elements.items c.index_mut-element.result.now c.mark.new.element
    c.loop-place.invariant (let count = c.loop-place.invariant.count in omega (arith, c.loop-place-test.true, c.len-place-end.ensures, count)) c.index_mut-element.ensures.value c.is_last_live-touching.result
    (c.is_last_live-touching.ensures ∙ ap (λ touches. is_last_live c.args.rows.now touches c.index_mut-element.result.now.name (number_at c.args.past.now) c.args.removed) c.as_slice.ensures.value)
    c.in_ok-mark.ensures

pub returns : goal.returns
returns c =
    let last : c.loop-place.place ≡ length c.args.elements.now.items = omega (arith, c.loop-place.auto.place-end, c.loop-place-test.false, c.len-place-end.ensures) in
    subst (λ n. AreMarked n (is_pruned c.args.rows.now (number_at c.args.past.now) c.args.removed) (λ x. false) c.args.id c.args.number c.args.elements.now.items c.loop-place.elements.items) last c.loop-place.invariant
