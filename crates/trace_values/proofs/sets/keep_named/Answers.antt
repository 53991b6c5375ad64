use Rattle.trace_values.proofs.Keeping.{on_ok}
use Rattle.trace_values.proofs.ElementLaws.{named_one}
use Rattle.trace_values.proofs.sets.keep_named.Goals as goal

pub returns : goal.returns
returns c = on_ok c.mark.result _ _ (λ marked. named_one c.args.elements.now.items c.place_of.new.elements.items c.in_ok-place.place c.args.name.now c.args.adding c.args.id c.args.number
    c.index_mut.result.now c.mark.new.element c.in_ok-place.ensures c.index_mut.ensures.value marked) c.mark.ensures
