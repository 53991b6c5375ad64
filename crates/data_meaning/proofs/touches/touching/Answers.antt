use Rattle.std.proofs.Common.{Bool, List, map, add-one, ap, sym, ◌∙◌}
use Rattle.std.specs.List.{zip}
use Rattle.data_meaning.specs.declared.record.Record.{Record}
use Rattle.data_meaning.specs.Touching.{touches_by, touching}
use Rattle.data_meaning.proofs.touches.touching.Goals as goal

pub loop-record-preserved : goal.loop-record-preserved
loop-record-preserved c =
    c.in_ok-touching-2.ensures
    ∙ ap (λ (before : List Bool). map (λ (r : Record). touches_by (zip c.args.records.now before) c.args.element.now r.past r.action) c.args.records.now) (c.deref.ensures.value ∙ c.loop-record.invariant)
    ∙ ap (touching c.args.records.now c.args.element.now) (sym (add-one c.loop-record._record-index))
