use Rattle.std.proofs.Common.{◌∙◌}
use Rattle.trace_values.proofs.Keeping.{on_ok}
use Rattle.trace_values.proofs.RisingLaws.{pushed_row}
use Rattle.trace_values.proofs.rising.push_number.Goals as goal

pub returns : goal.returns
returns c = on_ok c.push.result _ _ (λ pushed. pushed_row c.args.rows.now.items c.lengthen.new.rows.items c.from-index.result c.args.id c.args.number c.index_mut.result.now c.push.new.self
    (c.from-index.ensures ∙ c.number.ensures.value) c.in_ok-lengthen.ensures.same c.in_ok-lengthen.ensures.long c.index_mut.ensures.value pushed) c.push.ensures
