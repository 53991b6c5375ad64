use Rattle.std.proofs.Common.{◌∙◌, arith, map, set}
use Rattle.std.proofs.lemmas.Result.{IfOk-weaker}
use Rattle.world_places.specs.declared.sending.Answered.{Answered}
use Rattle.world_places.specs.Channels.{channels_in}
use Rattle.world_places.specs.Sending.{IsStepOnRow, IsStepOnLinks}
use Rattle.world_places.proofs.Sendings.{weaker_err, same_rows, steps_on_links}
use Rattle.world_places.proofs.sending.step_on.Goals as goal

pub returns-clause-ok : goal.returns-clause-ok
returns-clause-ok g c =
    let rows = c.links.inside.rows in
    let old = c.index_mut.result.now in
    let new = c.step_on_made.new.row in
    let after = map channels_in (set rows.items c.from-sender.result new) in
    IfOk-weaker c.step_on_made.result (λ (answered : Answered). IsStepOnRow g.T.SpelledData c.args.node.now c.args.input.now answered c.step_on_made.new.node (channels_in old) (channels_in new))
    (λ (answered : Answered). IsStepOnLinks g.T.SpelledData c.args.node.now c.args.input.now answered c.step_on_made.new.node c.args.at c.args.links.now after)
    (λ answered s.
    steps_on_links g.T.SpelledData c.args.node.now c.args.input.now answered c.step_on_made.new.node rows.items c.from-sender.result c.args.at old new c.args.links.now (let a = c.links.invariant in let b = c.from-sender.ensures in let d = c.number.ensures.range in omega arith)
    c.index_mut.ensures.value (c.from-sender.ensures ∙ c.number.ensures.value) c.links.view_is s) c.step_on_made.ensures.ok

pub returns-clause-err : goal.returns-clause-err
returns-clause-err g c =
    let rows = c.links.inside.rows in
    weaker_err c.step_on_made.result _ _ (λ kept. (kept.0, same_rows rows.items c.from-sender.result c.index_mut.result.now c.step_on_made.new.row c.index_mut.ensures.value kept.1 ∙ c.links.view_is)) c.step_on_made.ensures.err
