use Rattle.std.proofs.Common.{◌∙◌, ap}
use Rattle.std.proofs.lemmas.Result.{IfOk-weaker}
use Rattle.world_places.specs.declared.sending.Answered.{Answered}
use Rattle.world_places.specs.Channels.{row_of, made, channels_in}
use Rattle.world_places.specs.Sending.{IsStepOnRow}
use Rattle.member_node.proofs.Standing.{unchanged_same, on_err}
use Rattle.world_places.proofs.Made.{made_same}
use Rattle.world_places.proofs.Sendings.{weaker_err, step_made}
use Rattle.world_places.proofs.sending.step_on_made.Goals as goal

pub returns-in_err-make_row-clause-err : goal.returns-in_err-make_row-clause-err
returns-in_err-make_row-clause-err g c = on_err c.from_residual.result (unchanged_same c.args.node.now, ap made c.in_err-make_row.ensures.err)

pub returns-clause-ok : goal.returns-clause-ok
returns-clause-ok g c =
    let node = c.args.node.now in
    let input = c.args.input.now in
    let old = c.args.row.now in
    let row = c.make_row.new.row in
    let new = c.step_on_row.new.row in
    let after = c.step_on_row.new.node in
    IfOk-weaker c.step_on_row.result (λ (answered : Answered). IsStepOnRow g.T.SpelledData node input answered after (row_of row) (row_of new))
    (λ (answered : Answered). IsStepOnRow g.T.SpelledData node input answered after (channels_in old) (channels_in new))
    (λ answered s. step_made g.T.SpelledData node input answered after (row_of old) (row_of row) (row_of new) c.in_ok-make_row.ensures.ok s) c.step_on_row.ensures.ok

pub returns-clause-err : goal.returns-clause-err
returns-clause-err g c =
    weaker_err c.step_on_row.result _ _ (λ kept. (kept.0, made_same (row_of c.args.row.now) (row_of c.step_on_row.new.row) (kept.1 ∙ c.in_ok-make_row.ensures.ok))) c.step_on_row.ensures.err
