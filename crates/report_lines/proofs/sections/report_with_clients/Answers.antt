use Rattle.std.proofs.Common.{subst, string_bytes}
use Rattle.report_lines.specs.Kept.{IsReportOver}
use Rattle.report_lines.specs.Telling.{TellsSteps}
use Rattle.report_lines.proofs.Runs.{ends_report, gave_back}
use Rattle.report_lines.proofs.sections.report_with_clients.Goals as goal

pub returns-in-Ok-steps_told : goal.returns-in-Ok-steps_told
returns-in-Ok-steps_told g c =
    let first = c.in-Ok.world in
    let last = c.in-Ok-steps_told.world in
    let text = string_bytes c.steps_told.new.text in
    ends_report g.T.SpelledData c.args.script.now c.requires.script c.args.keepers.items first c.requires.keepers c.in-Ok.ensures c.finished.result.keepers.items last text
    (subst (λ steps. TellsSteps g.T.SpelledData steps first last text) c.as_slice.ensures c.in-Ok-steps_told.ensures) c.finished.ensures.keepers c.finished.result.ending c.finished.ensures.ending

pub returns-in-Err-steps_told : goal.returns-in-Err-steps_told
returns-in-Err-steps_told g c =
    gave_back g.T.SpelledData c.args.script.now c.requires.script c.args.keepers.items c.in-Ok.world c.requires.keepers c.in-Ok.ensures
    (IsReportOver g.T.Replica.data_type g.T.SpelledData.history_byte g.T.SpelledData.history_spelled g.K.Keeper) c.in-Err-steps_told.keepers.items c.in-Err-steps_told.ensures
