use Rattle.std.proofs.Common.{subst, string_bytes}
use Rattle.report_lines.specs.Kept.{IsReportOver}
use Rattle.report_lines.specs.Telling.{TellsSteps}
use Rattle.report_lines.proofs.Runs.{ends_report, gave_up}
use Rattle.report_lines.proofs.playing.report.Goals as goal

pub returns-in-Ok-plain_steps : goal.returns-in-Ok-plain_steps
returns-in-Ok-plain_steps g c =
    let first = c.in-Ok.world in
    let last = c.plain_steps.new.world in
    let text = string_bytes c.plain_steps.new.text in
    ends_report g.T.SpelledData c.args.script.now c.requires.script c.args.keepers.items first c.requires.keepers c.in-Ok.ensures c.finished.result.keepers.items last text
    (subst (λ steps. TellsSteps g.T.SpelledData steps first last text) c.as_slice.ensures c.in-Ok-plain_steps.ensures) c.finished.ensures.keepers c.finished.result.ending c.finished.ensures.ending

pub returns-in-Err-plain_steps : goal.returns-in-Err-plain_steps
returns-in-Err-plain_steps g c =
    gave_up g.T.SpelledData c.args.script.now c.requires.script c.args.keepers.items c.in-Ok.world c.requires.keepers c.in-Ok.ensures
    (IsReportOver g.T.Replica.data_type g.T.SpelledData.history_byte g.T.SpelledData.history_spelled g.K.Keeper) c.ended.result.keepers.items c.plain_steps.new.world c.ended.result.ending
    c.in-Err-plain_steps.ensures c.ended.ensures.keepers c.ended.ensures.ending
