use Rattle.std.proofs.Common.{subst}
use Rattle.report_lines.specs.Kept.{IsSummaryOver}
use Rattle.report_lines.specs.Telling.{PassesSteps}
use Rattle.report_lines.proofs.Runs.{ends_summary, gave_up}
use Rattle.report_lines.proofs.playing.summary.Goals as goal

pub returns-in-Ok-untold_steps : goal.returns-in-Ok-untold_steps
returns-in-Ok-untold_steps g c =
    let first = c.in-Ok.world in
    let last = c.untold_steps.new.world in
    let passes = subst (λ steps. PassesSteps g.T.SpelledData steps first last) c.as_slice.ensures c.in-Ok-untold_steps.ensures in
    ends_summary g.T.SpelledData c.args.script.now c.requires.script c.args.keepers.items first c.requires.keepers c.in-Ok.ensures c.finished.result.keepers.items last passes.0 passes.1 c.finished.ensures.keepers
    c.requires.plain _ c.finished.result.ending c.new.ensures.bytes c.finished.ensures.ending

pub returns-in-Err-untold_steps : goal.returns-in-Err-untold_steps
returns-in-Err-untold_steps g c =
    gave_up g.T.SpelledData c.args.script.now c.requires.script c.args.keepers.items c.in-Ok.world c.requires.keepers c.in-Ok.ensures
    (IsSummaryOver g.T.Replica.data_type g.T.SpelledData.history_byte g.T.SpelledData.history_spelled g.K.Keeper) c.ended.result.keepers.items c.untold_steps.new.world c.ended.result.ending
    c.in-Err-untold_steps.ensures c.ended.ensures.keepers c.ended.ensures.ending
