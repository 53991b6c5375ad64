use Rattle.std.proofs.Common.{subst, string_bytes}
use Rattle.report_lines.proofs.Runs.{gave_up}
use Rattle.report_followers.specs.Followed.{IsFollowedOver}
use Rattle.report_followers.specs.Watching.{WatchesSteps}
use Rattle.report_followers.proofs.Over.{ends_watch}
use Rattle.report_followers.proofs.playing.report_with_followers.Goals as goal

pub returns-in-Ok-all_steps : goal.returns-in-Ok-all_steps
returns-in-Ok-all_steps g c =
    let first = c.in-Ok.world in
    let last = c.all_steps.new.world in
    let text = string_bytes c.all_steps.new.text in
    ends_watch g.T.SpelledData c.args.script.now c.requires.script c.args.keepers.items first c.requires.keepers c.in-Ok.ensures c.finished.result.keepers.items last c.all_steps.new.desks text
    (subst (λ steps. WatchesSteps g.T.SpelledData steps first last c.all_steps.new.desks text) c.as_slice.ensures c.in-Ok-all_steps.ensures) c.finished.ensures.keepers c.finished.result.ending c.finished.ensures.ending

pub returns-in-Err-all_steps : goal.returns-in-Err-all_steps
returns-in-Err-all_steps g c =
    gave_up g.T.SpelledData c.args.script.now c.requires.script c.args.keepers.items c.in-Ok.world c.requires.keepers c.in-Ok.ensures
    (IsFollowedOver g.T.Replica.data_type g.T.SpelledData.history_byte g.T.SpelledData.history_spelled g.K.Keeper) c.ended.result.keepers.items c.all_steps.new.world c.ended.result.ending
    c.in-Err-all_steps.ensures c.ended.ensures.keepers c.ended.ensures.ending
