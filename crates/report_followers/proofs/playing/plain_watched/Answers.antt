use Rattle.std.proofs.Common.{sym, subst, string_bytes}
use Rattle.world_members.specs.Steps.{Plays}
use Rattle.report_lines.proofs.Runs.{model_step}
use Rattle.report_followers.proofs.Told.{on_told}
use Rattle.report_followers.proofs.playing.plain_watched.Goals as goal

pub returns : goal.returns
returns g c =
    on_told g.T.SpelledData c.told_after.result c.args.number c.args.step.now (model_step c.args.step.now c.requires) c.args.world.now c.step.new.self c.args.desks.now c.told_after.new.desks
    (string_bytes c.args.text.now) (string_bytes c.told_after.new.text) c.as_slice.result.now
    (subst (Plays g.T.SpelledData c.args.step.now c.args.world.now c.step.new.self) (sym c.as_slice.ensures) c.in_ok-events.ensures) c.told_after.ensures
