use Rattle.std.proofs.Common.{subst}
use Rattle.report_lines.specs.Kept.{IsPlayed}
use Rattle.top_call.specs.Answers.{IsReportOver}
use Rattle.top_call.proofs.Inside.{over, played_inside}
use Rattle.top_call.proofs.behind.play_behind.Goals as goal

pub returns-in-Ok : goal.returns-in-Ok
returns-in-Ok g c =
    played_inside g.K.Keeper c.args.script.now c.args.period c.args.keepers.items c.requires.plain c.play.result.ending c.play.result.keepers.items
    (subst (λ ws. IsPlayed (over g.K.Keeper) (IsReportOver (over g.K.Keeper)) c.args.script.now ws c.play.result.keepers.items c.play.result.ending) c.in-Ok.ensures.gathering c.play.ensures) c.taken_out.result.ending c.taken_out.result.keepers.items c.taken_out.ensures
