use Rattle.top_call.proofs.Settles.{report_played}
use Rattle.top_call.proofs.answer.play.Goals as goal

pub returns : goal.returns
returns g c = report_played g.K.Keeper c.args.script.now c.args.keepers.items c.report.result.keepers.items c.report.result.ending c.report.ensures
