use Rattle.top_call.proofs.Settles.{report_played}
use Rattle.top_call.proofs.running.play_run.Goals as goal

pub returns : goal.returns
returns g c = report_played g.K.Keeper c.args.script.now c.args.keepers.items c.report_with_clients.result.keepers.items c.report_with_clients.result.ending c.report_with_clients.ensures
