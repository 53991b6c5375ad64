use Rattle.top_call.proofs.Settles.{watch_played}
use Rattle.top_call.proofs.watching.play_watched.Goals as goal

pub returns : goal.returns
returns g c = watch_played g.K.Keeper c.args.script.now c.args.keepers.items c.report_with_followers.result.keepers.items c.report_with_followers.result.ending c.report_with_followers.ensures
