use Rattle.top_call.proofs.Settles.{summary_played}
use Rattle.top_call.proofs.answer.play_to_the_end.Goals as goal

pub returns : goal.returns
returns g c = summary_played g.K.Keeper c.args.script.now c.args.keepers.items c.summary.result.keepers.items c.summary.result.ending c.summary.ensures
