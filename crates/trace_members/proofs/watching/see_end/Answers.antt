use Rattle.trace_members.proofs.SeenWorlds.{sees_end_ok}
use Rattle.trace_members.proofs.watching.see_end.Goals as goal

pub returns-clause-saw : goal.returns-clause-saw
returns-clause-saw g c = sees_end_ok g.T.SpelledData c.see_members.result c.args.world.now c.args.recorder.now c.see_members.new.recorder c.see_members.ensures.saw
