use Rattle.world_members.proofs.Rounding.{IsTurned}
use Rattle.world_members.proofs.world.World.round.Given as goal

abbrev pub invariant-loop-due : goal.invariant-loop-due
invariant-loop-due g l = IsTurned g.T.SpelledData l.due-items l.due-index l.initial.self l.self l.events
