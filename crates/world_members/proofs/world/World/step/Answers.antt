use Rattle.world_members.proofs.Settled.{remains_same}
use Rattle.world_members.proofs.Answering.{match_err}
use Rattle.world_members.proofs.world.World.step.Goals as goal

pub returns-in_err-events : goal.returns-in_err-events
returns-in_err-events g c = match_err _ _ c.from_residual.result c.from_residual.ensures.0 (remains_same g.T.SpelledData c.args.self.now c.args.step.now)
