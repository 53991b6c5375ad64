use Rattle.model_members.specs.Script.{sweep}
use Rattle.member_node.specs.Steps.{replication}
use Rattle.world_members.proofs.SettleParts.{settles_or_then, halts_first, goes_sweep}
use Rattle.world_members.proofs.Answering.{match_err}
use Rattle.world_members.proofs.world.World.sweep_twice.Goals as goal

pub returns-in_err-sweep : goal.returns-in_err-sweep
returns-in_err-sweep g c =
    match_err _ _ c.from_residual.result c.from_residual.ensures.0
    (halts_first g.T.SpelledData (sweep (replication g.T.Replica g.T.SpelledData)) (sweep (replication g.T.Replica g.T.SpelledData)) (goes_sweep (replication g.T.Replica g.T.SpelledData)) c.args.self.now c.sweep.new.self c.args.events.now c.in_err-sweep.ensures)

pub returns : goal.returns
returns g c =
    settles_or_then g.T.SpelledData (sweep (replication g.T.Replica g.T.SpelledData)) (sweep (replication g.T.Replica g.T.SpelledData)) (goes_sweep (replication g.T.Replica g.T.SpelledData)) c.args.self.now c.sweep.new.self c.sweep-2.new.self c.args.events.now
    c.sweep.new.events c.in_ok-sweep.ensures c.sweep-2.new.events c.sweep-2.result c.sweep-2.ensures
