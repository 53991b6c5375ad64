use Rattle.model_members.specs.Script.{exchange}
use Rattle.member_node.specs.Steps.{replication}
use Rattle.world_members.specs.Settling.{Settles}
use Rattle.world_members.proofs.SettleParts.{called_for}
use Rattle.world_members.proofs.world.World.sweep.Given as goal

abbrev pub invariant-loop-id : goal.invariant-loop-id
invariant-loop-id g l = Settles g.T.SpelledData (called_for (exchange (replication g.T.Replica g.T.SpelledData) l.lead) l.id-items l.id-index) l.initial.self l.self l.initial.events l.events
