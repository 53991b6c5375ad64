use Rattle.std.proofs.Common.{◌≡◌, map, take}
use Rattle.model_members.specs.View.{Member}
use Rattle.world_members.proofs.world.World.running.Given as goal

abbrev pub invariant-loop-member : goal.invariant-loop-member
invariant-loop-member g l = l.ids ≡ map (λ (m : Member). m.identity) (take l.member-index l.member-items)
