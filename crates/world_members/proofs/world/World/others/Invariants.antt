use Rattle.std.proofs.Common.{◌≡◌, map, take, filter}
use Rattle.std.specs.Prelude.{not, ◌==◌}
use Rattle.model_members.specs.View.{Member}
use Rattle.world_members.proofs.world.World.others.Given as goal

abbrev pub invariant-loop-member : goal.invariant-loop-member
invariant-loop-member g l = l.ids ≡ filter (λ i. not (i == l.lead)) (map (λ (m : Member). m.identity) (take l.member-index l.member-items))
