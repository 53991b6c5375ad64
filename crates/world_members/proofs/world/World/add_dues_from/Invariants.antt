use Rattle.std.proofs.Common.{◌≡◌, ◌++◌, map, take}
use Rattle.std.specs.Prelude.{flat_map}
use Rattle.model_members.specs.View.{Member}
use Rattle.world_places.specs.Channels.{channel_at}
use Rattle.world_members.specs.Rounds.{due_between}
use Rattle.world_members.proofs.world.World.add_dues_from.Given as goal

abbrev pub invariant-loop-member : goal.invariant-loop-member
invariant-loop-member g l = l.dues ≡ l.initial.dues ++ flat_map (λ to. due_between l.from to (channel_at l.self.links l.from to)) (map (λ (m : Member). m.identity) (take l.member-index l.member-items))
