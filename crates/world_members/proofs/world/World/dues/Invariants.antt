use Rattle.std.proofs.Common.{◌≡◌}
use Rattle.std.specs.Prelude.{flat_map}
use Rattle.std.specs.List.{range_with_len}
use Rattle.model_members.specs.View.{identities_of}
use Rattle.member_views.specs.Sound.{last_view}
use Rattle.world_members.specs.Rounds.{dues_from}
use Rattle.world_members.proofs.world.World.dues.Given as goal

abbrev pub invariant-loop-number : goal.invariant-loop-number
invariant-loop-number g l = l.dues ≡ flat_map (dues_from l.self.links (identities_of (last_view l.self.views))) (range_with_len 0 l.number)
