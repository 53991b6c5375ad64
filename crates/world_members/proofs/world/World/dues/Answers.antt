use Rattle.std.proofs.Common.{◌∙◌, ◌++◌, [], ap}
use Rattle.model_members.specs.View.{identities_of}
use Rattle.member_views.specs.Sound.{last_view}
use Rattle.world_members.specs.Rounds.{dues_from}
use Rattle.world_members.proofs.Rounding.{more_of, id_is}
use Rattle.world_members.proofs.world.World.dues.Goals as goal

pub loop-number-preserved : goal.loop-number-preserved
loop-number-preserved g c =
    let world = c.args.self.now in
    let each = dues_from world.links (identities_of (last_view world.views)) in
    more_of each [] c.loop-number.dues c.add_dues_from.new.dues c.loop-number.number c.loop-number.invariant
    (c.in_ok-add_dues_from.ensures ∙ ap (λ n. c.loop-number.dues ++ each n) (id_is c.new.result c.unwrap-from.result c.loop-number.number c.unwrap-from.ensures c.new.ensures.value))
