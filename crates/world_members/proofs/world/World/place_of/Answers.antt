use Rattle.std.proofs.Common.{◌∙◌, sym, ap, arith, Some}
use Rattle.member_views.specs.Sound.{last_view}
use Rattle.world_places.proofs.Seats.{few_places, seat_found, last_sound, never_empty}
use Rattle.world_members.proofs.world.World.place_of.Goals as goal

pub returns : goal.returns
returns g c =
    let world = c.args.self.now in
    let sound = last_sound world.views c.last.ensures.sound in
    let seat = seat_found world.views c.args.id c.last.result.now c.place_of.result (Some c.in_ok-place.place) c.last.ensures.last c.place_of.ensures c.in_ok-place.was in
    let small = few_places (last_view world.views) sound c.args.id c.in_ok-place.place seat in
    let there = seat ∙ ap Some (sym c.from.ensures) in
    record { sound = sound; seat = there; within = omega (arith, world.nodes.ok.0, world.eight_nodes); there = never_empty world.views world.nodes.items world.spare.items world.seated c.args.id c.from.result sound there }
