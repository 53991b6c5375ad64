use Rattle.std.proofs.Common.{ℕ, ◌<◌, ◌≤◌, ◌∙◌, length, arith, subst, ap}
use Rattle.std.specs.Prelude.{◌==◌}
use Rattle.model_members.specs.View.{Member}
use Rattle.world_places.specs.Sending.{HasRoom}
use Rattle.std.proofs.lemmas.List.{take_all}
use Rattle.world_places.proofs.Sendings.{room_for_more, room_for_members}
use Rattle.world_places.proofs.sending.reserve.Goals as goal

pub loop-member-preserved : goal.loop-member-preserved
loop-member-preserved g c =
    let members = c.members-member-items.result.now in
    let within : c.loop-member.member-index < length members = omega (arith, c.loop-member-test.true) in
    record {
      same = c.reserve_on.ensures.same ∙ c.loop-member.invariant.same;
      room = room_for_more members c.loop-member.member-index c.member-item.result within c.member-item.is c.reserve_on.new.row c.args.room (c.reserve_on.ensures.others _ c.loop-member.invariant.room)
          (subst (λ (to : ℕ). HasRoom (λ id. id == to) c.args.room c.reserve_on.new.row) (ap (λ (m : Member). m.identity) c.member.view_is) c.in_ok-reserve_on.ensures.room);
    }

pub returns-clause-room : goal.returns-clause-room
returns-clause-room g c =
    let members = c.members-member-items.result.now in
    let all : length members ≤ c.loop-member.member-index = omega (arith, c.loop-member-test.false) in
    room_for_members c.args.view.now.members _ (take_all c.loop-member.member-index members all ∙ c.members-member-items.ensures.members) c.loop-member.row c.args.room c.loop-member.invariant.room
