use Rattle.std.proofs.Common.{◌∙◌, sym, subst, refl}
use Rattle.model_members.specs.View.{View}
use Rattle.world_places.specs.Sending.{HasRoom, receivers}
use Rattle.member_node.proofs.Standing.{unchanged_same, on_err}
use Rattle.world_places.proofs.Sendings.{steps_on_row}
use Rattle.world_places.proofs.sending.step_on_row.Goals as goal

pub returns-in_err-sent-clause-err : goal.returns-in_err-sent-clause-err
returns-in_err-sent-clause-err g c = on_err c.from_residual.result (unchanged_same c.args.node.now, refl)

pub returns-in_err-make_room-clause-err : goal.returns-in_err-make_room-clause-err
returns-in_err-make_room-clause-err g c = on_err c.from_residual-in_err-make_room.result (unchanged_same c.args.node.now, c.make_room.ensures.same)

pub returns-clause-ok : goal.returns-clause-ok
returns-clause-ok g c =
    let node = c.args.node.now in
    steps_on_row g.T.SpelledData node c.args.input.now c.posted.result c.step.new.self c.in_ok-output.output c.args.row.now c.make_room.new.row c.posted.new.row c.in_ok-sent.sent c.view.result.now c.most_posts-room.result c.in_ok-output.ensures.step c.posted.ensures.reply c.posted.ensures.finished
    c.view.ensures c.most_posts-room.ensures c.make_room.ensures.same
    (subst (λ (view : View). HasRoom (receivers view c.args.input.now) c.most_posts-room.result c.make_room.new.row) (c.view-2.ensures ∙ sym c.view.ensures) c.in_ok-make_room.ensures.room)
    c.posted.ensures.row c.posted.ensures.told c.in_ok-sent.ensures.empty c.in_ok-sent.ensures.room
