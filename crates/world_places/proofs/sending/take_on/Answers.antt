use Rattle.std.proofs.Common.{◌≡◌, sym, subst, Some}
use Rattle.member_node.specs.declared.input.Input.TheVariants as input
use Rattle.world_places.specs.Channels.{channel_at, message_on}
use Rattle.world_places.specs.Sending.{IsStepOnLinks}
use Rattle.world_places.specs.declared.sending.Answered.{Answered}
use Rattle.member_node.proofs.Standing.{unchanged_same, on_err}
use Rattle.world_places.proofs.sending.take_on.Goals as goal

pub returns-in_err-room-clause-err : goal.returns-in_err-room-clause-err
returns-in_err-room-clause-err g c = on_err c.from_residual.result (unchanged_same c.args.node.now, c.room.ensures.same)

pub returns-clause-ok : goal.returns-clause-ok
returns-clause-ok g c = λ message is.
    let spelling = g.T.SpelledData in
    let answered = c.in_ok-answered.answered in
    let there = subst (λ links. message_on (channel_at links c.args.from c.args.at) c.args.index ≡ Some message) (sym c.room.ensures.same) is in
    let begun = c.in_ok-answered.ensures.ok message there in
    let told : Answered = record answered { sent = c.keep_room-sent.result } in
    subst (λ links. IsStepOnLinks spelling c.args.node.now (input.Take c.args.from message) told c.take_in_room.new.node c.args.at c.args.links.now links) (sym c.keep_room-sent.ensures.same)
    (subst (λ sent. IsStepOnLinks spelling c.args.node.now (input.Take c.args.from message) (record answered { sent = sent }) c.take_in_room.new.node c.args.at c.args.links.now c.take_in_room.new.links) (sym c.keep_room-sent.ensures.told)
    (subst (λ links. IsStepOnLinks spelling c.args.node.now (input.Take c.args.from message) answered c.take_in_room.new.node c.args.at links c.take_in_room.new.links) c.room.ensures.same begun))
