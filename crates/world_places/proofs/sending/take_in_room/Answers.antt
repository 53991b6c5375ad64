use Rattle.std.proofs.Common.{◌≡◌, ◌<◌, ◌∙◌, ap, refl, sym, subst, arith, length, length-set, map, Some}
use Rattle.std.specs.Prelude.{option_copied, is_some, ◌==◌}
use Rattle.std.proofs.lemmas.List.{get_or-set_same}
use Rattle.std.specs.Vec.{with_item}
use Rattle.member_messages.specs.declared.message.Message.{Message}
use Rattle.member_node.specs.declared.input.Input.TheVariants as input
use Rattle.member_node.specs.Steps.{MakesStep}
use Rattle.world_places.specs.Channels.{channel_at, message_on, row_of, channels_in}
use Rattle.world_places.specs.Sending.{HasRoom}
use Rattle.member_node.proofs.Standing.{unchanged_same, on_err}
use Rattle.world_places.proofs.Sendings.{same_rows, steps_on_row, step_made, steps_on_links}
use Rattle.world_places.proofs.sending.take_in_room.Goals as goal

pub returns-in_err-reserve_made-clause-err : goal.returns-in_err-reserve_made-clause-err
returns-in_err-reserve_made-clause-err g c =
    let rows = c.links.inside.rows in
    on_err c.from_residual.result
    (unchanged_same c.args.node.now, same_rows rows.items c.from-sender.result c.index_mut.result.now c.reserve_made.new.row c.index_mut.ensures.value c.reserve_made.ensures.same ∙ c.links.view_is)

pub unreachable-requires : goal.unreachable-requires
unreachable-requires g c =
    let rows = c.links.inside.rows in
    let seen = same_rows rows.items c.from-sender.result c.index_mut.result.now c.reserve_made.new.row c.index_mut.ensures.value c.reserve_made.ensures.same ∙ c.links.view_is in
    let there =
    c.message_in.ensures
    ∙ (λ i. message_on (channel_at ((ap (map (channels_in {M = Message g.row.T.Denot g.row.T-Kind.Denot g.row.T-Op.Denot g.row.T-Delta.Denot g.T.Replica})) c.deref.ensures.value ∙ seen) i) ((c.from.ensures ∙ c.number-2.ensures.value) i) ((c.from-sender.ensures ∙ c.number.ensures.value) i)) c.args.index) in
    let none = ap is_some (sym (ap option_copied c.in_default.is) ∙ there) ∙ c.requires.message in
    cc none

pub returns-in_err-output-clause-err : goal.returns-in_err-output-clause-err
returns-in_err-output-clause-err g c =
    let rows = c.links.inside.rows in
    on_err c.from_residual-in_err-output.result
    (c.in_err-output.ensures.unchanged, same_rows rows.items c.from-sender.result c.index_mut.result.now c.reserve_made.new.row c.index_mut.ensures.value c.reserve_made.ensures.same ∙ c.links.view_is)

pub returns-clause-ok : goal.returns-clause-ok
returns-clause-ok g c = λ message is.
    let spelling = g.T.SpelledData in
    let node = c.args.node.now in
    let rows = c.links.inside.rows in
    let sender = c.from-sender.result in
    let roomy = c.reserve_made.new.row in
    let later = with_item rows sender roomy in
    let row = c.index_mut-2.result.now in
    let after = c.take.new.self in
    let output = c.in_ok-output.output in
    let here : sender ≡ c.args.at = c.from-sender.ensures ∙ c.number.ensures.value in
    let within : sender < length rows.items = (let a = c.links.invariant in let b = c.from-sender.ensures in let d = c.number.ensures.range in omega arith) in
    let within_later : sender < length later.items = (let same = length-set rows.items sender roomy in omega arith) in
    let seen = same_rows rows.items sender c.index_mut.result.now roomy c.index_mut.ensures.value c.reserve_made.ensures.same ∙ c.links.view_is in
    let there =
    c.message_in.ensures
    ∙ (λ i. message_on (channel_at ((ap (map (channels_in {M = Message g.row.T.Denot g.row.T-Kind.Denot g.row.T-Op.Denot g.row.T-Delta.Denot g.T.Replica})) c.deref.ensures.value ∙ seen) i) ((c.from.ensures ∙ c.number-2.ensures.value) i) (here i)) c.args.index) in
    let found : c.in-Some.message.now ≡ message = (let e : Some c.in-Some.message.now ≡ Some message = sym (ap option_copied c.in-Some.is) ∙ there ∙ is in cc e) in
    let made = subst (λ (m : Message g.row.T.Denot g.row.T-Kind.Denot g.row.T-Op.Denot g.row.T-Delta.Denot g.T.Replica). MakesStep spelling node (input.Take c.args.from m) output after) found c.in_ok-output.ensures.step in
    let given : roomy ≡ row = sym (c.index_mut-2.ensures.value ∙ get_or-set_same rows.items sender roomy row within) in
    let has = subst (HasRoom (λ id. id == c.args.from) 1) given c.in_ok-reserve_made.ensures.room in
    let whole : row_of row ≡ channels_in row = subst (λ r. row_of r ≡ channels_in r) given (c.in_ok-reserve_made.ensures.made ∙ sym c.reserve_made.ensures.same) in
    steps_on_links spelling node (input.Take c.args.from message) c.posted.result after later.items sender c.args.at row c.posted.new.row c.args.links.now within_later c.index_mut-2.ensures.value here seen
    (step_made spelling node (input.Take c.args.from message) c.posted.result after (row_of row) (row_of row) (row_of c.posted.new.row) whole
    (steps_on_row spelling node (input.Take c.args.from message) c.posted.result after output row row c.posted.new.row c.args.sent node.view 1 made c.posted.ensures.reply c.posted.ensures.finished refl refl refl has c.posted.ensures.row c.posted.ensures.told c.requires.empty c.requires.room))
