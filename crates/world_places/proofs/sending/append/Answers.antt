use Rattle.std.proofs.Common.{◌∙◌, ◌+◌, ◌<◌, ◌++◌, ◌∷◌, [], ap, arith, length, refl, List}
use Rattle.std.specs.Prelude.{if◌then◌else◌}
use Rattle.std.specs.Vec.{with_item}
use Rattle.world_places.specs.declared.links.Link.{Link}
use Rattle.world_places.specs.Channels.{channel_of, extended}
use Rattle.world_places.proofs.Lists.{mapped_set, mapped_past}
use Rattle.world_places.proofs.Sendings.{room_at, room_after}
use Rattle.world_places.proofs.sending.append.Goals as goal

pub returns-then-to-len-clause-sent : goal.returns-then-to-len-clause-sent
returns-then-to-len-clause-sent g c = λ ids room has in_ids.
    let row = c.args.row.now in
    let old = c.index_mut-link.result.now in
    let within : c.args.to < length row.items = omega (arith, row.ok.0) in
    let here = room_at ids row (room + 1) c.args.to old within in_ids c.index_mut-link.ensures.value has in
    let pushed = c.push.ensures.succeeds (omega arith) in
    mapped_set (channel_of {M = g.row.M.Denot}) (extended (c.args.message ∷ [])) row.items c.args.to _ old within c.index_mut-link.ensures.value
    (ap (λ (messages : List g.row.M.Denot). record { messages = messages; next = old.next }) (c.push.ensures.items ∙ ap (λ b. if b then old.messages.items ++ c.args.message ∷ [] else old.messages.items) pushed))

pub returns-then-to-len-clause-room : goal.returns-then-to-len-clause-room
returns-then-to-len-clause-room g c = λ ids room has.
    let row = c.args.row.now in
    let old = c.index_mut-link.result.now in
    let link : Link g.row.M.Denot = record old { messages = c.push.new.self } in
    room_after ids row (with_item row c.args.to link) room c.args.to old link (omega (arith, row.ok.0)) c.index_mut-link.ensures.value refl has (omega (arith, c.push.ensures.upper_bound)) (omega (arith, c.push.ensures.capacity))

pub returns-else-to-len-clause-sent : goal.returns-else-to-len-clause-sent
returns-else-to-len-clause-sent g c = λ ids room has in_ids. mapped_past (channel_of {M = g.row.M.Denot}) (extended (c.args.message ∷ [])) c.args.row.now.items c.args.to (omega (arith, c.args.row.now.ok.0))
