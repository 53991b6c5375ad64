use Rattle.std.proofs.Common.{ℕ, ◌∙◌, refl, arith, subst}
use Rattle.std.specs.Prelude.{◌==◌}
use Rattle.std.specs.Vec.{with_item}
use Rattle.member_node.proofs.Standing.{on_ok}
use Rattle.world_places.specs.declared.links.Link.{Link}
use Rattle.world_places.specs.Sending.{HasRoom}
use Rattle.world_places.proofs.Sendings.{room_kept, room_made, same_row}
use Rattle.world_places.proofs.sending.reserve_on.Goals as goal

pub returns-clause-same : goal.returns-clause-same
returns-clause-same g c = same_row c.args.row.now c.from-index.result c.index_mut-link.result.now c.grow.new.messages c.index_mut-link.ensures.value c.grow.ensures.items

pub returns-clause-room : goal.returns-clause-room
returns-clause-room g c =
    let row = c.args.row.now in
    let link : Link g.row.M.Denot = record (c.index_mut-link.result.now) { messages = c.grow.new.messages } in
    let index = c.from-index.result in
    on_ok c.grow.result
    (λ room. subst (λ (to : ℕ). HasRoom (λ id. id == to) c.args.room (with_item row index link)) (c.from-index.ensures ∙ c.number.ensures.value)
    (room_made row (with_item row index link) c.args.room index link (omega (arith, row.ok.0)) refl room)) c.grow.ensures.ok

pub returns-clause-others : goal.returns-clause-others
returns-clause-others g c = λ ids has.
    let row = c.args.row.now in
    let old = c.index_mut-link.result.now in
    let link : Link g.row.M.Denot = record old { messages = c.grow.new.messages } in
    let index = c.from-index.result in
    room_kept ids row (with_item row index link) c.args.room index old link (omega (arith, row.ok.0)) c.index_mut-link.ensures.value refl c.grow.ensures.len c.grow.ensures.capacity has
