use Rattle.std.proofs.Common.{◌∷◌, [], ◌∙◌, ap, arith, List}
use Rattle.world_places.specs.Channels.{channel_of, row_of, made, extended}
use Rattle.world_places.proofs.Lists.{mapped_set, mapped_past}
use Rattle.world_places.proofs.Made.{made_same, changed_made}
use Rattle.world_places.proofs.Sendings.{same_row}
use Rattle.member_node.proofs.Standing.{on_err}
use Rattle.world_places.proofs.links.append_in.Goals as goal

pub returns-in_err-make_row-clause-err : goal.returns-in_err-make_row-clause-err
returns-in_err-make_row-clause-err g c = on_err c.from_residual.result (ap made c.in_err-make_row.ensures.err)

pub returns-in_err-push-clause-err : goal.returns-in_err-push-clause-err
returns-in_err-push-clause-err g c =
    let row = c.make_row.new.row in
    on_err c.from_residual-in_err-push.result (made_same (row_of c.args.row.now) _ (same_row row c.args.to c.index_mut-link.result.now c.push.new.self c.index_mut-link.ensures.value c.in_err-push.ensures.items ∙ c.in_ok-make_row.ensures.ok))

pub returns-in_ok-push-clause-ok : goal.returns-in_ok-push-clause-ok
returns-in_ok-push-clause-ok g c =
    let row = c.make_row.new.row in
    changed_made (extended (c.args.message ∷ [])) c.args.to (row_of c.args.row.now) (row_of row) _ c.in_ok-make_row.ensures.ok
    (mapped_set (channel_of {M = g.row.M.Denot}) (extended (c.args.message ∷ [])) row.items c.args.to _ c.index_mut-link.result.now (omega (arith, row.ok.0)) c.index_mut-link.ensures.value
    (ap (λ (messages : List g.row.M.Denot). record { messages = messages; next = c.index_mut-link.result.now.next }) c.in_ok-push.ensures.items))

pub returns-else-to-len-clause-ok : goal.returns-else-to-len-clause-ok
returns-else-to-len-clause-ok g c =
    let row = c.make_row.new.row in
    changed_made (extended (c.args.message ∷ [])) c.args.to (row_of c.args.row.now) (row_of row) _ c.in_ok-make_row.ensures.ok
    (mapped_past (channel_of {M = g.row.M.Denot}) (extended (c.args.message ∷ [])) row.items c.args.to (omega (arith, row.ok.0)))
