use Rattle.std.proofs.Common.{ap, arith, refl}
use Rattle.world_places.specs.Channels.{channel_of, row_of, made, due_from}
use Rattle.world_places.proofs.Lists.{mapped_set, mapped_past}
use Rattle.world_places.proofs.Made.{changed_made}
use Rattle.member_node.proofs.Standing.{on_err}
use Rattle.world_places.proofs.links.set_next_in.Goals as goal

pub returns-in_err-make_row-clause-err : goal.returns-in_err-make_row-clause-err
returns-in_err-make_row-clause-err g c = on_err c.from_residual.result (ap made c.in_err-make_row.ensures.err)

pub returns-then-to-len-clause-ok : goal.returns-then-to-len-clause-ok
returns-then-to-len-clause-ok g c =
    let row = c.make_row.new.row in
    changed_made (due_from c.args.next) c.args.to (row_of c.args.row.now) (row_of row) _ c.in_ok-make_row.ensures.ok
    (mapped_set (channel_of {M = g.row.M.Denot}) (due_from c.args.next) row.items c.args.to _ c.index_mut-link.result.now (omega (arith, row.ok.0)) c.index_mut-link.ensures.value refl)

pub returns-else-to-len-clause-ok : goal.returns-else-to-len-clause-ok
returns-else-to-len-clause-ok g c =
    let row = c.make_row.new.row in
    changed_made (due_from c.args.next) c.args.to (row_of c.args.row.now) (row_of row) _ c.in_ok-make_row.ensures.ok
    (mapped_past (channel_of {M = g.row.M.Denot}) (due_from c.args.next) row.items c.args.to (omega (arith, row.ok.0)))
