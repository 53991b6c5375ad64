use Rattle.std.proofs.Common.{arith}
use Rattle.world_places.specs.Channels.{channel_of, passed}
use Rattle.world_places.proofs.Lists.{mapped_set, mapped_past, passed_next, passed_other}
use Rattle.world_places.proofs.links.pass_in.Goals as goal

pub returns-then-link-index : goal.returns-then-link-index
returns-then-link-index g c =
    let row = c.args.row.now in
    mapped_set (channel_of {M = g.row.M.Denot}) (passed c.args.index) row.items c.args.to _ c.index_mut-link.result.now (omega (arith, row.ok.0)) c.index_mut-link.ensures.value (passed_next c.args.index (channel_of c.index_mut-link.result.now) c.if-link-index.true)

pub returns-else-link-index : goal.returns-else-link-index
returns-else-link-index g c =
    let row = c.args.row.now in
    mapped_set (channel_of {M = g.row.M.Denot}) (passed c.args.index) row.items c.args.to _ c.index_mut-link.result.now (omega (arith, row.ok.0)) c.index_mut-link.ensures.value (passed_other c.args.index (channel_of c.index_mut-link.result.now) c.if-link-index.false)

pub returns-else-to-len : goal.returns-else-to-len
returns-else-to-len g c = mapped_past (channel_of {M = g.row.M.Denot}) (passed c.args.index) c.args.row.now.items c.args.to (omega (arith, c.args.row.now.ok.0))
