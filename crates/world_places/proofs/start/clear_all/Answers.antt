use Rattle.std.proofs.Common.{arith}
use Rattle.world_places.proofs.Starting.{all_cleared, cleared_at, refused_at}
use Rattle.world_places.proofs.start.clear_all.Goals as goal

pub returns-in-Err-clause-clears : goal.returns-in-Err-clause-clears
returns-in-Err-clause-clears g c =
    refused_at g.K.Keeper c.loop-place.place c.from.result c.from.ensures c.args.keepers.now.items c.loop-place.keepers.items c.index_mut.result.now c.forget.new.keeper (omega (arith, c.loop-place.keepers.ok.0)) c.index_mut.ensures.value c.loop-place.invariant
    c.in-Err.error c.in-Err.ensures

pub loop-place-preserved : goal.loop-place-preserved
loop-place-preserved g c =
    cleared_at g.K.Keeper c.loop-place.place c.from.result c.from.ensures c.args.keepers.now.items c.loop-place.keepers.items c.index_mut.result.now c.forget.new.keeper (omega (arith, c.loop-place.keepers.ok.0)) c.index_mut.ensures.value c.loop-place.invariant
    c.in_default.ensures

pub returns-clause-clears : goal.returns-clause-clears
returns-clause-clears g c = all_cleared g.K.Keeper c.loop-place.place c.args.keepers.now.items c.loop-place.keepers.items (omega (arith, c.args.keepers.now.ok.0)) c.loop-place.invariant
