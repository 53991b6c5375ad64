use Rattle.std.specs.FinMap as map
use Rattle.base_vectors.specs.IdSets.{members_in}
use Rattle.base_vectors.specs.Spelling.{pairs_in, raised_by}
use Rattle.base_vectors.proofs.Readings.{pair_positive, pairs_on, pairs_fail, pairs_done}
use Rattle.base_vectors.proofs.reading.read_pairs.Goals as goal

pub raise-requires : goal.raise-requires
raise-requires c = pair_positive c.args.most (members_in c.args.barred) c.loop.least c.loop.rest.now _ _ c.in-Ok.ensures

pub returns-in-Err : goal.returns-in-Err
returns-in-Err c = pairs_fail c.in-Err.error c.args.most (members_in c.args.barred) c.loop.least c.args.count c.loop.counter c.loop.numbers c.loop.rest.now (raised_by map.empty (pairs_in c.args.most (members_in c.args.barred) 0 c.args.count c.args.bytes.now)) c.loop-test.true c.in-Err.ensures c.loop.invariant

pub loop-preserved : goal.loop-preserved
loop-preserved c = pairs_on c.args.most (members_in c.args.barred) c.loop.least c.args.count c.loop.counter c.loop.numbers c.loop.rest.now c.in-Ok.pair c.in-Ok.after.now c.raise.new.self c.number-least.result (raised_by map.empty (pairs_in c.args.most (members_in c.args.barred) 0 c.args.count c.args.bytes.now)) c.loop-test.true c.in-Ok.ensures c.in_ok-raise-in-Ok.ensures.ok c.number-least.ensures.value c.loop.invariant

pub returns : goal.returns
returns c = pairs_done c.args.most (members_in c.args.barred) c.loop.least c.args.count c.loop.counter c.loop.numbers c.loop.rest.now (raised_by map.empty (pairs_in c.args.most (members_in c.args.barred) 0 c.args.count c.args.bytes.now)) c.loop-test.false c.loop.invariant
