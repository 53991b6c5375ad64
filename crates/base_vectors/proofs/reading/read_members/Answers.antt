use Rattle.base_vectors.specs.Spelling.{members_from, added_by}
use Rattle.base_vectors.proofs.Readings.{members_on, members_fail, members_done}
use Rattle.base_vectors.proofs.reading.read_members.Goals as goal

pub returns-in-Err : goal.returns-in-Err
returns-in-Err c = members_fail c.in-Err.error c.loop.least c.args.count c.loop.counter c.loop.set c.loop.rest.now (added_by 0 (members_from 0 c.args.count c.args.bytes.now)) c.loop-test.true c.in-Err.ensures c.loop.invariant

pub loop-preserved : goal.loop-preserved
loop-preserved c = members_on c.loop.least c.args.count c.loop.counter c.loop.set c.loop.rest.now c.in-Ok.found.0 c.in-Ok.found.1.now c.with-set.result c.number-least.result (added_by 0 (members_from 0 c.args.count c.args.bytes.now)) c.loop-test.true c.in-Ok.ensures c.with-set.ensures.bits c.number-least.ensures.value c.loop.invariant

pub returns : goal.returns
returns c = members_done c.loop.least c.args.count c.loop.counter c.loop.set c.loop.rest.now (added_by 0 (members_from 0 c.args.count c.args.bytes.now)) c.loop-test.false c.loop.invariant
