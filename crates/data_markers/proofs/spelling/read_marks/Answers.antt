use Rattle.std.specs.FinMap as map
use Rattle.data_markers.specs.Spelling.{marks_from, put_by}
use Rattle.data_markers.proofs.SpellingLoops.{marks_on, marks_fail, marks_done}
use Rattle.data_markers.proofs.spelling.read_marks.Goals as goal

pub returns-in-Err : goal.returns-in-Err
returns-in-Err c = marks_fail c.in-Err.error c.loop.least c.args.count c.loop.counter c.loop.marks c.loop.rest.now (put_by map.empty (marks_from 0 c.args.count c.args.bytes.now)) c.loop-test.true c.in-Err.ensures.front c.loop.invariant

pub loop-preserved : goal.loop-preserved
loop-preserved c = marks_on c.loop.least c.args.count c.loop.counter c.loop.marks c.loop.rest.now (c.in-Ok.mark.removed, c.in-Ok.mark.marker) c.in-Ok.after.now c.put.new.self c.number-least.result (put_by map.empty (marks_from 0 c.args.count c.args.bytes.now)) c.loop-test.true c.in-Ok.ensures.front c.in_ok-put-in-Ok.ensures.ok c.number-least.ensures.value c.loop.invariant

pub returns : goal.returns
returns c = marks_done c.loop.least c.args.count c.loop.counter c.loop.marks c.loop.rest.now (put_by map.empty (marks_from 0 c.args.count c.args.bytes.now)) c.loop-test.false c.loop.invariant
