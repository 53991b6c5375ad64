use Rattle.std.proofs.Common.{[], ◌∷◌, ◌++◌, refl}
use Rattle.base_vectors.specs.IdSets.{members_in}
use Rattle.data_orset.specs.Reading.{dots_in}
use Rattle.data_orset.proofs.Loops.{dots_go_on, dots_end, dots_done, placed_more}
use Rattle.data_orset.proofs.reading.read_dots.Goals as goal

pub returns-in-Err : goal.returns-in-Err
returns-in-Err c =
    dots_end (members_in c.args.barred) c.loop.invariant.0 c.args.count c.loop.counter c.loop.origin c.loop.seq c.loop.rest.now (dots_in (members_in c.args.barred) c.args.count 0 0 c.args.bytes.now)
    c.in-Err.error c.loop-test.true c.in-Err.ensures c.loop.invariant.1

pub loop-preserved : goal.loop-preserved
loop-preserved c = (
  c.loop.invariant.0 ++ c.in-Ok.dot ∷ [],
  rw c.number-origin.ensures.value
      (dots_go_on (members_in c.args.barred) c.loop.invariant.0 c.args.count c.loop.counter c.loop.origin c.loop.seq c.loop.rest.now (dots_in (members_in c.args.barred) c.args.count 0 0 c.args.bytes.now)
      c.in-Ok.dot c.in-Ok.after.now c.loop-test.true c.in-Ok.ensures c.loop.invariant.1),
  placed_more c.args.all.now c.loop.all c.push.new.self c.args.text.now c.loop.invariant.0 c.in-Ok.dot c.in_ok-push-in-Ok.ensures c.loop.invariant.2,
)

pub returns : goal.returns
returns c = (
  (c.loop.invariant.0, c.loop.rest.now),
  dots_done (members_in c.args.barred) c.loop.invariant.0 c.args.count c.loop.counter c.loop.origin c.loop.seq c.loop.rest.now (dots_in (members_in c.args.barred) c.args.count 0 0 c.args.bytes.now)
      c.loop-test.false c.loop.invariant.1,
  (refl, c.loop.invariant.2),
)
