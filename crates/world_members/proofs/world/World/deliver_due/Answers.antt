use Rattle.std.proofs.Common.{arith}
use Rattle.world_members.proofs.Rounding.{none_delivered, one_delivered, halts_push, halts_deliver, all_delivered}
use Rattle.world_members.proofs.Answering.{match_err}
use Rattle.world_members.proofs.world.World.deliver_due.Goals as goal

pub loop-index-init : goal.loop-index-init
loop-index-init g c = record { within = omega arith; upto = none_delivered g.T.SpelledData c.args.due c.args.self.now c.args.events.now }

pub returns-in_err-event : goal.returns-in_err-event
returns-in_err-event g c =
    match_err _ _ c.from_residual.result c.from_residual.ensures.0
    (halts_deliver g.T.SpelledData c.args.due c.loop-index.index c.args.self.now c.loop-index.self c.deliver.new.self c.args.events.now c.loop-index.events c.loop-index.auto.index c.loop-index.invariant.upto c.loop-index-test.true c.in_err-event.ensures)

pub returns-in_err-push : goal.returns-in_err-push
returns-in_err-push g c =
    match_err _ _ c.from_residual-in_err-push.result c.from_residual-in_err-push.ensures.0
    (halts_push g.T.SpelledData c.args.due c.loop-index.index c.args.self.now c.loop-index.self c.deliver.new.self c.args.events.now c.loop-index.events c.loop-index.auto.index c.loop-index.invariant.upto c.in_ok-event.event c.in_ok-event.ensures c.loop-index-test.true)

pub loop-index-preserved : goal.loop-index-preserved
loop-index-preserved g c =
    record {
      within = omega arith;
      upto = one_delivered g.T.SpelledData c.args.due c.loop-index.index c.args.self.now c.loop-index.self c.deliver.new.self c.args.events.now c.loop-index.events c.loop-index.auto.index c.loop-index.invariant.upto c.in_ok-event.event c.in_ok-event.ensures c.push.new.self c.in_ok-push.ensures.ok;
    }

pub returns : goal.returns
returns g c = all_delivered g.T.SpelledData c.args.due c.loop-index.index c.args.self.now c.loop-index.self c.loop-index.self c.args.events.now c.loop-index.events c.loop-index.auto.index c.loop-index.invariant.upto c.loop-index-test.false c.loop-index.invariant.within
