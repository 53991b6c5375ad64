use Rattle.std.proofs.Common.{refl, sym, subst}
use Rattle.trace_checker.specs.Standing.{StandsForKey}
use Rattle.model_traces.proofs.Lines.{with_at_own}
use Rattle.trace_checker.proofs.Recording.{on_ok, taken_as, few_counted}
use Rattle.trace_checker.proofs.key_history.KeyHistory.take.Goals as goal

pub returns-in-Record : goal.returns-in-Record
returns-in-Record c = on_ok c.record.result _ _ (λ after made held stands kept may. taken_as c.record.new.self made held c.args.at _ c.args.act.now c.in-Record.is (after made held stands kept)) c.record.ensures

pub returns-in-Prune : goal.returns-in-Prune
returns-in-Prune c = on_ok c.prune.result _ _ (λ after made held stands kept may. taken_as c.prune.new.self made held c.args.at _ c.args.act.now c.in-Prune.is (after made held stands kept)) c.prune.ensures

pub returns-in-Hold : goal.returns-in-Hold
returns-in-Hold c = on_ok c.hold.result _ _ (λ after made held stands kept may.
    taken_as c.hold.new.self made held c.args.at _ c.args.act.now c.in-Hold.is (after made held stands kept (few_counted made (held c.args.at) _ c.args.act.now c.in-Hold.is may))) c.hold.ensures

pub returns-in-Show : goal.returns-in-Show
returns-in-Show c = λ made held stands kept may.
    taken_as c.args.self.now made held c.args.at _ c.args.act.now c.in-Show.is (subst (StandsForKey c.args.self.now made) (sym (with_at_own held c.args.at (held c.args.at) refl)) stands)
