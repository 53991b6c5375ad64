use Rattle.std.proofs.Common.{sym, ap, subst, ◌∙◌, arith, inl, inr}
use Rattle.std.specs.Prelude.{slice_get}
use Rattle.model_history.specs.History.{no_records}
use Rattle.model_history.proofs.HistoryLaws.{slice_get-push}
use Rattle.trace_checker.specs.Standing.{StandsForKey}
use Rattle.trace_checker.proofs.Traced.{stand_first}
use Rattle.trace_checker.proofs.checking.begin.Goals as goal

pub loop-alloc-preserved : goal.loop-alloc-preserved
loop-alloc-preserved c = (
  omega (arith, c.in_ok-push.ensures.len, c.loop-alloc-test.true, c.len.ensures),
  λ n code there. elim (slice_get-push c.loop-alloc.codes.items _ code n (ap (λ xs. slice_get xs n) (sym c.in_ok-push.ensures.items) ∙ there)) [
    | inl old ↦ c.loop-alloc.invariant.1 n code old
    | inr new ↦ subst (λ x. StandsForKey x no_records (λ i. no_records)) new.1 c.new.ensures
  ],
)

pub returns-clause-stand : goal.returns-clause-stand
returns-clause-stand c = stand_first c.args.keys.now _ (omega (arith, c.loop-alloc.invariant.0, c.loop-alloc-test.false)) c.loop-alloc.invariant.1
