use Rattle.std.proofs.Common.{length, ap, ◌∙◌}
use Rattle.trace_checker.proofs.Judging.{next_line, none_there}
use Rattle.trace_checker.proofs.checking.check.Goals as goal

pub loop-place-preserved : goal.loop-place-preserved
loop-place-preserved c = (
  c.in_ok-rule.ensures.count ∙ ap length c.as_slice-keys.ensures,
  next_line c.args.trace.now.keys c.as_slice-keys.result.now c.as_slice-keys.ensures c.args.trace.now.lines c.as_slice-line-items.result.now c.as_slice-line-items.ensures c.loop-place.place c.line-item.result c.loop-place-test.true c.line-item.is
      c.in_ok-rule.field-0 (none_there c.in_ok-rule.field-0 c.in_default.not-Some) c.loop-place.codes.items c.judge.new.codes.items c.in_ok-rule.ensures.rule c.in_ok-rule.ensures.taken c.loop-place.invariant.1.0 c.loop-place.invariant.1.1 _ c.loop-place.invariant.1.2,
)
