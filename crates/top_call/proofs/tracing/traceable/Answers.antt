use Rattle.std.proofs.Common.{subst}
use Rattle.trace_played.specs.Traced.{HasNoSettle}
use Rattle.top_call.specs.Passages.{reading}
use Rattle.top_call.specs.Tracing.{IsSettleAt}
use Rattle.top_call.proofs.Traceable.{script_refuses, settle_refuses, is_traced}
use Rattle.top_call.proofs.tracing.traceable.Goals as goal

pub returns-in-Err-clause-refused : goal.returns-in-Err-clause-refused
returns-in-Err-clause-refused g c = script_refuses (reading g.S.Source c.args.source.now c.script.new.source) c.in-Err.due c.in-Err.ensures.refused

pub returns-in-Some-clause-refused : goal.returns-in-Some-clause-refused
returns-in-Some-clause-refused g c =
    settle_refuses (reading g.S.Source c.args.source.now c.script.new.source) c.in-Ok.script (c.in-Ok.ensures.script) c.in-Some.step c.settle_due.result
    (subst (λ steps. IsSettleAt steps c.in-Some.step) c.as_slice.ensures c.in-Some.ensures) c.settle_due.ensures

pub returns-in-None-clause-script : goal.returns-in-None-clause-script
returns-in-None-clause-script g c =
    is_traced (reading g.S.Source c.args.source.now c.script.new.source) c.in-Ok.script c.in-Ok.ensures.script (subst HasNoSettle c.as_slice.ensures c.in-None.ensures)
