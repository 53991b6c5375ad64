use Rattle.trace_checker.proofs.Traced.{undeclared}
use Rattle.trace_checker.proofs.checking.judge.Goals as goal

pub returns-in-None-clause-rule : goal.returns-in-None-clause-rule
returns-in-None-clause-rule c = λ state stand. undeclared c.args.keys.now state c.args.line.now c.in-None.ensures.place
