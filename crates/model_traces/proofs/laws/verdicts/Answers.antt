use Rattle.model_traces.proofs.Judging.{verdict_lawful, verdict_broken}
use Rattle.model_traces.proofs.laws.verdicts.Goals as goal

pub returns-clause-lawful : goal.returns-clause-lawful
returns-clause-lawful g c = verdict_lawful

pub returns-clause-broken : goal.returns-clause-broken
returns-clause-broken g c = verdict_broken
