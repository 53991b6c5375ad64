use Rattle.model_traces.proofs.Consistency.{consistent_trace, shows_alike}
use Rattle.model_traces.proofs.laws.lawful_traces_are_consistent.Goals as goal

pub returns-clause-consistent : goal.returns-clause-consistent
returns-clause-consistent g c = λ D value_text trace small lawful. consistent_trace D value_text trace small lawful

pub returns-clause-alike : goal.returns-clause-alike
returns-clause-alike g c = λ D value_text trace small lawful. shows_alike D value_text trace small lawful
