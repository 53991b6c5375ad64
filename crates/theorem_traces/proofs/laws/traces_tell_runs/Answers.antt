use Rattle.theorem_traces.proofs.LawfulRuns.{trace_tells}
use Rattle.theorem_traces.proofs.laws.traces_tell_runs.Goals as goal

pub returns : goal.returns
returns g c = λ D value_text members keys answers steps. trace_tells D value_text members keys answers steps
