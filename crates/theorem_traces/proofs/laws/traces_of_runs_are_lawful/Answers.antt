use Rattle.theorem_traces.proofs.LawfulRuns.{trace_is_lawful}
use Rattle.theorem_traces.proofs.laws.traces_of_runs_are_lawful.Goals as goal

pub returns : goal.returns
returns g c = λ D value_text members keys answers steps. trace_is_lawful D value_text members keys answers steps
