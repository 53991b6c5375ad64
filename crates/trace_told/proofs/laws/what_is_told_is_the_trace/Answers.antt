use Rattle.trace_told.proofs.Traced.{is_the_trace}
use Rattle.trace_told.proofs.laws.what_is_told_is_the_trace.Goals as goal

pub returns : goal.returns
returns g c = λ D value_text members keys answers steps. is_the_trace D value_text members keys answers steps
