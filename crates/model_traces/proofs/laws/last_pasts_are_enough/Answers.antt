use Rattle.model_traces.proofs.Tests.{last_pasts_are_enough}
use Rattle.model_traces.proofs.laws.last_pasts_are_enough.Goals as goal

pub returns : goal.returns
returns g c = λ made known history few. last_pasts_are_enough made history known few
