use Rattle.top_call.proofs.EachRun.{reads_include_writes}
use Rattle.top_call.proofs.laws.reads_of_runs_include_writes.Goals as goal

pub returns : goal.returns
returns c = λ answers members keys steps some few ok lines last plays. reads_include_writes answers members keys some few steps ok lines last plays
