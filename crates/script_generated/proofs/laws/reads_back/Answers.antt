use Rattle.script_generated.proofs.Spelled.{spelled}
use Rattle.script_generated.proofs.laws.reads_back.Goals as goal

pub returns : goal.returns
returns c = spelled
