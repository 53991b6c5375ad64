use Rattle.trace_judged.proofs.Once as proof
use Rattle.trace_judged.proofs.laws.judged_once.Goals as goal

pub returns : goal.returns
returns c = proof.judged_once
