use Rattle.top_call.proofs.Judgements.{said_due}
use Rattle.top_call.proofs.checking.checked.Goals as goal

pub returns-in-Ok : goal.returns-in-Ok
returns-in-Ok c = said_due c.args.bytes.now c.in-Ok.judgement c.judgement_due.result c.in-Ok.ensures c.judgement_due.ensures
