use Rattle.std.proofs.Common.{◌≡◌, refl, inl, inr}
use Rattle.top_call.specs.Due.{text_due}
use Rattle.top_call.proofs.top.written.Goals as goal

pub returns-in-Ok-clause-status : goal.returns-in-Ok-clause-status
returns-in-Ok-clause-status g c =
    let text : c.bytes.result.now ≡ text_due c.args.answer.due = c.bytes.ensures in
    inl (c.status.ensures, rw text at c.in-Ok.ensures.all)

pub returns-clause-status : goal.returns-clause-status
returns-clause-status g c =
    let text : c.bytes.result.now ≡ text_due c.args.answer.due = c.bytes.ensures in
    inr (refl, c.in-Err.ensures.cause.failed, rw text at c.in-Err.ensures.prefix)
