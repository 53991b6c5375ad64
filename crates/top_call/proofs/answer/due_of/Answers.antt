use Rattle.std.proofs.Common.{append_assoc}
use Rattle.top_call.proofs.answer.due_of.Goals as goal

pub returns-in-Ok : goal.returns-in-Ok
returns-in-Ok c = rw c.in-NotAScript.is (simp append_assoc c.in-Ok.ensures.ok)
