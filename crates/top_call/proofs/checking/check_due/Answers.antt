use Rattle.std.proofs.Common.{refl, subst}
use Rattle.top_call.specs.Asking.{Reads}
use Rattle.top_call.specs.Checking.{IsCheckDue}
use Rattle.top_call.specs.declared.words.Asked.TheVariants.{Check}
use Rattle.top_call.proofs.Refusals.{refusal_due, unread_refuses, checked_due}
use Rattle.top_call.proofs.checking.check_due.Goals as goal

pub returns-in-Ok-clause-due : goal.returns-in-Ok-clause-due
returns-in-Ok-clause-due g c =
    checked_due g.K.Keeper _ c.in-Ok.bytes.items c.args.keepers.items c.checked.result c.in-Ok.ensures.read
    (subst (λ bytes. IsCheckDue bytes c.checked.result) c.deref.ensures.value c.checked.ensures)

pub returns-in-Err-clause-due : goal.returns-in-Err-clause-due
returns-in-Err-clause-due g c =
    refusal_due g.K.Keeper Check Reads.ATrace refl _ c.args.keepers.items c.in-Err.due (unread_refuses Reads.ATrace _ c.in-Err.due c.in-Err.ensures.refused)
