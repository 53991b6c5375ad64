use Rattle.std.proofs.Common.{refl, subst}
use Rattle.top_call.specs.Asking.{Reads}
use Rattle.top_call.specs.Upgrading.{IsUpgradeDue}
use Rattle.top_call.specs.declared.words.Asked.TheVariants.{Upgrade}
use Rattle.top_call.proofs.Refusals.{refusal_due, unread_refuses, upgraded_due}
use Rattle.top_call.proofs.upgrading.upgrade_due.Goals as goal

pub returns-in-Ok-clause-due : goal.returns-in-Ok-clause-due
returns-in-Ok-clause-due g c =
    upgraded_due g.K.Keeper _ c.in-Ok.bytes.items c.args.keepers.items c.upgraded.result c.in-Ok.ensures.read
    (subst (λ bytes. IsUpgradeDue bytes c.upgraded.result) c.deref.ensures.value c.upgraded.ensures)

pub returns-in-Err-clause-due : goal.returns-in-Err-clause-due
returns-in-Err-clause-due g c =
    refusal_due g.K.Keeper Upgrade Reads.AnEntry refl _ c.args.keepers.items c.in-Err.due (unread_refuses Reads.AnEntry _ c.in-Err.due c.in-Err.ensures.refused)
