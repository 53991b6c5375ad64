use Rattle.std.proofs.Common.{refl, sym, subst}
use Rattle.script_reading.specs.declared.clients.Clients.TheVariants.{Refused}
use Rattle.report_lines.specs.Kept.{AreKept}
use Rattle.top_call.specs.Asking.{Reads}
use Rattle.top_call.specs.Behind.{untold}
use Rattle.top_call.specs.Due.{IsDueFor}
use Rattle.top_call.specs.Passages.{reading}
use Rattle.top_call.specs.declared.words.Asked.TheVariants.{Behind}
use Rattle.top_call.proofs.Refusals.{refusal_due, played_behind}
use Rattle.top_call.proofs.behind.behind_due.Goals as goal

pub returns-in-Ok-clause-due : goal.returns-in-Ok-clause-due
returns-in-Ok-clause-due g c =
    subst (λ keepers. IsDueFor g.K.Keeper (Behind c.args.period) (reading g.S.Source c.args.source.now c.script.new.source) c.args.keepers.items keepers.items c.told.result.due) (sym c.told.ensures.keepers)
    (played_behind g.K.Keeper c.args.period _ c.in-Ok.script c.args.keepers.items c.play_behind.result.keepers.items c.play_behind.result.ending c.told.result.due c.in-Ok.ensures.script c.play_behind.ensures c.told.ensures.due)

pub returns-in-Ok-clause-kept : goal.returns-in-Ok-clause-kept
returns-in-Ok-clause-kept g c = subst (λ keepers. AreKept (untold g.K.Keeper) c.args.keepers.items keepers.items) (sym c.told.ensures.keepers) c.play_behind.ensures.kept

pub returns-in-Err-clause-due : goal.returns-in-Err-clause-due
returns-in-Err-clause-due g c = refusal_due g.K.Keeper (Behind c.args.period) (Reads.AScript Refused) refl _ c.args.keepers.items c.in-Err.due c.in-Err.ensures.refused
