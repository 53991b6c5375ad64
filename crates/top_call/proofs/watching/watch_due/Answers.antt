use Rattle.std.proofs.Common.{refl, sym, subst}
use Rattle.script_reading.specs.declared.clients.Clients.TheVariants.{Following}
use Rattle.report_lines.specs.Kept.{AreKept}
use Rattle.top_call.specs.Asking.{Reads}
use Rattle.top_call.specs.Due.{IsDueFor}
use Rattle.top_call.specs.Passages.{reading}
use Rattle.top_call.specs.declared.words.Asked.TheVariants.{Report}
use Rattle.top_call.proofs.Refusals.{refusal_due, played_due}
use Rattle.top_call.proofs.watching.watch_due.Goals as goal

pub returns-in-Ok-clause-due : goal.returns-in-Ok-clause-due
returns-in-Ok-clause-due g c =
    subst (λ keepers. IsDueFor g.K.Keeper (Report Following) (reading g.S.Source c.args.source.now c.script.new.source) c.args.keepers.items keepers.items c.told.result.due) (sym c.told.ensures.keepers)
    (played_due g.K.Keeper Following _ c.in-Ok.script c.args.keepers.items c.play_watched.result.keepers.items c.play_watched.result.ending c.told.result.due c.in-Ok.ensures.script c.play_watched.ensures c.told.ensures.due)

pub returns-in-Ok-clause-kept : goal.returns-in-Ok-clause-kept
returns-in-Ok-clause-kept g c = subst (λ keepers. AreKept g.K.Keeper c.args.keepers.items keepers.items) (sym c.told.ensures.keepers) c.play_watched.ensures.kept

pub returns-in-Err-clause-due : goal.returns-in-Err-clause-due
returns-in-Err-clause-due g c = refusal_due g.K.Keeper (Report Following) (Reads.AScript Following) refl _ c.args.keepers.items c.in-Err.due c.in-Err.ensures.refused
