use Rattle.std.proofs.Common.{refl, sym, subst}
use Rattle.script_reading.specs.declared.clients.Clients.TheVariants.{Refused}
use Rattle.report_lines.specs.Kept.{AreKept}
use Rattle.top_call.specs.Asking.{Reads}
use Rattle.top_call.specs.Due.{IsDueFor}
use Rattle.top_call.specs.Passages.{reading}
use Rattle.top_call.specs.declared.words.Asked.TheVariants.{Trace}
use Rattle.top_call.proofs.NamedKeys.{keys_are_named}
use Rattle.top_call.proofs.Refusals.{refusal_due, traced_due}
use Rattle.top_call.proofs.tracing.trace_due.Goals as goal

pub play_traced-requires-clause-named : goal.play_traced-requires-clause-named
play_traced-requires-clause-named g c = keys_are_named Refused c.in-Ok.ensures.script.bytes c.in-Ok.script c.in-Ok.ensures.script.spells.spelled

pub play_traced-requires-clause-plain : goal.play_traced-requires-clause-plain
play_traced-requires-clause-plain g c = c.in-Ok.ensures.script.spells.plain

pub play_traced-requires-clause-unsettled : goal.play_traced-requires-clause-unsettled
play_traced-requires-clause-unsettled g c = c.in-Ok.ensures.script.spells.unsettled

pub returns-in-Ok-clause-due : goal.returns-in-Ok-clause-due
returns-in-Ok-clause-due g c =
    subst (λ keepers. IsDueFor g.K.Keeper Trace (reading g.S.Source c.args.source.now c.traceable.new.source) c.args.keepers.items keepers.items c.told.result.due) (sym c.told.ensures.keepers)
    (traced_due g.K.Keeper _ c.in-Ok.script c.args.keepers.items c.play_traced.result.keepers.items c.play_traced.result.ending c.told.result.due c.in-Ok.ensures.script c.play_traced.ensures c.told.ensures.due)

pub returns-in-Ok-clause-kept : goal.returns-in-Ok-clause-kept
returns-in-Ok-clause-kept g c = subst (λ keepers. AreKept g.K.Keeper c.args.keepers.items keepers.items) (sym c.told.ensures.keepers) c.play_traced.ensures.kept

pub returns-in-Err-clause-due : goal.returns-in-Err-clause-due
returns-in-Err-clause-due g c = refusal_due g.K.Keeper Trace Reads.AnUnsettledScript refl _ c.args.keepers.items c.in-Err.due c.in-Err.ensures.refused
